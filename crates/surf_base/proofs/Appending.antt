-- Pieces appended one after another.
use Rattle.std.proofs.Common.{◌≡◌, ℕ, Option, Some, None, List, [], ◌++◌, refl, sym, ap, subst, append_assoc, append-nil}
use Rattle.surf_base.specs.Sink.{Appends, AppendsPart}

-- nothing was appended yet
pub appends_nothing : (text : Option (List ℕ)) → Appends text text []
appends_nothing None = tt
appends_nothing (Some old) = ap (λ t. Some t) (sym (append-nil old))

-- one piece and then another
pub appends_then : (old now new : Option (List ℕ)) (first second : List ℕ) → Appends old now first → Appends now new second → Appends old new (first ++ second)
appends_then None now new first second a b = tt
appends_then (Some old) None new first second a b = cc
appends_then (Some old) (Some now) new first second a b =
    let same : now ≡ old ++ first = cc in
    rw (b, same, append_assoc) refl

-- where the piece is written otherwise
pub appends_same : (old new : Option (List ℕ)) (first second : List ℕ) → first ≡ second → Appends old new first → Appends old new second
appends_same old new first second same a = subst (λ piece. Appends old new piece) same a

-- a text that isn't told
pub part_untold : (new : Option (List ℕ)) (piece : List ℕ) → AppendsPart None new piece
part_untold new piece = record { part = []; rest = piece; piece_is = refl; appended = tt }

-- nothing of a piece, and all of it
pub part_nothing : (text : Option (List ℕ)) (piece : List ℕ) → AppendsPart text text piece
part_nothing text piece = record { part = []; rest = piece; piece_is = refl; appended = appends_nothing text }

pub part_whole : (old new : Option (List ℕ)) (piece : List ℕ) → Appends old new piece → AppendsPart old new piece
part_whole old new piece all = record { part = piece; rest = []; piece_is = sym (append-nil piece); appended = all }

-- a piece and a part of the next are a part of both
pub part_then : (old now new : Option (List ℕ)) (first second : List ℕ) → Appends old now first → AppendsPart now new second
    → AppendsPart old new (first ++ second)
part_then old now new first second all some = record {
  part = first ++ some.part;
  rest = some.rest;
  piece_is = rw (some.piece_is, append_assoc) refl;
  appended = appends_then old now new first some.part all some.appended;
}
