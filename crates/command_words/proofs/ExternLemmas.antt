-- The kinds of externs, part by part.
use Rattle.std.proofs.Common.{◌≡◌, ◌<◌, ◌≤◌, ◌==◌, nat_lt, Bool, true, false, List, [], ◌∷◌, ◌++◌, length, Option, Some, None, Err, refl, sym, ◌∙◌, ap, arith, append_assoc, append-nil, if◌then◌else◌}
use Rattle.std.specs.List.{position_or_len, before_first, after_first, slice_split}
use Rattle.std.proofs.lemmas.Bool.{lt-ltb, le-ltb, eqb-true, eqb-false}
use Rattle.std.proofs.lemmas.List.Splits.{slice_split_none, slice_split_first}
use Rattle.std.proofs.lemmas.List.Sums.{fails_before_first}
use Rattle.clap.specs.Walk.{Text}
use Rattle.image_map.specs.declared.region.Kind.{Kind}
use Rattle.command_words.specs.declared.line.ExternKind.{ExternKind}
use Rattle.command_words.specs.declared.line.WordsError.{WordsError}
use Rattle.command_words.specs.declared.line.WordsError.TheVariants.{Refused, Memory}
use Rattle.command_words.specs.Reading.{◌>>=◌, Tells}
use Rattle.command_words.specs.Values.{kind, extern_kind, extern_kinds, is_comma, is_colon}

-- without a colon nothing is read
pub no_colon : (text : Text) → position_or_len is_colon text ≡ length text → extern_kind text ≡ None
unfolding extern_kind
no_colon text none = let past : length text ≤ position_or_len is_colon text = omega arith in rw (le-ltb (position_or_len is_colon text) (length text) past) refl

-- a name and the text of a kind
abbrev pub named : Text → Option Kind → Option ExternKind
named name found = if nat_lt 0 (length name) then (do
  k ← found
  Some (record { name = name; kind = k })) else None

pub at_colon : (text name rest : Text) → position_or_len is_colon text < length text → name ≡ before_first is_colon text → rest ≡ after_first is_colon text
    → extern_kind text ≡ named name (kind rest)
unfolding extern_kind
at_colon text name rest there front back = rw (front, back, lt-ltb (position_or_len is_colon text) (length text) there) refl

pub named_empty : (name : Text) (found : Option Kind) → (length name == 0) ≡ true → named name found ≡ None
named_empty name found empty = let none : length name ≡ 0 = eqb-true (length name) 0 empty in let zero : length name ≤ 0 = omega arith in rw (le-ltb 0 (length name) zero) refl

pub named_none : (name : Text) (found : Option Kind) → found ≡ None → named name found ≡ None
named_none name found none = rw none (go (nat_lt 0 (length name)))
  where
    go : (b : Bool) → (◌≡◌ {A = Option ExternKind} (if b then None else None) None)
    go true = refl
    go false = refl

pub named_some : (name copy : Text) (found : Option Kind) (k : Kind) → (length name == 0) ≡ false → name ≡ copy → found ≡ Some k → named name found ≡ Some (record { name = copy; kind = k })
named_some name copy found k filled same is = let some : 0 < length name = omega (arith, eqb-false (length name) 0 filled) in rw (is, lt-ltb 0 (length name) some, same) refl

-- the kinds so far, and those that are still to be read
abbrev pub joined : List ExternKind → Option (List ExternKind) → Option (List ExternKind)
joined done left = do
  more ← left
  Some (done ++ more)

-- nothing left
pub joined_end : (done : List ExternKind) (whole : Option (List ExternKind)) → joined done (extern_kinds []) ≡ whole → whole ≡ Some done
joined_end done whole same = sym same ∙ ap Some (append-nil done)

-- one more
pub joined_more : (done : List ExternKind) (part : Text) (others : List Text) (k : ExternKind) → extern_kind part ≡ Some k → joined (done ++ k ∷ []) (extern_kinds others) ≡ joined done (extern_kinds (part ∷ others))
joined_more done part others k is = rw is (go (extern_kinds others))
  where
    go : (left : Option (List ExternKind)) → joined (done ++ k ∷ []) left ≡ joined done (left >>= λ rest. Some (k ∷ rest))
    go None = refl
    go (Some more) = ap Some (append_assoc done (k ∷ []) more)

-- one that isn't read
pub joined_none : (done : List ExternKind) (part : Text) (others : List Text) → extern_kind part ≡ None → joined done (extern_kinds (part ∷ others)) ≡ None
joined_none done part others is = rw is refl

-- the first of the parts between commas
pub one_part : (text : Text) → position_or_len is_comma text ≡ length text → slice_split is_comma text ≡ text ∷ []
one_part text none = slice_split_none is_comma text (λ k d lt. fails_before_first is_comma text k d (omega arith))

pub more_parts : (text part others : Text) → position_or_len is_comma text < length text → part ≡ before_first is_comma text → others ≡ after_first is_comma text
    → slice_split is_comma text ≡ part ∷ slice_split is_comma others
more_parts text part others there front back = rw (front, back) (slice_split_first is_comma text 0 there)

-- what refuses a part refuses all
pub refused : (e : WordsError) (read : Option ExternKind) (whole : Option (List ExternKind)) → (read ≡ None → whole ≡ None) → Tells (Err e) read → Tells (Err e) whole
refused Refused read whole h none = h none
refused Memory read whole h none = tt
