-- Laws of the lines of refusals: pieces that are written one after another, up to a fault.
use Rattle.std.proofs.Common.{◌≡◌, inl, inr, ℕ, List, [], ◌∷◌, ◌++◌, Option, Some, Result, Ok, Err, refl, sym, ◌∙◌, ap, subst, append_assoc, arith}
use Rattle.std.specs.Result.{OnOk, OnErr}
use Rattle.std.specs.Fmt.{decimal}
use Rattle.std.proofs.Common.{append-nil}
use Rattle.surf_base.specs.Faults.{Rose}
use Rattle.surf_base.specs.Sink.{Appends, AppendsPart}
use Rattle.surf_base.proofs.Appending.{appends_nothing, appends_then, part_then}
use Rattle.elf32.specs.declared.error.ElfError.{ElfError}
use Rattle.surf_prog.specs.declared.refusal.Refusal.{Refusal}
use Rattle.surf_prog.specs.Once.{TellsLine, numbers_text, image_line}
use Rattle.surf_prog.specs.Answer.{line_of}

-- -- Pieces

pub part_longer : (old new : Option (List ℕ)) (front rest : List ℕ) → AppendsPart old new front → AppendsPart old new (front ++ rest)
part_longer old new front rest p = record { part = p.part; rest = p.rest ++ rest; piece_is = ap (λ (l : List ℕ). l ++ rest) p.piece_is ∙ append_assoc p.part p.rest rest; appended = p.appended }

pub on_err : {T E : Type 0} (r : Result T E) (P : Type 0) → P → OnErr r P
on_err (Ok x) P p = tt
on_err (Err e) P p = p

pub on_err_then : {T E : Type 0} (r : Result T E) (P Q : Type 0) → (P → Q) → OnErr r P → OnErr r Q
on_err_then (Ok x) P Q f p = tt
on_err_then (Err e) P Q f p = f p

pub on_ok_then : {T E : Type 0} (r : Result T E) (P Q : Type 0) → (P → Q) → OnOk r P → OnOk r Q
on_ok_then (Ok x) P Q f p = f p
on_ok_then (Err e) P Q f p = tt

pub tells : {E : Type 0} (r : Result (Unit {0}) E) (old new : Option (List ℕ)) (before now : ℕ) (line : List ℕ) → OnOk r (Appends old new line) → OnErr r (AppendsPart old new line) → OnErr r (Rose before now) → TellsLine old new before now line
tells (Ok u) old new before now line whole part rose = inl whole
tells (Err e) old new before now line whole part rose = inr (part, rose)

-- Of these numbers all were written but for the rest.
pub record Numbered (old new : Option (List ℕ)) (numbers rest : List ℕ) : Type 0 where
  pub front : List ℕ
  pub appended : Appends old new front
  pub text_is : numbers_text numbers ≡ front ++ numbers_text rest

pub numbered_start : (old : Option (List ℕ)) (numbers : List ℕ) → Numbered old old numbers numbers
numbered_start old numbers = record { front = []; appended = appends_nothing old; text_is = refl }

pub numbered_next : (old mid new : Option (List ℕ)) (numbers rest after : List ℕ) (n : ℕ) → Numbered old mid numbers rest → rest ≡ n ∷ after → Appends mid new (32 ∷ decimal n) → Numbered old new numbers after
numbered_next old mid new numbers rest after n done is more = record {
  front = done.front ++ (32 ∷ decimal n);
  appended = appends_then old mid new done.front (32 ∷ decimal n) done.appended more;
  text_is = done.text_is ∙ ap (λ l. done.front ++ numbers_text l) is ∙ sym (append_assoc done.front (32 ∷ decimal n) (numbers_text after));
}

pub numbered_part : (old mid new : Option (List ℕ)) (numbers rest after : List ℕ) (n : ℕ) → Numbered old mid numbers rest → rest ≡ n ∷ after → AppendsPart mid new (32 ∷ decimal n) → AppendsPart old new (numbers_text numbers)
numbered_part old mid new numbers rest after n done is part =
    let text : numbers_text numbers ≡ done.front ++ ((32 ∷ decimal n) ++ numbers_text after) = done.text_is ∙ ap (λ l. done.front ++ numbers_text l) is in
    subst (λ t. AppendsPart old new t) (sym text) (part_then old mid new done.front ((32 ∷ decimal n) ++ numbers_text after) done.appended (part_longer mid new (32 ∷ decimal n) (numbers_text after) part))

pub numbered_all : (old new : Option (List ℕ)) (numbers rest : List ℕ) → Numbered old new numbers rest → rest ≡ [] → Appends old new (numbers_text numbers)
numbered_all old new numbers rest done is =
    let text : numbers_text numbers ≡ done.front = done.text_is ∙ ap (λ l. done.front ++ numbers_text l) is ∙ append-nil done.front in
    subst (λ t. Appends old new t) (sym text) done.appended

-- what was told is the line of the refusal
pub told_of : (told : List ℕ → Type 0) (given variant : Refusal) (line : List ℕ) → given ≡ variant → line ≡ line_of variant → told line → told (line_of given)
told_of told given variant line is same p = subst (λ (e : Refusal). told (line_of e)) (sym is) (subst told same p)

-- what was told is the line of the failing check
pub cause_told : (told : List ℕ → Type 0) (given variant : ElfError) → given ≡ variant → told (image_line variant) → told (image_line given)
cause_told told given variant is p = subst (λ (e : ElfError). told (image_line e)) (sym is) p

-- a line in memory of which no piece was refused is whole
pub whole_line : (start text line : List ℕ) (before faults : ℕ) → start ≡ [] → before ≡ 0 → faults ≡ 0 → TellsLine (Some start) (Some text) before faults line → text ≡ line
whole_line start text line before faults empty none calm (inl whole) =
    let same : ◌≡◌ {A = Option (List ℕ)} (Some text) (Some (start ++ line)) = whole in
    let from : text ≡ start ++ line = cc in
    from ∙ ap (λ (l : List ℕ). l ++ line) empty
whole_line start text line before faults empty none calm (inr part) = let rose = part.1 in absurd (omega arith)

-- one call tells the whole line, or some beginning of it
pub told_at_once : {E : Type 0} (r : Result (Unit {0}) E) (old new : Option (List ℕ)) (before now : ℕ) (text line : List ℕ) → text ≡ line
    → OnOk r (Appends old new text) → OnErr r (AppendsPart old new text) → OnErr r (Rose before now) → TellsLine old new before now line
told_at_once r old new before now text line is whole part rose = subst (TellsLine old new before now) is (tells r old new before now text whole part rose)
