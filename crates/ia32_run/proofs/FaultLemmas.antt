-- An instruction that faults with the first eight words of a list has no step with any beginning of the list.
use Rattle.std.proofs.Common.{◌≡◌, ℕ, ◌+◌, ◌≤◌, List, [], ◌∷◌, ◌++◌, length, drop, refl, ap, ◌∙◌, arith}
use Rattle.image_map.specs.declared.image.Image.{Image}
use Rattle.ia32_types.specs.declared.Instr.{Instr}
use Rattle.ia32_semantics.specs.State.{State}
use Rattle.ia32_semantics.specs.Step.{Step}
use Rattle.ia32_machine.specs.Steps.{executes, Faults}
use Rattle.ia32_run.proofs.TakesLemmas.{row_takes}

abbrev first_of : List ℕ → ℕ → ℕ
first_of [] d = d
first_of (x ∷ xs) d = x

abbrev rest_of : List ℕ → List ℕ
rest_of [] = []
rest_of (x ∷ xs) = xs

-- what begins a list and is no longer than its first part begins that part
begins_part : (part rest used left : List ℕ) → part ++ rest ≡ used ++ left → length used ≤ length part → part ≡ used ++ drop (length used) part
begins_part part rest [] left e short = refl
begins_part [] rest (u ∷ used) left e short = absurd (omega arith)
begins_part (p ∷ part) rest (u ∷ used) left e short =
    let same : p ≡ u = ap (λ l. first_of l p) e in
    ap (λ x. x ∷ part) same ∙ ap (λ l. u ∷ l) (begins_part part rest used left (ap rest_of e) (omega arith))

pub faults_with_all : (image : Image) (i : Instr) (s after : State) (eight rest used left : List ℕ) → length eight ≡ 8 → eight ++ rest ≡ used ++ left
    → Faults image i eight s → ¬ Step image (executes i used s after)
faults_with_all image i s after eight rest used left long are faults = λ st.
    let few : length used ≤ 8 + length {A = ℕ} [] = (row_takes i.op i).most s used [] st.done st.row in
    faults used (drop (length used) eight) after (begins_part eight rest used left are (omega arith)) st
