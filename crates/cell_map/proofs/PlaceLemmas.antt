-- The place of a cell among rising ones, found by halves.
use Rattle.std.proofs.Common.{◌≡◌, ℕ, zero, suc, ◌<◌, ◌≤◌, true, false, not, List, [], ◌∷◌, length, drop, get_or, refl, sym, ◌∙◌, ap, subst, arith}
use Rattle.std.specs.Prelude.{filter, set, OnOk, OnErr}
use Rattle.std.proofs.Common.{Result, Ok, Err}
use Rattle.std.specs.List.{insert}
use Rattle.std.specs.List.Sorted.{IsPartitionedBy, IsPartitionPoint}
use Rattle.std.proofs.lemmas.Bool.{cond_both, cond-true, cond-false}
use Rattle.image_map.specs.declared.region.Cell.{Cell}
use Rattle.image_map.specs.Regions.{same_cell, cell_before}
use Rattle.image_map.proofs.OrderLaws.{cell_before-trans}
use Rattle.abs_semantics.specs.declared.parts.CellValue.{CellValue}
use Rattle.abs_semantics.specs.States.{value_in, inserted}
use Rattle.abs_semantics.specs.Start.{is_top}
use Rattle.cell_map.specs.Lists.{IsBefore, AreRising}
use Rattle.cell_map.specs.Merges.{first_value}
use Rattle.cell_map.proofs.OrderLemmas.{before_other, tail_value}
use Rattle.cell_map.proofs.BelowLemmas.{first_is}
use Rattle.cell_map.proofs.RebuiltLemmas.{rising_inserted}

abbrev pub IsPlace : Cell → List CellValue → ℕ → Type 0
IsPlace c es i = IsPartitionPoint (λ (e : CellValue). cell_before e.cell c ≡ true) (λ e. cell_before e.cell c ≡ false) es i

before_at : (c : Cell) (es : List CellValue) (k : ℕ) (d : CellValue) → IsBefore c es → k < length es → cell_before c (get_or es k d).cell ≡ true
before_at c [] k d b lt = absurd (omega arith)
before_at c (e ∷ es) zero d b lt = b.0
before_at c (e ∷ es) (suc k) d b lt = before_at c es k d b.1 (omega arith)

parted : (c : Cell) (es : List CellValue) → AreRising es → (i j : ℕ) (d : CellValue) → i ≤ j → j < length es → cell_before (get_or es j d).cell c ≡ true → cell_before (get_or es i d).cell c ≡ true
parted c [] r i j d le lt h = absurd (omega arith)
parted c (e ∷ es) r zero zero d le lt h = h
parted c (e ∷ es) r zero (suc j) d le lt h = cell_before-trans e.cell (get_or es j d).cell c (before_at e.cell es j d r.0 (omega arith)) h
parted c (e ∷ es) r (suc i) zero d le lt h = absurd (omega arith)
parted c (e ∷ es) r (suc i) (suc j) d le lt h = parted c es r.1 i j d (omega arith) (omega arith) h

pub cells_parted : (c : Cell) (es : List CellValue) → AreRising es → IsPartitionedBy (λ (e : CellValue). cell_before e.cell c) es
cells_parted c es r = λ i j d le lt h. parted c es r i j d le lt h

behind_place : (c : Cell) (e : CellValue) (es : List CellValue) (i : ℕ) → suc i ≤ length (e ∷ es) → IsPlace c (e ∷ es) (suc i) → IsPlace c es i
behind_place c e es i few p = (λ k d q r. p.0 (suc k) d (omega arith) (omega arith), λ k d q r. p.1 (suc k) d (omega arith) (omega arith))

-- what is found of a cell stands at its place
pub found : (c : Cell) (es : List CellValue) (i : ℕ) → i ≤ length es → IsPlace c es i → AreRising es → first_value c (drop i es) ≡ value_in c es
found c [] zero few p r = refl
found c [] (suc i) few p r = absurd (omega arith)
found c (e ∷ es) zero few p r = first_is c (e ∷ es) (p.1 0 e (omega arith) (omega arith)) r
found c (e ∷ es) (suc i) few p r = found c es i (omega arith) (behind_place c e es i few p) r.1 ∙ sym (tail_value c e es (before_other e.cell c (p.0 0 e (omega arith) (omega arith))))

-- -- A cell put at its place

passes : (e x : CellValue) (xs : List CellValue) → cell_before x.cell e.cell ≡ true → inserted e (x ∷ xs) ≡ x ∷ inserted e xs
passes e x xs b = cond-false (same_cell x.cell e.cell) _ _ (before_other x.cell e.cell b) ∙ cond-true (cell_before x.cell e.cell) _ _ b

pub put_over : (e d : CellValue) (es : List CellValue) (i : ℕ) → i < length es → IsPlace e.cell es i → same_cell (get_or es i d).cell e.cell ≡ true → set es i e ≡ inserted e es
put_over e d [] i lt p same = absurd (omega arith)
put_over e d (x ∷ xs) zero lt p same = sym (cond-true (same_cell x.cell e.cell) _ _ same)
put_over e d (x ∷ xs) (suc i) lt p same =
    ap (λ t. x ∷ t) (put_over e d xs i (omega arith) (behind_place e.cell x xs i (omega arith) p) same) ∙ sym (passes e x xs (p.0 0 x (omega arith) (omega arith)))

pub put_at_end : (e : CellValue) (es : List CellValue) (i : ℕ) → i ≤ length es → length es ≤ i → IsPlace e.cell es i → insert es i e ≡ inserted e es
put_at_end e [] zero le ge p = refl
put_at_end e [] (suc i) le ge p = absurd (omega arith)
put_at_end e (x ∷ xs) zero le ge p = absurd (omega arith)
put_at_end e (x ∷ xs) (suc i) le ge p =
    ap (λ t. x ∷ t) (put_at_end e xs i (omega arith) (omega arith) (behind_place e.cell x xs i (omega arith) p)) ∙ sym (passes e x xs (p.0 0 x (omega arith) (omega arith)))

pub put_between : (e d : CellValue) (es : List CellValue) (i : ℕ) → i < length es → IsPlace e.cell es i → same_cell (get_or es i d).cell e.cell ≡ false → insert es i e ≡ inserted e es
put_between e d [] i lt p other = absurd (omega arith)
put_between e d (x ∷ xs) zero lt p other = sym (cond-false (same_cell x.cell e.cell) _ _ other ∙ cond-false (cell_before x.cell e.cell) _ _ (p.1 0 x (omega arith) (omega arith)))
put_between e d (x ∷ xs) (suc i) lt p other =
    ap (λ t. x ∷ t) (put_between e d xs i (omega arith) (behind_place e.cell x xs i (omega arith) p) other) ∙ sym (passes e x xs (p.0 0 x (omega arith) (omega arith)))

-- -- Fewer cells

before_filtered : (c : Cell) (es : List CellValue) → IsBefore c es → IsBefore c (filter (λ (e : CellValue). not (is_top e.value)) es)
before_filtered c [] b = tt
before_filtered c (e ∷ es) b =
    cond_both (not (is_top e.value)) (e ∷ filter (λ (e : CellValue). not (is_top e.value)) es) (filter (λ (e : CellValue). not (is_top e.value)) es) (IsBefore c)
    (λ _. (b.0, before_filtered c es b.1)) (λ _. before_filtered c es b.1)

pub rising_filtered : (es : List CellValue) → AreRising es → AreRising (filter (λ (e : CellValue). not (is_top e.value)) es)
rising_filtered [] r = tt
rising_filtered (e ∷ es) r =
    cond_both (not (is_top e.value)) (e ∷ filter (λ (e : CellValue). not (is_top e.value)) es) (filter (λ (e : CellValue). not (is_top e.value)) es) AreRising
    (λ _. (before_filtered e.cell es r.0, rising_filtered es r.1)) (λ _. rising_filtered es r.1)

-- a list is in order after a put that succeeds, and after one that fails
pub rising_put : {A B : Type 0} (r : Result A B) (e : CellValue) (old new : List CellValue) → OnOk r (new ≡ inserted e old) → OnErr r (new ≡ old) → AreRising old → AreRising new
rising_put (Ok a) e old new ok err r = subst AreRising (sym ok) (rising_inserted e old r)
rising_put (Err b) e old new ok err r = subst AreRising (sym err) r
