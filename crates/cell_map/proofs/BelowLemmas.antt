-- Steps of the comparison of two lists.
use Rattle.std.proofs.Common.{◌≡◌, ℕ, ◌+◌, ◌<◌, Bool, true, false, ◌&&◌, List, [], ◌∷◌, length, drop, get_or, refl, sym, ◌∙◌, ap, subst}
use Rattle.std.proofs.lemmas.Bool.{cond-true, cond-false, cases_Bool}
use Rattle.std.proofs.Common.{⊎_elim}
use Rattle.image_map.specs.declared.region.Cell.{Cell}
use Rattle.image_map.specs.Regions.{same_cell, cell_before}
use Rattle.image_map.proofs.OrderLaws.{same_cell-equal, cell_before-itself, cell_before-trans, cell_before-total}
use Rattle.vset.specs.Values.{Top}
use Rattle.vset.specs.Operations.{below}
use Rattle.abs_semantics.specs.declared.parts.CellValue.{CellValue}
use Rattle.abs_semantics.specs.States.{value_in}
use Rattle.abs_semantics.specs.Below.{implies}
use Rattle.cell_map.specs.Lists.{IsBefore, AreRising, IsFrom}
use Rattle.cell_map.specs.Merges.{Regions, has_region, first_value, are_below}
use Rattle.cell_map.proofs.OrderLemmas.{is_false, not_itself, before_all, tail_value, above_top}
use Rattle.cell_map.proofs.ListLemmas.{more}

not_back : (c d : Cell) → cell_before c d ≡ true → cell_before d c ≡ false
not_back c d h = is_false (cell_before d c) (λ back. not_itself c c refl (cell_before-trans c d c h back))

-- -- Entries before a cell

pub passed_more : (c d : Cell) (x : CellValue) (tail : List CellValue) → cell_before x.cell d ≡ true → cell_before c d ≡ false → value_in c tail ≡ value_in c (x ∷ tail)
passed_more c d x tail b n =
    sym (tail_value c x tail (is_false (same_cell x.cell c) (λ same. absurd (cc (sym n ∙ subst (λ k. cell_before k d ≡ true) (same_cell-equal x.cell c same) b)))))

-- what the first entry tells, where none stands before the cell
pub first_is : (c : Cell) (es : List CellValue) → IsFrom c es → AreRising es → first_value c es ≡ value_in c es
first_is c [] from r = refl
first_is c (e ∷ es) from r =
    ⊎_elim
    (λ same. cond-true (same_cell e.cell c) e.value Top same ∙ sym (cond-true (same_cell e.cell c) e.value (value_in c es) same))
    (λ other. cond-false (same_cell e.cell c) e.value Top other
    ∙ sym (tail_value c e es other ∙ above_top c es (before_all c e.cell es (cell_before-total e.cell c other from) r.0)))
    (cases_Bool (same_cell e.cell c))

-- -- Step by step

module _ (a : Regions) (d : Cell) (next left : List CellValue) (keeps : (c : Cell) → cell_before c d ≡ false → value_in c next ≡ value_in c left) where
  same_behind : (ys : List CellValue) → IsBefore d ys → are_below a next ys ≡ are_below a left ys
  same_behind [] b = refl
  same_behind (y ∷ ys) b = λ i. implies (has_region a y.cell.region) (below (keeps y.cell (not_back d y.cell b.0) i) y.value) && same_behind ys b.1 i

rest_rises : (ys : List CellValue) (i : ℕ) (y : CellValue) → drop i ys ≡ y ∷ drop (i + 1) ys → AreRising (drop i ys) → IsBefore y.cell (drop (i + 1) ys) × AreRising (drop (i + 1) ys)
rest_rises ys i y is r = subst AreRising is r

module _ (a : Regions) (left next ys : List CellValue) (i : ℕ) (y : CellValue) (test whole : Bool) (lt : i < length ys) (is : y ≡ get_or ys i y)
    (keeps : (c : Cell) → cell_before c y.cell ≡ false → value_in c next ≡ value_in c left) (from : IsFrom y.cell next) (rises : AreRising next)
    (told : test ≡ implies (has_region a y.cell.region) (below (first_value y.cell next) y.value))
    (left-rises : AreRising (drop i ys)) (h : are_below a left (drop i ys) ≡ whole) where
  behind : IsBefore y.cell (drop (i + 1) ys) × AreRising (drop (i + 1) ys)
  behind = rest_rises ys i y (more ys i y lt is) left-rises

  entry_told : test && are_below a next (drop (i + 1) ys) ≡ whole
  entry_told =
      ap (λ t. t && are_below a next (drop (i + 1) ys)) (told ∙ ap (λ v. implies (has_region a y.cell.region) (below v y.value)) (first_is y.cell next from rises ∙ keeps y.cell (cell_before-itself y.cell)))
      ∙ ap (λ t. implies (has_region a y.cell.region) (below (value_in y.cell left) y.value) && t) (same_behind a y.cell next left keeps (drop (i + 1) ys) behind.0)
      ∙ ap (are_below a left) (sym (more ys i y lt is)) ∙ h

  pub next_entry : test ≡ true → (are_below a next (drop (i + 1) ys) ≡ whole) × AreRising next × AreRising (drop (i + 1) ys)
  next_entry yes' = (ap (λ t. t && are_below a next (drop (i + 1) ys)) (sym yes') ∙ entry_told, rises, behind.1)

  pub not_below : test ≡ false → false ≡ whole
  not_below no' = ap (λ t. t && are_below a next (drop (i + 1) ys)) (sym no') ∙ entry_told
