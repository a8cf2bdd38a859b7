-- What is found in cells that were made anew.
use Rattle.std.proofs.Common.{◌≡◌, true, false, cond, List, [], ◌∷◌, sym, ◌∙◌, ap, subst}
use Rattle.std.proofs.lemmas.Bool.{cond_both, cond-true, cond-false}
use Rattle.image_map.specs.declared.region.Cell.{Cell}
use Rattle.image_map.specs.Regions.{same_cell, cell_before}
use Rattle.image_map.proofs.OrderLaws.{same_cell-equal}
use Rattle.vset.specs.Values.{Values, Top, Parts, CanonicalValues}
use Rattle.abs_semantics.specs.declared.parts.CellValue.{CellValue}
use Rattle.abs_semantics.specs.States.{value_in, inserted, with_value, rebuilt, CellsAreCanonical}

-- a cell's value among some is canonical
pub value_canonical : (c : Cell) (es : List CellValue) → CellsAreCanonical es → CanonicalValues (value_in c es)
value_canonical c [] cs = tt
value_canonical c (e ∷ es) cs = cond_both (same_cell e.cell c) e.value (value_in c es) CanonicalValues (λ _. cs.0) (λ _. value_canonical c es cs.1)

module _ (P : Values → Type 0) (c : Cell) where
  pub head_value : (e : CellValue) (es : List CellValue) → (same_cell e.cell c ≡ true → P e.value) → (same_cell e.cell c ≡ false → P (value_in c es)) → P (value_in c (e ∷ es))
  head_value e es here later = cond_both (same_cell e.cell c) e.value (value_in c es) P here later

  head_is : (e : CellValue) (es : List CellValue) → same_cell e.cell c ≡ true → P (value_in c (e ∷ es)) → P e.value
  head_is e es is found = subst P (cond-true (same_cell e.cell c) e.value (value_in c es) is) found

  tail_is : (e : CellValue) (es : List CellValue) → same_cell e.cell c ≡ false → P (value_in c (e ∷ es)) → P (value_in c es)
  tail_is e es other found = subst P (cond-false (same_cell e.cell c) e.value (value_in c es) other) found

  other_too : (x e : CellValue) → same_cell x.cell e.cell ≡ true → same_cell e.cell c ≡ false → same_cell x.cell c ≡ false
  other_too x e same other = ap (λ d. same_cell d c) (same_cell-equal x.cell e.cell same) ∙ other

  inserted_value : (e : CellValue) (xs : List CellValue) → P (value_in c xs) → (same_cell e.cell c ≡ true → P e.value) → P (value_in c (inserted e xs))
  inserted_value e [] before new = head_value e [] new (λ _. before)
  inserted_value e (x ∷ xs) before new =
      cond_both (same_cell x.cell e.cell) (e ∷ xs) (cond (cell_before x.cell e.cell) (x ∷ inserted e xs) (e ∷ x ∷ xs)) (λ es. P (value_in c es))
      (λ same. head_value e xs new (λ other. tail_is x xs (other_too x e same other) before))
      (λ _. cond_both (cell_before x.cell e.cell) (x ∷ inserted e xs) (e ∷ x ∷ xs) (λ es. P (value_in c es))
      (λ _. head_value x (inserted e xs) (λ is. head_is x xs is before) (λ other. inserted_value e xs (tail_is x xs other before) new))
      (λ _. head_value e (x ∷ xs) new (λ _. before)))

  with_value_value : (cell : Cell) (v : Values) (es : List CellValue) → P (value_in c es) → (same_cell cell c ≡ true → P v) → P (value_in c (with_value cell v es))
  with_value_value cell Top es before new = before
  with_value_value cell (Parts ps) es before new = inserted_value (record { cell = cell; value = Parts ps }) es before new

  -- it is every value, or what the function gives
  pub rebuilt_value : (f : Cell → Values) (es : List CellValue) → P Top → P (f c) → P (value_in c (rebuilt f es))
  unfolding rebuilt
  rebuilt_value f [] top given = top
  rebuilt_value f (e ∷ es) top given =
      with_value_value e.cell (f e.cell) (rebuilt f es) (rebuilt_value f es top given)
      (λ same. subst (λ d. P (f d)) (sym (same_cell-equal e.cell c same)) given)
