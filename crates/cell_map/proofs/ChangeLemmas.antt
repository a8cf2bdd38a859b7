-- Entries that are changed in place are cells made anew.
use Rattle.std.proofs.Common.{◌≡◌, ℕ, zero, suc, ◌+◌, ◌<◌, ◌≤◌, Bool, true, false, cond, not, ◌||◌, List, [], ◌∷◌, ◌++◌, length, take, drop, get_or, refl, sym, ◌∙◌, ap, subst, arith}
use Rattle.std.specs.Prelude.{map, filter, set}
use Rattle.std.proofs.lemmas.Bool.{cond_both}
use Rattle.std.proofs.lemmas.List.Edits.{map_over_more}
use Rattle.std.proofs.Math.Seq.{map-set_same}
use Rattle.image_map.specs.declared.region.Cell.{Cell}
use Rattle.image_map.specs.Regions.{same_cell, cell_before}
use Rattle.image_map.proofs.OrderLaws.{same_cell-equal}
use Rattle.vset.specs.Values.{Values, Top, Parts}
use Rattle.abs_semantics.specs.declared.parts.CellValue.{CellValue}
use Rattle.abs_semantics.specs.States.{value_in, with_value, rebuilt}
use Rattle.abs_semantics.specs.Start.{is_top}
use Rattle.cell_map.specs.Lists.{IsBefore, AreRising}
use Rattle.cell_map.specs.Changes.{cell_of, with_given}
use Rattle.cell_map.proofs.OrderLemmas.{before_all, AreKnown, head_value, tail_value, above_top, same_entries}
use Rattle.cell_map.proofs.RebuiltLemmas.{is_among, rising_with, known_with, rebuilt_rising, rebuilt_known, rebuilt_is, with_value_is}

-- -- One entry after the other

pub entry_changed : (g : Cell → Values → Values) (xs ys : List CellValue) (i : ℕ) (x y : CellValue) → i < length xs → ys ≡ map (with_given g) (take i xs) ++ drop i xs → x ≡ get_or ys i x → y ≡ with_given g x
    → set ys i y ≡ map (with_given g) (take (i + 1) xs) ++ drop (i + 1) xs
entry_changed g xs ys i x y lt is here put = ap (set ys i) put ∙ map_over_more (with_given g) xs ys i x lt is here

pub cells_stay : (xs ys : List CellValue) (i : ℕ) (x y : CellValue) → x ≡ get_or ys i x → y.cell ≡ x.cell → map cell_of ys ≡ map cell_of xs → map cell_of (set ys i y) ≡ map cell_of xs
cells_stay xs ys i x y here same e = map-set_same cell_of ys i y x (same ∙ ap cell_of here) ∙ e

pub change_end : {A : Type 0} (f : A → A) (xs : List A) (i : ℕ) → length xs ≤ i → map f (take i xs) ++ drop i xs ≡ map f xs
change_end f [] zero le = refl
change_end f [] (suc i) le = refl
change_end f (x ∷ xs) zero le = absurd (omega arith)
change_end f (x ∷ xs) (suc i) le = ap (λ t. f x ∷ t) (change_end f xs i (omega arith))

-- -- The order stays

before_cells : (c : Cell) (xs ys : List CellValue) → map cell_of xs ≡ map cell_of ys → IsBefore c ys → IsBefore c xs
before_cells c [] ys e b = tt
before_cells c (x ∷ xs) [] e b = absurd (cc e)
before_cells c (x ∷ xs) (y ∷ ys) e b = (subst (λ d. cell_before c d ≡ true) (sym (head e)) b.0, before_cells c xs ys (tail e) b.1)
  where
    head : map cell_of (x ∷ xs) ≡ map cell_of (y ∷ ys) → x.cell ≡ y.cell
    head e = cc e

    tail : map cell_of (x ∷ xs) ≡ map cell_of (y ∷ ys) → map cell_of xs ≡ map cell_of ys
    tail e = cc e

pub same_order : (xs ys : List CellValue) → map cell_of xs ≡ map cell_of ys → AreRising ys → AreRising xs
same_order [] ys e r = tt
same_order (x ∷ xs) [] e r = absurd (cc e)
same_order (x ∷ xs) (y ∷ ys) e r = (subst (λ d. IsBefore d xs) (sym (head e)) (before_cells y.cell xs ys (tail e) r.0), same_order xs ys (tail e) r.1)
  where
    head : map cell_of (x ∷ xs) ≡ map cell_of (y ∷ ys) → x.cell ≡ y.cell
    head e = cc e

    tail : map cell_of (x ∷ xs) ≡ map cell_of (y ∷ ys) → map cell_of xs ≡ map cell_of ys
    tail e = cc e

-- -- Cells made anew

module _ (g : Cell → Values → Values) where
  given_cells : (xs : List CellValue) → map cell_of (map (with_given g) xs) ≡ map cell_of xs
  given_cells [] = refl
  given_cells (x ∷ xs) = ap (λ t. x.cell ∷ t) (given_cells xs)

  abbrev kept : List CellValue → List CellValue
  kept xs = filter (λ (e : CellValue). not (is_top e.value)) (map (with_given g) xs)

  kept_before : (c : Cell) (xs : List CellValue) → IsBefore c xs → IsBefore c (kept xs)
  kept_before c [] b = tt
  kept_before c (x ∷ xs) b =
      cond_both (not (is_top (g x.cell x.value))) (with_given g x ∷ kept xs) (kept xs) (IsBefore c) (λ _. (b.0, kept_before c xs b.1)) (λ _. kept_before c xs b.1)

  kept_rising : (xs : List CellValue) → AreRising xs → AreRising (kept xs)
  kept_rising [] r = tt
  kept_rising (x ∷ xs) r =
      cond_both (not (is_top (g x.cell x.value))) (with_given g x ∷ kept xs) (kept xs) AreRising (λ _. (kept_before x.cell xs r.0, kept_rising xs r.1)) (λ _. kept_rising xs r.1)

  not-not : (t : Bool) → not t ≡ true → t ≡ false
  not-not true e = absurd (cc e)
  not-not false e = refl

  kept_known : (xs : List CellValue) → AreKnown (kept xs)
  kept_known [] = tt
  kept_known (x ∷ xs) =
      cond_both (not (is_top (g x.cell x.value))) (with_given g x ∷ kept xs) (kept xs) AreKnown (λ k. (not-not (is_top (g x.cell x.value)) k, kept_known xs)) (λ _. kept_known xs)

  value_kept : (c : Cell) (v : Values) (x : CellValue) (rest : List CellValue) → IsBefore x.cell rest → value_in c (cond (not (is_top v)) (record x { value = v } ∷ rest) rest) ≡ cond (same_cell x.cell c) v (value_in c rest)
  value_kept c Top x rest b = cond_both (same_cell x.cell c) Top (value_in c rest) (λ w. value_in c rest ≡ w) (λ same. above_top c rest (subst (λ d. IsBefore d rest) (same_cell-equal x.cell c same) b)) (λ _. refl)
  value_kept c (Parts ps) x rest b = refl

  -- what is found in them
  kept_value : (c : Cell) (xs : List CellValue) → AreRising xs → value_in c (kept xs) ≡ cond (is_among c xs) (g c (value_in c xs)) Top
  kept_value c [] r = refl
  kept_value c (x ∷ xs) r =
      value_kept c (g x.cell x.value) x (kept xs) (kept_before x.cell xs r.0)
      ∙ cond_both (same_cell x.cell c) (g x.cell x.value) (value_in c (kept xs)) (λ v. v ≡ cond (same_cell x.cell c || is_among c xs) (g c (cond (same_cell x.cell c) x.value (value_in c xs))) Top)
      (λ same. (λ i. g (same_cell-equal x.cell c same i) x.value) ∙ sym (λ i. cond (same i || is_among c xs) (g c (cond (same i) x.value (value_in c xs))) Top))
      (λ other. kept_value c xs r.1 ∙ sym (λ i. cond (other i || is_among c xs) (g c (cond (other i) x.value (value_in c xs))) Top))

  pub changed_rebuilt : (xs : List CellValue) → AreRising xs → filter (λ (e : CellValue). not (is_top e.value)) (map (with_given g) xs) ≡ rebuilt (λ c. g c (value_in c xs)) xs
  changed_rebuilt xs r =
      let f : Cell → Values = λ c. g c (value_in c xs) in
      same_entries (kept xs) (rebuilt f xs) (kept_rising xs r) (rebuilt_rising f xs) (kept_known xs) (rebuilt_known f xs) (λ c. kept_value c xs r ∙ sym (rebuilt_is f c xs))
