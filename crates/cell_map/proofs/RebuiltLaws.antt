-- Cells made anew go by which cells are listed, and by nothing else of the lists.
use Rattle.std.proofs.Common.{◌≡◌, Bool, true, false, cond, ◌||◌, List, [], ◌∷◌, ◌++◌, refl, sym, ◌∙◌, ap, subst}
use Rattle.std.proofs.lemmas.Bool.{true≢false}
use Rattle.image_map.specs.declared.region.Cell.{Cell}
use Rattle.image_map.specs.Regions.{same_cell}
use Rattle.image_map.proofs.OrderLaws.{same_cell-equal}
use Rattle.vset.specs.Values.{Values, Top}
use Rattle.abs_semantics.specs.declared.parts.CellValue.{CellValue}
use Rattle.abs_semantics.specs.States.{value_in, with_value, rebuilt}
use Rattle.cell_map.proofs.OrderLemmas.{same_entries, tail_value}
use Rattle.cell_map.proofs.RebuiltLemmas.{is_among, rising_with, known_with, rebuilt_rising, rebuilt_known, rebuilt_is, with_value_is}

or_assoc : (a b c : Bool) → (a || (b || c)) ≡ ((a || b) || c)
or_assoc true b c = refl
or_assoc false b c = refl

pub among_both : (c : Cell) (xs ys : List CellValue) → is_among c (xs ++ ys) ≡ (is_among c xs || is_among c ys)
among_both c [] ys = refl
among_both c (x ∷ xs) ys = ap (λ t. same_cell x.cell c || t) (among_both c xs ys) ∙ or_assoc (same_cell x.cell c) (is_among c xs) (is_among c ys)

absent_head : (c : Cell) (x : CellValue) (xs : List CellValue) (s : Bool) → same_cell x.cell c ≡ s → (s || is_among c xs) ≡ false → (is_among c xs ≡ false → value_in c xs ≡ Top) → value_in c (x ∷ xs) ≡ Top
absent_head c x xs true e h later = absurd (true≢false h)
absent_head c x xs false e h later = tail_value c x xs e ∙ later h

-- nothing is found of a cell that isn't listed
pub absent_top : (c : Cell) (xs : List CellValue) → is_among c xs ≡ false → value_in c xs ≡ Top
absent_top c [] out = refl
absent_top c (x ∷ xs) out = absent_head c x xs (same_cell x.cell c) refl out (absent_top c xs)

pub rebuilt_same : (f : Cell → Values) (xs ys : List CellValue) → ((c : Cell) → cond (is_among c xs) (f c) Top ≡ cond (is_among c ys) (f c) Top) → rebuilt f xs ≡ rebuilt f ys
rebuilt_same f xs ys h =
    same_entries (rebuilt f xs) (rebuilt f ys) (rebuilt_rising f xs) (rebuilt_rising f ys) (rebuilt_known f xs) (rebuilt_known f ys) (λ c. rebuilt_is f c xs ∙ h c ∙ sym (rebuilt_is f c ys))

-- -- One cell more

taken : (s a b : Bool) (u v : Values) → (s ≡ true → u ≡ v) → cond s u (cond (a || b) v Top) ≡ cond (a || (s || b)) v Top
taken true true b u v same = same refl
taken true false b u v same = same refl
taken false a b u v same = refl

skipped : (s a b : Bool) (v : Values) → (s ≡ true → a ≡ false → v ≡ Top) → cond (a || b) v Top ≡ cond (a || (s || b)) v Top
skipped true true b v top = refl
skipped true false true v top = refl
skipped true false false v top = sym (top refl refl)
skipped false a b v top = refl

module _ (f : Cell → Values) (e : CellValue) (xs ys : List CellValue) where
  still_top : (c : Cell) → f e.cell ≡ Top → same_cell e.cell c ≡ true → value_in c (rebuilt f (xs ++ ys)) ≡ Top
  still_top c top same = rebuilt_is f c (xs ++ ys) ∙ ap (λ v. cond (is_among c (xs ++ ys)) v Top) (sym (ap f (same_cell-equal e.cell c same)) ∙ top) ∙ none (is_among c (xs ++ ys))
    where
      none : (t : Bool) → cond t Top Top ≡ Top
      none true = refl
      none false = refl

  put_value : (c : Cell) → value_in c (with_value e.cell (f e.cell) (rebuilt f (xs ++ ys))) ≡ cond (is_among c (xs ++ e ∷ ys)) (f c) Top
  put_value c =
      with_value_is c e.cell (f e.cell) (rebuilt f (xs ++ ys)) (still_top c)
      ∙ ap (λ v. cond (same_cell e.cell c) (f e.cell) v) (rebuilt_is f c (xs ++ ys) ∙ ap (λ t. cond t (f c) Top) (among_both c xs ys))
      ∙ taken (same_cell e.cell c) (is_among c xs) (is_among c ys) (f e.cell) (f c) (λ same. ap f (same_cell-equal e.cell c same))
      ∙ ap (λ t. cond t (f c) Top) (sym (among_both c xs (e ∷ ys)))

  -- a cell that is put is one that is listed more
  pub put_rebuilt : with_value e.cell (f e.cell) (rebuilt f (xs ++ ys)) ≡ rebuilt f (xs ++ e ∷ ys)
  put_rebuilt =
      let old = rebuilt f (xs ++ ys) in
      same_entries (with_value e.cell (f e.cell) old) (rebuilt f (xs ++ e ∷ ys)) (rising_with e.cell (f e.cell) old (rebuilt_rising f (xs ++ ys))) (rebuilt_rising f (xs ++ e ∷ ys)) (known_with e.cell (f e.cell) old (rebuilt_known f (xs ++ ys)))
      (rebuilt_known f (xs ++ e ∷ ys)) (λ c. put_value c ∙ sym (rebuilt_is f c (xs ++ e ∷ ys)))

  -- one that is given every value, unless it is listed already, may be left out
  pub skip_rebuilt : (is_among e.cell xs ≡ false → f e.cell ≡ Top) → rebuilt f (xs ++ ys) ≡ rebuilt f (xs ++ e ∷ ys)
  skip_rebuilt top = rebuilt_same f (xs ++ ys) (xs ++ e ∷ ys) (λ c.
      ap (λ t. cond t (f c) Top) (among_both c xs ys)
      ∙ skipped (same_cell e.cell c) (is_among c xs) (is_among c ys) (f c) (λ same out. moved c (same_cell-equal e.cell c same) out)
      ∙ ap (λ t. cond t (f c) Top) (sym (among_both c xs (e ∷ ys))))
    where
      moved : (c : Cell) → e.cell ≡ c → is_among c xs ≡ false → f c ≡ Top
      moved c same out = sym (ap f same) ∙ top (ap (λ d. is_among d xs) same ∙ out)
