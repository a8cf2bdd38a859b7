-- Steps of the pass over two lists.
use Rattle.std.proofs.Common.{◌≡◌, ℕ, ◌+◌, ◌<◌, ◌≤◌, ◌⊎◌, inl, inr, true, false, List, [], ◌∷◌, ◌++◌, length, drop, get_or, refl, sym, ◌∙◌, ap, append_assoc, append-nil}
use Rattle.std.proofs.lemmas.List.{drop_all}
use Rattle.std.proofs.lemmas.Bool.{cond_both, cond-true, cond-false}
use Rattle.image_map.specs.declared.region.Cell.{Cell}
use Rattle.image_map.specs.Regions.{same_cell, cell_before}
use Rattle.vset.specs.declared.part.Both.{Both}
use Rattle.vset.specs.Values.{Values, Top, Parts}
use Rattle.vset.specs.Operations.{of_both}
use Rattle.abs_semantics.specs.declared.parts.CellValue.{CellValue}
use Rattle.abs_semantics.specs.Joins.{held_by, may_hold}
use Rattle.cell_map.specs.declared.regions.Side.{Side}
use Rattle.cell_map.specs.declared.regions.Side.TheVariants.{First, Second, Together}
use Rattle.cell_map.specs.Merges.{Regions, side_of, is_side, value_by, value_of_both, value_alone, entry, alone, second_alone, merged_from, merged}
use Rattle.cell_map.proofs.ListLemmas.{more}

-- -- A cell of one list alone

held_top : (c : Cell) → held_by c Top ≡ Top
held_top c = cond_both (may_hold c Top) Top Top (λ v. v ≡ Top) (λ _. refl) (λ _. refl)

left_top : (both : Both) (v : Values) → of_both both v Top ≡ Top
left_top both Top = refl
left_top both (Parts ps) = refl

pub first_alone : (both : Both) (side : Side) (c : Cell) (v : Values) → value_by both side c v Top ≡ value_alone (is_side First side) v
first_alone both First c v = refl
first_alone both Second c v = refl
first_alone both Together c v = ap (held_by c) (left_top both v) ∙ held_top c

pub second_is_alone : (both : Both) (side : Side) (c : Cell) (v : Values) → value_by both side c Top v ≡ value_alone (is_side Second side) v
second_is_alone both First c v = refl
second_is_alone both Second c v = refl
second_is_alone both Together c v = held_top c

pub nothing_alone : (both : Both) (a b : Regions) (c : Cell) → value_of_both both a b c Top Top ≡ Top
nothing_alone both a b c = by_side (side_of both a b c.region)
  where
    by_side : (side : Side) → value_by both side c Top Top ≡ Top
    by_side First = refl
    by_side Second = refl
    by_side Together = held_top c

module _ (both : Both) (a b : Regions) where
  second_rest : (ys : List CellValue) → second_alone (value_of_both both a b) ys ≡ alone both a b Second ys
  unfolding second_alone alone
  second_rest [] = refl
  second_rest (y ∷ ys) =
      ap (λ v. entry y.cell v ++ second_alone (value_of_both both a b) ys) (second_is_alone both (side_of both a b y.cell.region) y.cell y.value)
      ∙ ap (λ t. entry y.cell (value_alone (is_side Second (side_of both a b y.cell.region)) y.value) ++ t) (second_rest ys)

  first_rest : (xs : List CellValue) → merged (value_of_both both a b) xs [] ≡ alone both a b First xs
  unfolding merged merged_from second_alone alone
  first_rest [] = refl
  first_rest (x ∷ xs) =
      ap (λ v. entry x.cell v ++ merged (value_of_both both a b) xs []) (first_alone both (side_of both a b x.cell.region) x.cell x.value)
      ∙ ap (λ t. entry x.cell (value_alone (is_side First (side_of both a b x.cell.region)) x.value) ++ t) (first_rest xs)

  one_left : (xs ys : List CellValue) → (xs ≡ []) ⊎ (ys ≡ []) → merged (value_of_both both a b) xs ys ≡ alone both a b First xs ++ alone both a b Second ys
  unfolding merged alone
  one_left xs ys (inl none) = ap (λ t. merged (value_of_both both a b) t ys) none ∙ second_rest ys ∙ ap (λ t. alone both a b First t ++ alone both a b Second ys) (sym none)
  one_left xs ys (inr none) = ap (merged (value_of_both both a b) xs) none ∙ first_rest xs ∙ sym (append-nil (alone both a b First xs)) ∙ ap (λ t. alone both a b First xs ++ alone both a b Second t) (sym none)

  pub merge_ends : (xs ys xs' ys' : List CellValue) (i j : ℕ) (out firsts all whole : List CellValue) → (length xs ≤ i) ⊎ (length ys ≤ j) → xs' ≡ drop i xs → ys' ≡ drop j ys
      → firsts ≡ out ++ alone both a b First xs' → all ≡ firsts ++ alone both a b Second ys' → out ++ merged (value_of_both both a b) (drop i xs) (drop j ys) ≡ whole → all ≡ whole
  merge_ends xs ys xs' ys' i j out firsts all whole end restx resty firstly then h =
      then ∙ ap (λ t. t ++ alone both a b Second ys') firstly ∙ append_assoc out (alone both a b First xs') (alone both a b Second ys')
      ∙ ap (λ t. out ++ (alone both a b First t ++ alone both a b Second ys')) restx ∙ ap (λ t. out ++ (alone both a b First (drop i xs) ++ alone both a b Second t)) resty
      ∙ ap (λ t. out ++ t) (sym (one_left (drop i xs) (drop j ys) (none end))) ∙ h
    where
      none : (length xs ≤ i) ⊎ (length ys ≤ j) → (drop i xs ≡ []) ⊎ (drop j ys ≡ [])
      none (inl le) = inl (drop_all i xs le)
      none (inr le) = inr (drop_all j ys le)

-- -- A cell of both

module _ (f : Cell → Values → Values → Values) (xs ys : List CellValue) (i j : ℕ) (x y : CellValue) (lx : i < length xs) (ly : j < length ys) (ix : x ≡ get_or xs i x) (iy : y ≡ get_or ys j y) where
  both_heads : merged f (drop i xs) (drop j ys) ≡ merged_from f x (merged f (drop (i + 1) xs)) (y ∷ drop (j + 1) ys)
  unfolding merged
  both_heads = ap (λ t. merged f t (drop j ys)) (more xs i x lx ix) ∙ ap (merged_from f x (merged f (drop (i + 1) xs))) (more ys j y ly iy)

  joined_to : (out next whole cells rest : List CellValue) → next ≡ out ++ cells → cells ++ rest ≡ merged f (drop i xs) (drop j ys) → out ++ merged f (drop i xs) (drop j ys) ≡ whole → next ++ rest ≡ whole
  joined_to out next whole cells rest put is h = ap (λ t. t ++ rest) put ∙ append_assoc out cells rest ∙ ap (λ t. out ++ t) is ∙ h

  pub step_same : (out next whole : List CellValue) (v : Values) → same_cell x.cell y.cell ≡ true → v ≡ f x.cell x.value y.value → next ≡ out ++ entry x.cell v
      → out ++ merged f (drop i xs) (drop j ys) ≡ whole → next ++ merged f (drop (i + 1) xs) (drop (j + 1) ys) ≡ whole
  unfolding merged_from
  step_same out next whole v same is put h =
      joined_to out next whole (entry x.cell v) (merged f (drop (i + 1) xs) (drop (j + 1) ys)) put
      (ap (λ w. entry x.cell w ++ merged f (drop (i + 1) xs) (drop (j + 1) ys)) is ∙ sym (cond-true (same_cell x.cell y.cell) _ _ same) ∙ sym both_heads) h

  pub step_first : (out next whole : List CellValue) (v : Values) → same_cell x.cell y.cell ≡ false → cell_before x.cell y.cell ≡ true → v ≡ f x.cell x.value Top → next ≡ out ++ entry x.cell v
      → out ++ merged f (drop i xs) (drop j ys) ≡ whole → next ++ merged f (drop (i + 1) xs) (drop j ys) ≡ whole
  unfolding merged_from
  step_first out next whole v other before is put h =
      joined_to out next whole (entry x.cell v) (merged f (drop (i + 1) xs) (drop j ys)) put
      (ap (λ w. entry x.cell w ++ merged f (drop (i + 1) xs) (drop j ys)) is
      ∙ ap (λ t. entry x.cell (f x.cell x.value Top) ++ merged f (drop (i + 1) xs) t) (more ys j y ly iy)
      ∙ sym (cond-true (cell_before x.cell y.cell) _ _ before) ∙ sym (cond-false (same_cell x.cell y.cell) _ _ other) ∙ sym both_heads) h

  pub step_second : (out next whole : List CellValue) (v : Values) → same_cell x.cell y.cell ≡ false → cell_before x.cell y.cell ≡ false → v ≡ f y.cell Top y.value → next ≡ out ++ entry y.cell v
      → out ++ merged f (drop i xs) (drop j ys) ≡ whole → next ++ merged f (drop i xs) (drop (j + 1) ys) ≡ whole
  unfolding merged_from merged
  step_second out next whole v other after is put h =
      joined_to out next whole (entry y.cell v) (merged f (drop i xs) (drop (j + 1) ys)) put
      (ap (λ w. entry y.cell w ++ merged f (drop i xs) (drop (j + 1) ys)) is
      ∙ ap (λ t. entry y.cell (f y.cell Top y.value) ++ merged f t (drop (j + 1) ys)) (more xs i x lx ix)
      ∙ sym (cond-false (cell_before x.cell y.cell) _ _ after) ∙ sym (cond-false (same_cell x.cell y.cell) _ _ other) ∙ sym both_heads) h
