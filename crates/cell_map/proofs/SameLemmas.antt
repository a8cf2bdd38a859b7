-- Lists that are the same by a test are equal, where the test tells equals; and the steps of a loop that compares them.
use Rattle.std.proofs.Common.{◌≡◌, ℕ, suc, ◌+◌, ◌<◌, ◌≤◌, Bool, true, false, ◌&&◌, List, [], ◌∷◌, length, drop, get_or, refl, sym, ◌∙◌, ap, subst}
use Rattle.std.proofs.lemmas.List.{drop_more, drop_all}
use Rattle.std.specs.Prelude.{◌==◌}
use Rattle.std.specs.Ordering.{int_eq}
use Rattle.std.proofs.lemmas.Bool.{and_parts, and_from, eqb-true, eq-eqb}
use Rattle.image_map.specs.Regions.{same_cell, same_region}
use Rattle.image_map.proofs.OrderLaws.{same_cell-equal, same_cell-itself, same_region-equal, same_region-itself}
use Rattle.vset.specs.Operations.{same_interval, same_values}
use Rattle.vset.proofs.SameLemmas.{same_interval-equal, same_values-equal, equal-same_values, same_interval-itself}
use Rattle.abs_semantics.specs.declared.parts.CellValue.{CellValue}
use Rattle.abs_semantics.specs.declared.parts.Known.{Known}
use Rattle.abs_semantics.specs.declared.parts.Link.{Link}
use Rattle.abs_semantics.specs.Joins.{same_flag, same_link}
use Rattle.abs_semantics.proofs.BelowLemmas.{same_flag-equal}
use Rattle.cell_map.specs.Lists.{same_lists, same_entry, same_whole, same_known}

module _ {A : Type 0} (same : A → A → Bool) where
  pub same_lists-equal : ((x y : A) → same x y ≡ true → x ≡ y) → (xs ys : List A) → same_lists same xs ys ≡ true → xs ≡ ys
  unfolding same_lists
  same_lists-equal equal [] [] e = refl
  same_lists-equal equal [] (y ∷ ys) e = cc
  same_lists-equal equal (x ∷ xs) [] e = cc
  same_lists-equal equal (x ∷ xs) (y ∷ ys) e =
      let both = and_parts (same x y) (same_lists same xs ys) e in
      let here : x ≡ y = equal x y both.0 in
      let later : xs ≡ ys = same_lists-equal equal xs ys both.1 in
      λ i. here i ∷ later i

  pub same_lists-itself : ((x : A) → same x x ≡ true) → (xs : List A) → same_lists same xs xs ≡ true
  unfolding same_lists
  same_lists-itself itself [] = refl
  same_lists-itself itself (x ∷ xs) = and_from _ _ (itself x) (same_lists-itself itself xs)

  pub equal-same_lists : ((x : A) → same x x ≡ true) → (xs ys : List A) → xs ≡ ys → same_lists same xs ys ≡ true
  equal-same_lists itself xs ys e = subst (λ zs. same_lists same xs zs ≡ true) e (same_lists-itself itself xs)

  -- -- Step by step

  pub shorter : (xs ys : List A) → (length xs ≡ length ys → ⊥) → same_lists same xs ys ≡ false
  unfolding same_lists
  shorter [] [] h = absurd (h refl)
  shorter [] (y ∷ ys) h = refl
  shorter (x ∷ xs) [] h = refl
  shorter (x ∷ xs) (y ∷ ys) h = rest (same x y) (same_lists same xs ys) (shorter xs ys (λ e. h (ap suc e)))
    where
      rest : (t u : Bool) → u ≡ false → (t && u) ≡ false
      rest true u e = e
      rest false u e = refl

  module _ (xs ys : List A) (i : ℕ) (x y : A) (whole : Bool) (lx : i < length xs) (ly : i < length ys) (ix : x ≡ get_or xs i x) (iy : y ≡ get_or ys i y) where
    both_more : same_lists same (drop i xs) (drop i ys) ≡ (same x y && same_lists same (drop (i + 1) xs) (drop (i + 1) ys))
    unfolding same_lists
    both_more =
        ap (λ t. same_lists same t (drop i ys)) (drop_more xs i x lx)
        ∙ ap (λ t. same_lists same (get_or xs i x ∷ drop (i + 1) xs) t) (drop_more ys i y ly)
        ∙ ap (λ (v : A). same v (get_or ys i y) && same_lists same (drop (i + 1) xs) (drop (i + 1) ys)) (sym ix)
        ∙ ap (λ (v : A). same x v && same_lists same (drop (i + 1) xs) (drop (i + 1) ys)) (sym iy)

    pub same_step : same x y ≡ true → same_lists same (drop i xs) (drop i ys) ≡ whole → same_lists same (drop (i + 1) xs) (drop (i + 1) ys) ≡ whole
    same_step is e = ap (λ b. b && same_lists same (drop (i + 1) xs) (drop (i + 1) ys)) (sym is) ∙ sym both_more ∙ e

    pub same_not : same x y ≡ false → same_lists same (drop i xs) (drop i ys) ≡ whole → false ≡ whole
    same_not is e = ap (λ b. b && same_lists same (drop (i + 1) xs) (drop (i + 1) ys)) (sym is) ∙ sym both_more ∙ e

  pub same_all : (xs ys : List A) (i : ℕ) (whole : Bool) → length xs ≤ i → length ys ≤ i → same_lists same (drop i xs) (drop i ys) ≡ whole → true ≡ whole
  unfolding same_lists
  same_all xs ys i whole hx hy e =
      ap (λ t. same_lists same t []) (sym (drop_all i xs hx)) ∙ ap (λ t. same_lists same (drop i xs) t) (sym (drop_all i ys hy)) ∙ e

-- -- Cells

pub same_entry-equal : (x y : CellValue) → same_entry x y ≡ true → x ≡ y
same_entry-equal x y e =
    let both = and_parts (same_cell x.cell y.cell) (same_values x.value y.value) e in
    let cell : x.cell ≡ y.cell = same_cell-equal x.cell y.cell both.0 in
    let value : x.value ≡ y.value = same_values-equal x.value y.value both.1 in
    λ i. record { cell = cell i; value = value i }

pub same_entry-itself : (x : CellValue) → same_entry x x ≡ true
same_entry-itself x = and_from _ _ (same_cell-itself x.cell) (equal-same_values x.value x.value refl)

-- -- Intervals, links and known numbers

pub same_flag-itself : (s : Bool) → same_flag s s ≡ true
same_flag-itself true = refl
same_flag-itself false = refl

pub same_whole-equal : (l m : Link) → same_whole l m ≡ true → l ≡ m
same_whole-equal l m e =
    let all = and_parts (same_link l m) (same_interval l.off m.off) e in
    let key = and_parts (l.child == m.child) (same_flag l.aged m.aged && l.parent == m.parent) all.0 in
    let rest = and_parts (same_flag l.aged m.aged) (l.parent == m.parent) key.1 in
    let child = eqb-true l.child m.child key.0 in
    let aged = same_flag-equal l.aged m.aged rest.0 in
    let parent = eqb-true l.parent m.parent rest.1 in
    let off = same_interval-equal l.off m.off all.1 in
    λ i. record { child = child i; aged = aged i; parent = parent i; off = off i }

pub same_whole-itself : (l : Link) → same_whole l l ≡ true
same_whole-itself l =
    and_from _ _ (and_from _ _ (eq-eqb l.child l.child refl) (and_from _ _ (same_flag-itself l.aged) (eq-eqb l.parent l.parent refl))) (same_interval-itself l.off)

pub same_known-equal : (k m : Known) → same_known k m ≡ true → k ≡ m
same_known-equal k m e =
    let both = and_parts (same_region k.region m.region) (k.number == m.number) e in
    let region = same_region-equal k.region m.region both.0 in
    let number = eqb-true k.number m.number both.1 in
    λ i. record { region = region i; number = number i }

pub same_known-itself : (k : Known) → same_known k k ≡ true
same_known-itself k = and_from _ _ (same_region-itself k.region) (eq-eqb k.number k.number refl)
