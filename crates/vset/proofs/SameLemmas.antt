-- The same value-sets are equal.

use Rattle.std.proofs.Common.{◌≡◌, ℕ, suc, ◌+◌, ◌<◌, ◌≤◌, ◌==◌, Bool, true, false, ◌&&◌, List, [], ◌∷◌, length, drop, get_or, refl, sym, ◌∙◌, ap, subst}
use Rattle.std.specs.Cmp.{signed_Decides}
use Rattle.std.specs.Ordering.{int_eq}
use Rattle.std.proofs.lemmas.List.{drop_more, drop_all}
use Rattle.std.proofs.lemmas.Bool.{and_parts, and_from, eqb-true, eq-eqb}
use Rattle.image_map.specs.Regions.{same_region}
use Rattle.image_map.proofs.OrderLaws.{same_region-equal, same_region-itself}
use Rattle.strided.specs.Interval.{Interval}
use Rattle.vset.specs.declared.part.Part.{Part}
use Rattle.vset.specs.Values.{Values, Top, Parts}
use Rattle.vset.specs.Operations.{same_interval, same_part, same_parts, same_values}

pub same_interval-equal : (a b : Interval) → same_interval a b ≡ true → a ≡ b
same_interval-equal a b e =
    let outer = and_parts (a.stride == b.stride && int_eq a.lo b.lo) (int_eq a.hi b.hi) e in
    let inner = and_parts (a.stride == b.stride) (int_eq a.lo b.lo) outer.0 in
    let stride : a.stride ≡ b.stride = eqb-true a.stride b.stride inner.0 in
    let lo : a.lo ≡ b.lo = (signed_Decides a.lo b.lo).0 inner.1 in
    let hi : a.hi ≡ b.hi = (signed_Decides a.hi b.hi).0 outer.1 in
    λ i. record { stride = stride i; lo = lo i; hi = hi i }

pub same_interval-itself : (a : Interval) → same_interval a a ≡ true
same_interval-itself a = and_from _ _ (and_from _ _ (eq-eqb a.stride a.stride refl) ((signed_Decides a.lo a.lo).1 refl)) ((signed_Decides a.hi a.hi).1 refl)

pub same_part-equal : (x y : Part) → same_part x y ≡ true → x ≡ y
same_part-equal x y e =
    let both = and_parts (same_region x.region y.region) (same_interval x.si y.si) e in
    let region : x.region ≡ y.region = same_region-equal x.region y.region both.0 in
    let si : x.si ≡ y.si = same_interval-equal x.si y.si both.1 in
    λ i. record { region = region i; si = si i }

same_parts-equal : (xs ys : List Part) → same_parts xs ys ≡ true → xs ≡ ys
unfolding same_parts
same_parts-equal [] [] e = refl
same_parts-equal [] (y ∷ ys) e = cc
same_parts-equal (x ∷ xs) [] e = cc
same_parts-equal (x ∷ xs) (y ∷ ys) e =
    let both = and_parts (same_part x y) (same_parts xs ys) e in
    let here : x ≡ y = same_part-equal x y both.0 in
    let later : xs ≡ ys = same_parts-equal xs ys both.1 in
    λ i. here i ∷ later i

same_parts-itself : (xs : List Part) → same_parts xs xs ≡ true
unfolding same_parts
same_parts-itself [] = refl
same_parts-itself (x ∷ xs) = and_from _ _ (and_from _ _ (same_region-itself x.region) (same_interval-itself x.si)) (same_parts-itself xs)

pub same_values-equal : (a b : Values) → same_values a b ≡ true → a ≡ b
same_values-equal Top Top e = refl
same_values-equal Top (Parts ys) e = cc
same_values-equal (Parts xs) Top e = cc
same_values-equal (Parts xs) (Parts ys) e = ap (λ ps. Parts ps) (same_parts-equal xs ys e)

same_values-itself : (a : Values) → same_values a a ≡ true
same_values-itself Top = refl
same_values-itself (Parts xs) = same_parts-itself xs

pub equal-same_values : (a b : Values) → a ≡ b → same_values a b ≡ true
equal-same_values a b e = subst (λ v. same_values a v ≡ true) e (same_values-itself a)

-- -- Step by step

pub shorter : (xs ys : List Part) → (length xs ≡ length ys → ⊥) → same_parts xs ys ≡ false
unfolding same_parts
shorter [] [] h = absurd (h refl)
shorter [] (y ∷ ys) h = refl
shorter (x ∷ xs) [] h = refl
shorter (x ∷ xs) (y ∷ ys) h = rest (same_part x y) (shorter xs ys (λ e. h (ap suc e)))
  where
    rest : (t : Bool) → same_parts xs ys ≡ false → (t && same_parts xs ys) ≡ false
    rest true e = e
    rest false e = refl

module _ (xs ys : List Part) (i : ℕ) (x y : Part) where
  both_more : i < length xs → i < length ys → x ≡ get_or xs i x → y ≡ get_or ys i y → same_parts (drop i xs) (drop i ys) ≡ (same_part x y && same_parts (drop (i + 1) xs) (drop (i + 1) ys))
  unfolding same_parts
  both_more lx ly ix iy =
      ap (λ t. same_parts t (drop i ys)) (drop_more xs i x lx)
      ∙ ap (λ t. same_parts (get_or xs i x ∷ drop (i + 1) xs) t) (drop_more ys i y ly)
      ∙ ap (λ (v : Part). same_part v (get_or ys i y) && same_parts (drop (i + 1) xs) (drop (i + 1) ys)) (sym ix)
      ∙ ap (λ (v : Part). same_part x v && same_parts (drop (i + 1) xs) (drop (i + 1) ys)) (sym iy)

  pub same_step : (whole : Bool) → i < length xs → i < length ys → x ≡ get_or xs i x → y ≡ get_or ys i y → same_part x y ≡ true → same_parts (drop i xs) (drop i ys) ≡ whole → same_parts (drop (i + 1) xs) (drop (i + 1) ys) ≡ whole
  same_step whole lx ly ix iy same e =
      ap (λ b. b && same_parts (drop (i + 1) xs) (drop (i + 1) ys)) (sym same) ∙ sym (both_more lx ly ix iy) ∙ e

  pub same_not : (whole : Bool) → i < length xs → i < length ys → x ≡ get_or xs i x → y ≡ get_or ys i y → same_part x y ≡ false → same_parts (drop i xs) (drop i ys) ≡ whole → false ≡ whole
  same_not whole lx ly ix iy same e =
      ap (λ b. b && same_parts (drop (i + 1) xs) (drop (i + 1) ys)) (sym same) ∙ sym (both_more lx ly ix iy) ∙ e

pub same_all : (xs ys : List Part) (i : ℕ) (whole : Bool) → length xs ≤ i → length ys ≤ i → same_parts (drop i xs) (drop i ys) ≡ whole → true ≡ whole
unfolding same_parts
same_all xs ys i whole hx hy e =
    ap (λ t. same_parts t []) (sym (drop_all i xs hx)) ∙ ap (λ t. same_parts (drop i xs) t) (sym (drop_all i ys hy)) ∙ e
