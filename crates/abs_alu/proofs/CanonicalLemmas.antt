-- Sums, differences and joins have intervals of the one form.

use Rattle.std.proofs.Common.{◌≡◌, Bool, true, false, cond, List, [], ◌∷◌, ◌++◌, map, Option, Some, None, subst, ℤ}
use Rattle.std.specs.Prelude.{FitsSigned}
use Rattle.std.specs.Int.{w32}
use Rattle.std.specs.List.{flat_map}
use Rattle.std.proofs.lemmas.Bool.{cond_both}
use Rattle.image_map.specs.declared.region.RegionId.{RegionId}
use Rattle.image_map.specs.declared.region.RegionId.TheVariants.{Global}
use Rattle.image_map.specs.Regions.{same_region}
use Rattle.strided.specs.Interval.{Interval, IsCanonical, one}
use Rattle.strided.specs.Operations as interval
use Rattle.strided.proofs.SumLemmas.{add_canonical, sub_canonical}
use Rattle.strided.proofs.MemberLemmas.{one_canonical}
use Rattle.vset.specs.declared.part.Part.{Part}
use Rattle.vset.specs.declared.part.Both.TheVariants.{Joined}
use Rattle.vset.specs.Operations.{part, with_part, sum_region, difference_region, in_region, gathered, settled_or_top, add, sub}
use Rattle.vset.specs.Values.{Values, Top, Parts, settled, says_nothing, AreCanonical, CanonicalValues, only_number}
use Rattle.vset.proofs.MemberLemmas.{put_canonical}
use Rattle.abs_alu.specs.Words.{number, numbers}

pub settled_canonical : (ps : List Part) → AreCanonical ps → CanonicalValues (settled ps)
unfolding settled
settled_canonical ps forms = cond_both (says_nothing ps) Top (Parts ps) CanonicalValues (λ _. tt) (λ _. forms)

pub number_canonical : (z : ℤ) → FitsSigned w32 z → CanonicalValues (number z)
number_canonical z fits = settled_canonical (part Global (one z) ∷ []) (one_canonical z fits, tt)

pub numbers_canonical : (x : Interval) → IsCanonical x → CanonicalValues (numbers x)
numbers_canonical x form = settled_canonical (part Global x ∷ []) (form, tt)

pub only_canonical : (v : Values) (x : Interval) → CanonicalValues v → only_number v ≡ Some x → IsCanonical x
only_canonical Top x forms e = cc
only_canonical (Parts []) x forms e = cc
only_canonical (Parts (p ∷ [])) x forms e = by_test (same_region p.region Global) e
  where
    by_test : (t : Bool) → cond t (Some p.si) None ≡ Some x → IsCanonical x
    by_test true e = let is : p.si ≡ x = cc in subst IsCanonical is forms.0
    by_test false e = cc
only_canonical (Parts (p ∷ q ∷ rest)) x forms e = cc

-- -- What pairs make

AreForms : List (Option Part) → Type 0
AreForms [] = Unit {0}
AreForms (None ∷ rest) = AreForms rest
AreForms (Some p ∷ rest) = IsCanonical p.si × AreForms rest

HasForm : Option Part → Type 0
HasForm None = Unit {0}
HasForm (Some p) = IsCanonical p.si

region_form : (r : Option RegionId) (si : Interval) → IsCanonical si → HasForm (in_region r si)
unfolding HasForm
region_form None si form = tt
region_form (Some r) si form = form

forms_here : (o : Option Part) (rest : List (Option Part)) → HasForm o → AreForms rest → AreForms (o ∷ rest)
unfolding HasForm AreForms
forms_here None rest form forms = forms
forms_here (Some p) rest form forms = (form, forms)

forms_both : (r rest : List (Option Part)) → AreForms r → AreForms rest → AreForms (r ++ rest)
unfolding AreForms
forms_both [] rest a b = b
forms_both (None ∷ r) rest a b = forms_both r rest a b
forms_both (Some p ∷ r) rest a b = (a.0, forms_both r rest a.1 b)

module _ (made : Part → Part → Option Part) (form : (x y : Part) → IsCanonical x.si → IsCanonical y.si → HasForm (made x y)) where
  row_forms : (x : Part) (ys : List Part) → IsCanonical x.si → AreCanonical ys → AreForms (map (made x) ys)
  unfolding AreForms
  row_forms x [] cx cy = tt
  row_forms x (y ∷ ys) cx cy = forms_here (made x y) (map (made x) ys) (form x y cx cy.0) (row_forms x ys cx cy.1)

  pair_forms : (xs ys : List Part) → AreCanonical xs → AreCanonical ys → AreForms (flat_map (λ x. map (made x) ys) xs)
  unfolding AreForms
  pair_forms [] ys cx cy = tt
  pair_forms (x ∷ xs) ys cx cy = forms_both (map (made x) ys) (flat_map (λ x. map (made x) ys) xs) (row_forms x ys cx.0 cy) (pair_forms xs ys cx.1 cy)

gathered_forms : (into : List Part) (os : List (Option Part)) → AreCanonical into → AreForms os → CanonicalValues (settled_or_top (gathered into os))
unfolding gathered AreForms
gathered_forms into [] forms more = settled_canonical into forms
gathered_forms into (None ∷ rest) forms more = tt
gathered_forms into (Some p ∷ rest) forms more = gathered_forms (with_part Joined p into) rest (put_canonical Joined p into more.0 forms) more.1

abbrev sum_of_parts : Part → Part → Option Part
sum_of_parts x y = in_region (sum_region x.region y.region) (interval.add x.si y.si)

abbrev difference_of_parts : Part → Part → Option Part
difference_of_parts x y = in_region (difference_region x.region y.region) (interval.sub x.si y.si)

pub add_values_canonical : (a b : Values) → CanonicalValues a → CanonicalValues b → CanonicalValues (add a b)
unfolding add
add_values_canonical Top b ca cb = tt
add_values_canonical (Parts xs) Top ca cb = tt
add_values_canonical (Parts xs) (Parts ys) ca cb =
    gathered_forms [] (flat_map (λ x. map (sum_of_parts x) ys) xs) tt
    (pair_forms sum_of_parts (λ x y cx cy. region_form (sum_region x.region y.region) (interval.add x.si y.si) (add_canonical x.si y.si cx cy)) xs ys ca cb)

pub sub_values_canonical : (a b : Values) → CanonicalValues a → CanonicalValues b → CanonicalValues (sub a b)
unfolding sub
sub_values_canonical Top b ca cb = tt
sub_values_canonical (Parts xs) Top ca cb = tt
sub_values_canonical (Parts xs) (Parts ys) ca cb =
    gathered_forms [] (flat_map (λ x. map (difference_of_parts x) ys) xs) tt
    (pair_forms difference_of_parts (λ x y cx cy. region_form (difference_region x.region y.region) (interval.sub x.si y.si) (sub_canonical x.si y.si cx cy)) xs ys ca cb)
