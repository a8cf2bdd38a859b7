-- Extents of an image, and the least lists of cuts, are one.
use Rattle.std.proofs.Common.{◌≡◌, ◌<◌, ⊎_elim, true, ℤ, List, [], ◌∷◌, length, refl, sym, subst, ap, ◌∙◌, arith}
use Rattle.std.specs.Prelude.{◌<ℤ◌, ◌≤ℤ◌, Contains}
use Rattle.std.proofs.lemmas.Int.{ints}
use Rattle.std.proofs.lemmas.Bool.{true≢false}
use Rattle.image_map.specs.declared.region.RegionId.{RegionId}
use Rattle.image_map.specs.declared.image.Segment.{Segment}
use Rattle.image_map.specs.Regions.{region_before}
use Rattle.image_map.proofs.OrderLaws.{region_before-itself, region_before-trans}
use Rattle.alocs.specs.declared.cells.CutList.{CutList}
use Rattle.alocs.specs.declared.extents.Extent.{Extent}
use Rattle.alocs.specs.Cells.{RiseAbove, AreRising}
use Rattle.alocs.specs.Extents.{RiseFrom, AreOfImage}
use Rattle.alocs.proofs.MemberLaws.{contains-cases, contains-head, contains-none}
use Rattle.asi_cuts.specs.declared.facts.Constraint.{Constraint}
use Rattle.asi_cuts.specs.Cuts.{HasCut}
use Rattle.asi_cuts.specs.Closed.{ListsRise, ListsRiseBehind, AreLeast}
use Rattle.rounds.proofs.OrderedLemmas.{Rise, same_list}

-- -- Extents

abbrev begins_before : Extent → Extent → Type 0
begins_before x y = x.start <ℤ y.start

from_low : (low : ℤ) (xs : List Extent) → RiseFrom low xs → (y : Extent) → Contains xs y → low ≤ℤ y.start
from_low low [] rise y k = absurd (contains-none y k)
from_low low (x ∷ xs) rise y k =
    let here : low ≤ℤ x.start = rise.0 in
    let some : x.start <ℤ x.end = rise.1 in
    ⊎_elim (λ (e : x ≡ y). subst (λ (z : Extent). low ≤ℤ z.start) e here)
    (λ q. let later : x.end ≤ℤ y.start = from_low x.end xs rise.2 y q in omega (arith, ints))
    (contains-cases x xs y k)

extents_rise : (low : ℤ) (xs : List Extent) → RiseFrom low xs → Rise begins_before xs
extents_rise low [] rise = tt
extents_rise low (x ∷ xs) rise =
    let some : x.start <ℤ x.end = rise.1 in
    (λ y k. let later : x.end ≤ℤ y.start = from_low x.end xs rise.2 y k in omega (arith, ints), extents_rise x.end xs rise.2)

-- an image has one list of extents
pub one_image : (segments : List Segment) (xs ys : List Extent) → AreOfImage segments xs → AreOfImage segments ys → xs ≡ ys
one_image segments xs ys a b =
    same_list begins_before (λ x y h k. omega (arith, ints)) xs ys (extents_rise _ xs a.rise) (extents_rise _ ys b.rise)
    (λ x k. (b.each x).1 ((a.each x).0 k)) (λ x k. (a.each x).1 ((b.each x).0 k))

-- -- Cuts

abbrev is_less : ℤ → ℤ → Type 0
is_less a b = a <ℤ b

above : (low : ℤ) (cuts : List ℤ) → RiseAbove low cuts → (c : ℤ) → Contains cuts c → low <ℤ c
above low [] rise c k = absurd (contains-none c k)
above low (x ∷ cuts) rise c k =
    let here : low <ℤ x = rise.0 in
    ⊎_elim (λ (e : x ≡ c). subst (λ z. low <ℤ z) e here) (λ q. let later : x <ℤ c = above x cuts rise.1 c q in omega (arith, ints)) (contains-cases x cuts c k)

cuts_rise_above : (low : ℤ) (cuts : List ℤ) → RiseAbove low cuts → Rise is_less cuts
cuts_rise_above low [] rise = tt
cuts_rise_above low (x ∷ cuts) rise = (above x cuts rise.1, cuts_rise_above x cuts rise.1)

cuts_rise : (cuts : List ℤ) → AreRising cuts → Rise is_less cuts
cuts_rise [] rise = tt
cuts_rise (x ∷ cuts) rise = (above x cuts rise, cuts_rise_above x cuts rise)

one_offsets : (xs ys : List ℤ) → AreRising xs → AreRising ys → ((c : ℤ) → Contains xs c → Contains ys c) → ((c : ℤ) → Contains ys c → Contains xs c) → xs ≡ ys
one_offsets xs ys rise others has back = same_list is_less (λ a b h k. omega (arith, ints)) xs ys (cuts_rise xs rise) (cuts_rise ys others) has back

-- -- Lists of cuts

abbrev stands_before : CutList → CutList → Type 0
stands_before l m = region_before l.region m.region ≡ true

not_both_before : (l m : CutList) → stands_before l m → stands_before m l → ⊥
not_both_before l m h k = true≢false (sym (region_before-trans l.region m.region l.region h k) ∙ region_before-itself l.region)

later_lists : (low : RegionId) (ls : List CutList) → ListsRiseBehind low ls → (m : CutList) → Contains ls m → region_before low m.region ≡ true
later_lists low [] rise m k = absurd (contains-none m k)
later_lists low (l ∷ ls) rise m k =
    ⊎_elim (λ (e : l ≡ m). subst (λ (z : CutList). region_before low z.region ≡ true) e rise.0)
    (λ q. region_before-trans low l.region m.region rise.0 (later_lists l.region ls rise.2 m q))
    (contains-cases l ls m k)

rise_behind : (low : RegionId) (ls : List CutList) → ListsRiseBehind low ls → Rise stands_before ls
rise_behind low [] rise = tt
rise_behind low (l ∷ ls) rise = (later_lists l.region ls rise.2, rise_behind l.region ls rise.2)

lists_rise : (ls : List CutList) → ListsRise ls → Rise stands_before ls
lists_rise [] rise = tt
lists_rise (l ∷ ls) rise = (later_lists l.region ls rise.1, rise_behind l.region ls rise.1)

each_rises_behind : (low : RegionId) (ls : List CutList) → ListsRiseBehind low ls → (m : CutList) → Contains ls m → AreRising m.cuts
each_rises_behind low [] rise m k = absurd (contains-none m k)
each_rises_behind low (l ∷ ls) rise m k =
    ⊎_elim (λ (e : l ≡ m). subst (λ (z : CutList). AreRising z.cuts) e rise.1) (λ q. each_rises_behind l.region ls rise.2 m q) (contains-cases l ls m k)

each_rises : (ls : List CutList) → ListsRise ls → (m : CutList) → Contains ls m → AreRising m.cuts
each_rises [] rise m k = absurd (contains-none m k)
each_rises (l ∷ ls) rise m k =
    ⊎_elim (λ (e : l ≡ m). subst (λ (z : CutList). AreRising z.cuts) e rise.0) (λ q. each_rises_behind l.region ls rise.1 m q) (contains-cases l ls m k)

-- two of the lists that are of one region are one
one_of_region : (ls : List CutList) → Rise stands_before ls → (l m : CutList) → Contains ls l → Contains ls m → l.region ≡ m.region → l ≡ m
one_of_region [] rise l m h k same = absurd (contains-none l h)
one_of_region (x ∷ ls) rise l m h k same =
    ⊎_elim
    (λ (e : x ≡ l). ⊎_elim (λ (f : x ≡ m). sym e ∙ f) (λ q. absurd (not_itself m (subst (λ (r : RegionId). region_before r m.region ≡ true) (ap (λ (z : CutList). z.region) e ∙ same) (rise.0 m q)))) (contains-cases x ls m k))
    (λ p. ⊎_elim (λ (f : x ≡ m). absurd (not_itself l (subst (λ (r : RegionId). region_before r l.region ≡ true) (ap (λ (z : CutList). z.region) f ∙ sym same) (rise.0 l p)))) (λ q. one_of_region ls rise.1 l m p q same) (contains-cases x ls m k))
    (contains-cases x ls l h)
  where
    not_itself : (n : CutList) → region_before n.region n.region ≡ true → ⊥
    not_itself n b = true≢false (sym b ∙ region_before-itself n.region)

same_cuts : (l m : CutList) → l.region ≡ m.region → l.cuts ≡ m.cuts → l ≡ m
same_cuts l m p q = λ i. record { region = p i; cuts = q i }

-- the lists have the same cuts, and none of them is empty
pub record HaveSame (xs ys : List CutList) : Type 0 where
  pub has : (r : RegionId) (offset : ℤ) → HasCut xs r offset → HasCut ys r offset
  pub back : (r : RegionId) (offset : ℤ) → HasCut ys r offset → HasCut xs r offset
  pub some : (l : CutList) → Contains xs l → 0 < length l.cuts

first_cut : (cuts : List ℤ) → 0 < length cuts → (c : ℤ) × Contains cuts c
first_cut [] h = absurd (omega arith)
first_cut (x ∷ cuts) h = (x, contains-head x cuts)

-- the cut of a list is one of the other list that is of its region
cut_of : (ls : List CutList) → Rise stands_before ls → (m : CutList) → Contains ls m → (r : RegionId) → r ≡ m.region → (c : ℤ) → HasCut ls r c → Contains m.cuts c
cut_of ls rise m k r same c h = subst (λ (z : CutList). Contains z.cuts c) (one_of_region ls rise h.0 m h.1 k (sym h.2 ∙ same)) h.3

has_list : (xs ys : List CutList) → ListsRise xs → ListsRise ys → HaveSame xs ys → (l : CutList) → Contains xs l → Contains ys l
has_list xs ys rise others h l k =
    let c = first_cut l.cuts (h.some l k) in
    let other = h.has l.region c.0 (l, k, refl, c.1) in
    let m : CutList = other.0 in
    let there : Contains ys m = other.1 in
    let region : l.region ≡ m.region = other.2 in
    let offsets : l.cuts ≡ m.cuts = one_offsets l.cuts m.cuts (each_rises xs rise l k) (each_rises ys others m there)
    (λ o q. cut_of ys (lists_rise ys others) m there l.region region o (h.has l.region o (l, k, refl, q)))
    (λ o q. cut_of xs (lists_rise xs rise) l k m.region (sym region) o (h.back m.region o (m, there, refl, q))) in
    subst (λ (z : CutList). Contains ys z) (sym (same_cuts l m region offsets)) there

-- there is one list of the least cuts
pub one_least : (kept : List CutList) (facts : List Constraint) (segments : List Segment) (xs ys : List CutList) → AreLeast kept facts segments xs → AreLeast kept facts segments ys → xs ≡ ys
one_least kept facts segments xs ys a b =
    same_list stands_before not_both_before xs ys (lists_rise xs a.rise) (lists_rise ys b.rise)
    (has_list xs ys a.rise b.rise (record { has = λ r o k. (b.each r o).1 ((a.each r o).0 k); back = λ r o k. (a.each r o).1 ((b.each r o).0 k); some = a.some }))
    (has_list ys xs b.rise a.rise (record { has = λ r o k. (a.each r o).1 ((b.each r o).0 k); back = λ r o k. (b.each r o).1 ((a.each r o).0 k); some = b.some }))
