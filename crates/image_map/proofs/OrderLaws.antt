-- What the orders of regions and of cells don't tell apart is equal, and each is strict and total.
use Rattle.std.proofs.Common.{◌≡◌, ℕ, true, false, refl, ap, sym, ◌∙◌, eqb-true}
use Rattle.std.specs.Cmp.{signed_Decides}
use Rattle.std.specs.declared.cmp.Ordering.{Ordering}
use Rattle.std.specs.declared.cmp.Ordering.TheVariants.{Less, Equal, Greater}
use Rattle.std.specs.Ordering.{nat_cmp, int_cmp, ordering_then, is_eq}
use Rattle.image_map.specs.declared.region.Cell.{Cell}
use Rattle.image_map.specs.declared.region.RegionId.{RegionId}
use Rattle.image_map.specs.declared.region.RegionId.TheVariants.{Global, Frame, OldFrame, Heap, OldHeap}
use Rattle.image_map.specs.Regions.{region_cmp, same_region, region_before, ends_cmp, cell_cmp, same_cell, cell_before}
use Rattle.image_map.specs.TotalOrders.{region_total, cell_total}
use Rattle.image_map.proofs.OrderLemmas.{nat_same, before-trans, before-irreflexive, before-total, same-itself}

pub number_equal : (m n : ℕ) → is_eq (nat_cmp m n) ≡ true → m ≡ n
number_equal m n h = eqb-true m n (sym (nat_same m n) ∙ h)

-- -- Regions

pub same_region-equal : (a b : RegionId) → same_region a b ≡ true → a ≡ b
unfolding region_cmp
same_region-equal Global Global h = refl
same_region-equal (Frame p) (Frame q) h = ap (λ n. Frame n) (number_equal p q h)
same_region-equal (OldFrame p) (OldFrame q) h = ap (λ n. OldFrame n) (number_equal p q h)
same_region-equal (Heap p) (Heap q) h = ap (λ n. Heap n) (number_equal p q h)
same_region-equal (OldHeap p) (OldHeap q) h = ap (λ n. OldHeap n) (number_equal p q h)
same_region-equal a b h = absurd (cc)

pub same_region-itself : (a : RegionId) → same_region a a ≡ true
same_region-itself a = same-itself region_total a

pub region_before-itself : (a : RegionId) → region_before a a ≡ false
region_before-itself a = before-irreflexive region_total a

pub region_before-trans : (a b c : RegionId) → region_before a b ≡ true → region_before b c ≡ true → region_before a c ≡ true
region_before-trans a b c h k = before-trans region_total a b c h k

pub region_before-total : (a b : RegionId) → same_region a b ≡ false → region_before a b ≡ false → region_before b a ≡ true
region_before-total a b e h = before-total region_total a b e h

-- -- Cells

pub both_tied : (o p : Ordering) → is_eq (ordering_then o p) ≡ true → (is_eq o ≡ true) × (is_eq p ≡ true)
both_tied Less p h = absurd (cc)
both_tied Equal p h = (refl, h)
both_tied Greater p h = absurd (cc)

pub same_cell-equal : (a b : Cell) → same_cell a b ≡ true → a ≡ b
unfolding cell_cmp
same_cell-equal a b h =
    let both = both_tied (region_cmp a.region b.region) (ends_cmp a b) h in
    let ends = both_tied (int_cmp a.start b.start) (int_cmp a.end b.end) both.1 in
    let region : a.region ≡ b.region = same_region-equal a.region b.region both.0 in
    let start : a.start ≡ b.start = (signed_Decides a.start b.start).0 ends.0 in
    let end : a.end ≡ b.end = (signed_Decides a.end b.end).0 ends.1 in
    λ i. record { region = region i; start = start i; end = end i }

pub same_cell-itself : (a : Cell) → same_cell a a ≡ true
same_cell-itself a = same-itself cell_total a

pub cell_before-itself : (a : Cell) → cell_before a a ≡ false
cell_before-itself a = before-irreflexive cell_total a

pub cell_before-trans : (a b c : Cell) → cell_before a b ≡ true → cell_before b c ≡ true → cell_before a c ≡ true
cell_before-trans a b c h k = before-trans cell_total a b c h k

pub cell_before-total : (a b : Cell) → same_cell a b ≡ false → cell_before a b ≡ false → cell_before b a ≡ true
cell_before-total a b e h = before-total cell_total a b e h
