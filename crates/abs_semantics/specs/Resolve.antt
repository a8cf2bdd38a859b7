-- Which places an address may mean in an abstract state: intervals of offsets in regions, and why it may mean others too. The rules
-- are the project's own.
--
-- An offset at or above a return slot's end lies in an activation that called this one, so it is followed along the links, level by
-- level: first the parts of the address, then what one link makes of them, and so on.
use Rattle.std.specs.Prelude.{ℕ, zero, suc, ◌+◌, ◌==◌, ◌&&◌, ◌||◌, not, nat_lt, Bool, true, false, ℤ, pos, negsuc, ◌+ℤ◌, int_le, int_lt, if◌then◌else◌, List, [], ◌∷◌, ◌++◌, length, map, filter, Option, Some, None}
use Rattle.std.specs.List.{list_any, flat_map}
use Rattle.std.specs.Ordering.{int_eq}
use Rattle.image_map.specs.declared.region.RegionId.{RegionId}
use Rattle.image_map.specs.declared.region.RegionId.TheVariants.{Global, Frame, OldFrame, Heap, OldHeap}
use Rattle.image_map.specs.Regions.{same_region, region_before}
use Rattle.strided.specs.Interval.{Interval, greatest}
use Rattle.strided.specs.Operations as interval
use Rattle.vset.specs.declared.part.Part.{Part}
use Rattle.vset.specs.Values.{Values, Top, Parts}
use Rattle.vset.specs.Operations.{part, same_part}
use Rattle.abs_semantics.specs.declared.parts.Link.{Link}
use Rattle.abs_semantics.specs.declared.parts.Reason.{Reason}
use Rattle.abs_semantics.specs.declared.parts.Reason.TheVariants.{UnknownWrite, OutOfRegion, HeapOverrun}
use Rattle.abs_semantics.specs.States.{AbsState, has_procedure, known_of}

-- what becomes of an interval in a region
pub data Verdict : Type 0 where
  Refuses : Reason → Verdict
  -- it is listed
  Stays : Verdict
  -- it is followed along its links, and it is listed as well, or not
  Follows : Bool → Verdict

-- the range from the first offset to the end of `len` bytes behind the last one
abbrev pub end_of : Interval → ℕ → ℤ
end_of si len = si.hi +ℤ pos len

-- -- Links of a region

-- the links of a child of this age
abbrev pub links_from : AbsState → ℕ → Bool → List Link
links_from a child aged = filter (λ l. l.child == child && (if aged then l.aged else not l.aged)) a.links

abbrev pub is_empty : List Link → Bool
is_empty [] = true
is_empty (l ∷ ls) = false

-- The interval begins below the end of the return slot of an activation that one of this procedure has called: it isn't that
-- activation's own.
abbrev pub is_below_callee : AbsState → ℕ → Interval → Bool
is_below_callee a q si = list_any (λ (l : Link). l.parent == q && int_lt si.lo (l.off.hi +ℤ pos 4)) a.links

-- so many activations at most stand in a row
abbrev pub most_links : AbsState → ℕ
most_links a = length a.live + length a.older

-- -- The verdicts

abbrev pub refused_or : Bool → Reason → Verdict → Verdict
refused_or t r v = if t then Refuses r else v

-- Numbers reach up to 2^31 - 1. The stack and the heap's own addresses, from 90000000 up to C0000000, are no numbers of the image.
abbrev pub global_verdict : ℕ → Interval → Verdict
global_verdict len si =
    refused_or (int_lt greatest (end_of si len) || (int_lt si.lo (negsuc 1073741823) && int_lt (negsuc 1879048191) (end_of si len))) UnknownWrite Stays

-- what is no range of the activation itself, after `followed` links
abbrev pub parent_verdict : AbsState → ℕ → ℕ → Bool → Interval → Verdict
parent_verdict a followed q aged si =
    refused_or (int_lt si.lo (pos 4) || (is_empty (links_from a q aged) || nat_lt (most_links a) followed)) OutOfRegion (Follows (q == a.root))

-- at a node of procedure p, an activation of q that is aged or not, after `followed` links
abbrev pub frame_verdict : AbsState → ℕ → ℕ → ℕ → ℕ → Bool → Interval → Verdict
frame_verdict a p len followed q aged si =
    refused_or (int_lt si.lo (negsuc 1048575) || int_lt (pos 65536) (end_of si len)) OutOfRegion
    (refused_or ((aged || not (q == p)) && is_below_callee a q si) OutOfRegion
    (if int_le (end_of si len) (pos 4) || (is_empty (links_from a q aged) && q == a.root) then Stays else parent_verdict a followed q aged si))

abbrev pub size_or_none : Option ℕ → ℕ
size_or_none None = 0
size_or_none (Some n) = n

abbrev pub block_verdict : AbsState → ℕ → RegionId → Interval → Verdict
block_verdict a len r si =
    refused_or (int_lt si.lo (pos 0) || int_lt (pos (size_or_none (known_of r a.blocks))) (end_of si len)) HeapOverrun Stays

abbrev pub verdict_in : AbsState → ℕ → ℕ → ℕ → Interval → RegionId → Verdict
verdict_in a p len followed si Global = global_verdict len si
verdict_in a p len followed si (Frame q) = frame_verdict a p len followed q false si
verdict_in a p len followed si (OldFrame q) = frame_verdict a p len followed q true si
verdict_in a p len followed si (Heap key) = block_verdict a len (Heap key) si
verdict_in a p len followed si (OldHeap key) = block_verdict a len (OldHeap key) si

unfoldable pub verdict : AbsState → ℕ → ℕ → ℕ → Part → Verdict
verdict a p len followed x = verdict_in a p len followed x.si x.region

-- -- One link further

-- the regions that the parent may be of: its own procedure's older activations, or the parent of the node's own activation, or any
abbrev pub parent_regions : AbsState → ℕ → RegionId → Link → List RegionId
parent_regions a p r l =
    if l.parent == l.child then OldFrame l.parent ∷ []
    else (if same_region r (Frame p) then Frame l.parent ∷ []
    else (if has_procedure l.parent a.older then Frame l.parent ∷ OldFrame l.parent ∷ [] else Frame l.parent ∷ []))

abbrev pub through : AbsState → ℕ → Part → Link → List Part
through a p x l = map (λ r. part r (interval.add x.si l.off)) (parent_regions a p x.region l)

abbrev pub links_of_region : AbsState → RegionId → List Link
links_of_region a (Frame q) = links_from a q false
links_of_region a (OldFrame q) = links_from a q true
links_of_region a _ = []

abbrev pub next_by : Verdict → List Part → List Part
next_by (Follows as_well) xs = xs
next_by _ xs = []

abbrev pub next_of : AbsState → ℕ → ℕ → ℕ → Part → List Part
next_of a p len followed x = next_by (verdict a p len followed x) (flat_map (through a p x) (links_of_region a x.region))

-- -- Lists of different parts, rising by region, then by stride, then by the ends

abbrev pub interval_before : Interval → Interval → Bool
interval_before a b =
    if a.stride == b.stride then (if int_eq a.lo b.lo then int_lt a.hi b.hi else int_lt a.lo b.lo) else nat_lt a.stride b.stride

abbrev pub part_before : Part → Part → Bool
part_before x y = if same_region x.region y.region then interval_before x.si y.si else region_before x.region y.region

abbrev pub put_part : Part → List Part → List Part
put_part x [] = x ∷ []
put_part x (y ∷ ys) = if same_part y x then y ∷ ys else (if part_before y x then y ∷ put_part x ys else x ∷ y ∷ ys)

unfoldable pub rising_onto : List Part → List Part → List Part
rising_onto into [] = into
rising_onto into (x ∷ xs) = rising_onto (put_part x into) xs

-- -- Levels

-- an interval that was met after so many links
pub record Met : Type 0 where
  pub followed : ℕ
  pub place : Part

abbrev pub met_after : ℕ → Part → Met
met_after followed x = record { followed = followed; place = x }

-- what is met from some parts on, level by level
unfoldable pub levels : AbsState → ℕ → ℕ → ℕ → ℕ → List Part → List Met
levels a p len zero followed xs = map (met_after followed) xs
levels a p len (suc fuel) followed xs =
    map (met_after followed) xs ++ levels a p len fuel (followed + 1) (rising_onto [] (flat_map (next_of a p len followed) xs))

-- -- Results

pub record Resolved : Type 0 where
  pub entries : List Part
  pub reasons : List Reason

abbrev pub is_listed : Verdict → Bool
is_listed (Refuses r) = false
is_listed Stays = true
is_listed (Follows as_well) = as_well

abbrev pub same_reason : Reason → Reason → Bool
same_reason UnknownWrite UnknownWrite = true
same_reason OutOfRegion OutOfRegion = true
same_reason HeapOverrun HeapOverrun = true
same_reason _ _ = false

abbrev pub is_refused_by : Reason → Verdict → Bool
is_refused_by r (Refuses q) = same_reason q r
is_refused_by r _ = false

abbrev pub verdict_on : AbsState → ℕ → ℕ → Met → Verdict
verdict_on a p len m = verdict a p len m.followed m.place

abbrev pub places : List Met → List Part
places ms = map (λ (m : Met). m.place) ms

abbrev pub told : AbsState → ℕ → ℕ → List Met → Resolved
told a p len ms =
    record {
      entries = rising_onto [] (places (filter (λ (m : Met). is_listed (verdict_on a p len m)) ms));
      reasons = filter (λ (r : Reason). list_any (λ (m : Met). is_refused_by r (verdict_on a p len m)) ms) (UnknownWrite ∷ OutOfRegion ∷ HeapOverrun ∷ []);
    }

-- above 1,024 different intervals nothing is told
abbrev pub told_of_few : AbsState → ℕ → ℕ → List Met → Resolved
told_of_few a p len ms =
    if nat_lt 1024 (length (rising_onto [] (places ms))) then record { entries = []; reasons = OutOfRegion ∷ [] } else told a p len ms

-- the places of `len` bytes at an address, at a node of procedure p
unfoldable pub resolve : AbsState → ℕ → Values → ℕ → Resolved
resolve a p Top len = record { entries = []; reasons = UnknownWrite ∷ [] }
resolve a p (Parts xs) len = told_of_few a p len (levels a p len (most_links a + 1) 0 (rising_onto [] xs))
