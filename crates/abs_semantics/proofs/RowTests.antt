-- Which places addresses mean at the edges of the rules, computed.
use Rattle.std.proofs.Common.{◌≡◌, ℕ, true, false, List, [], ◌∷◌, None, refl, ℤ}
use Rattle.std.specs.Prelude.{pos, negsuc}
use Rattle.std.specs.Int.{int_wrap}
use Rattle.image_map.specs.declared.region.RegionId.{RegionId}
use Rattle.image_map.specs.declared.region.RegionId.TheVariants.{Global, Frame, Heap, OldHeap}
use Rattle.image_map.specs.Regions.{region_cmp}
use Rattle.strided.specs.Gcd.{gcd, gcd_within}
use Rattle.strided.specs.Interval.{one}
use Rattle.strided.specs.Operations.{add, wrap, fitted, spaced, stepped}
use Rattle.vset.specs.Values.{Values, Top, Parts}
use Rattle.vset.specs.Operations.{part}
use Rattle.abs_semantics.specs.declared.parts.Link.{Link}
use Rattle.abs_semantics.specs.declared.parts.Known.{Known}
use Rattle.abs_semantics.specs.States.{AbsState}
use Rattle.abs_semantics.specs.declared.parts.Reason.{Reason}
use Rattle.abs_semantics.specs.declared.parts.Reason.TheVariants.{UnknownWrite, OutOfRegion, HeapOverrun}
use Rattle.abs_semantics.specs.Resolve.{Resolved, verdict, rising_onto, levels, resolve}

-- -- States and addresses

-- Runs start at procedure 1.
abbrev state : List ℕ → List ℕ → List Link → List Known → AbsState
state live older links blocks =
    record {
      registers = λ n. Top;
      flags = λ n t. true;
      cells = [];
      live = live;
      older = older;
      links = links;
      aligns = [];
      blocks = blocks;
      fact = None;
      root = 1;
    }

abbrev alone : AbsState
alone = state (1 ∷ []) [] [] []

-- procedure 1 calls 2, 40 bytes below its own return slot
abbrev called : AbsState
called = state (1 ∷ 2 ∷ []) [] (record { child = 2; aged = false; parent = 1; off = one (negsuc 39) } ∷ []) []

-- a block of 12 bytes
abbrev allocated : AbsState
allocated = state (1 ∷ []) [] [] (record { region = Heap 7; number = 12 } ∷ [])

abbrev at : RegionId → ℤ → Values
at r z = Parts (part r (one z) ∷ [])

abbrev only : RegionId → ℤ → Resolved
only r z = record { entries = part r (one z) ∷ []; reasons = [] }

abbrev refused : Reason → Resolved
refused reason = record { entries = []; reasons = reason ∷ [] }

-- -- Rows

top_is_unknown : resolve alone 1 Top 4 ≡ refused UnknownWrite
unfolding resolve
top_is_unknown = refl

-- the last word of numbers, and one byte further
last_number : resolve alone 1 (at Global (pos 2147483643)) 4 ≡ only Global (pos 2147483643)
unfolding resolve levels verdict rising_onto region_cmp
last_number = refl

past_numbers : resolve alone 1 (at Global (pos 2147483644)) 4 ≡ refused UnknownWrite
unfolding resolve levels verdict rising_onto region_cmp
past_numbers = refl

-- up to the heap's own addresses, and into them
below_heap : resolve alone 1 (at Global (negsuc 1879048195)) 4 ≡ only Global (negsuc 1879048195)
unfolding resolve levels verdict rising_onto region_cmp
below_heap = refl

into_heap : resolve alone 1 (at Global (negsuc 1879048194)) 4 ≡ refused UnknownWrite
unfolding resolve levels verdict rising_onto region_cmp
into_heap = refl

-- a block's last word, one byte further, and a block of no known size
last_of_block : resolve allocated 1 (at (Heap 7) (pos 8)) 4 ≡ only (Heap 7) (pos 8)
unfolding resolve levels verdict rising_onto region_cmp
last_of_block = refl

past_block : resolve allocated 1 (at (Heap 7) (pos 9)) 4 ≡ refused HeapOverrun
unfolding resolve levels verdict rising_onto region_cmp
past_block = refl

unknown_block : resolve allocated 1 (at (OldHeap 7) (pos 0)) 1 ≡ refused HeapOverrun
unfolding resolve levels verdict rising_onto region_cmp
unknown_block = refl

-- the entry's own arguments; those of a procedure that no link leads on from
entry_argument : resolve alone 1 (at (Frame 1) (pos 8)) 4 ≡ only (Frame 1) (pos 8)
unfolding resolve levels verdict rising_onto region_cmp
entry_argument = refl

no_link : resolve alone 2 (at (Frame 2) (pos 8)) 4 ≡ refused OutOfRegion
unfolding resolve levels verdict rising_onto region_cmp
no_link = refl

-- an argument lies in the caller's frame; a word across the return slot's end lies in no frame
argument_of_callee : resolve called 2 (at (Frame 2) (pos 8)) 4 ≡ only (Frame 1) (negsuc 31)
unfolding resolve levels verdict rising_onto region_cmp add wrap fitted spaced stepped gcd gcd_within int_wrap
argument_of_callee = refl

across_slot : resolve called 2 (at (Frame 2) (pos 2)) 4 ≡ refused OutOfRegion
unfolding resolve levels verdict rising_onto region_cmp
across_slot = refl

-- a caller's bytes end with its callee's return slot
callers_own : resolve called 2 (at (Frame 1) (negsuc 35)) 4 ≡ only (Frame 1) (negsuc 35)
unfolding resolve levels verdict rising_onto region_cmp
callers_own = refl

of_the_callee : resolve called 2 (at (Frame 1) (negsuc 36)) 4 ≡ refused OutOfRegion
unfolding resolve levels verdict rising_onto region_cmp
of_the_callee = refl
