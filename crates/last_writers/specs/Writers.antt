-- Which step wrote what stands at an address last, told by spans of addresses that rise. The project's own.
use Rattle.std.specs.Prelude.{◌≡◌, ℕ, ◌≤◌, ◌<◌, true, if◌then◌else◌, Option, Some, None, List, [], ◌∷◌}
use Rattle.item_list.specs.Ranges.{within}
use Rattle.last_writers.specs.declared.spans.Written.{Written}

-- the step of the span in which an address lies
abbrev pub writer_at : List Written → ℕ → Option ℕ
writer_at [] a = None
writer_at (w ∷ ws) a = if within w.start w.end a then Some w.step else writer_at ws a

-- a step is the last writer of one of the addresses from start up to end
abbrev pub IsWriterIn : List Written → ℕ → ℕ → ℕ → Type 0
IsWriterIn ws start end step = (a : ℕ) × (within start end a ≡ true) × (writer_at ws a ≡ Some step)

-- the spans aren't empty, and each begins at or behind the end of the one before it, the first at or behind low
abbrev pub IsRisingFrom : ℕ → List Written → Type 0
IsRisingFrom low [] = Unit {0}
IsRisingFrom low (w ∷ ws) = (low ≤ w.start) × (w.start < w.end) × IsRisingFrom w.end ws

abbrev pub IsRising : List Written → Type 0
IsRising ws = IsRisingFrom 0 ws
