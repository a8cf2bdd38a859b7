-- Spans of addresses. The project's own.
use Rattle.std.specs.Prelude.{ℕ, ◌≤◌, ◌<◌, min, max, Bool, nat_le, nat_lt, if◌then◌else◌, Option, Some, None, List, [], ◌∷◌, ◌++◌}
use Rattle.std.specs.List.{list_any, prefix_len}
use Rattle.item_list.specs.Ranges.{within}
use Rattle.image_map.specs.declared.spans.Span.{Span}

-- an address that lies in one of the spans
abbrev pub is_any : List Span → ℕ → Bool
is_any spans a = list_any (λ s. within s.start s.end a) spans

-- the spans aren't empty, and each begins at or behind the end of the one before it, the first at or behind low
abbrev pub IsRisingFrom : ℕ → List Span → Type 0
IsRisingFrom low [] = Unit {0}
IsRisingFrom low (s ∷ ss) = (low ≤ s.start) × (s.start < s.end) × IsRisingFrom s.end ss

abbrev pub IsRising : List Span → Type 0
IsRising spans = IsRisingFrom 0 spans

-- the parts of the spans that lie below an address
abbrev pub below : ℕ → List Span → List Span
below limit [] = []
below limit (s ∷ ss) = if nat_lt s.start limit then record { start = s.start; end = min s.end limit } ∷ below limit ss else below limit ss

-- the parts of the spans that lie at an address or above it
abbrev pub above : ℕ → List Span → List Span
above limit [] = []
above limit (s ∷ ss) = if nat_lt limit s.end then record { start = max s.start limit; end = s.end } ∷ above limit ss else above limit ss

-- how many of the spans, from the first on, end at an address or below it
abbrev pub passed : ℕ → List Span → ℕ
passed a spans = prefix_len (λ s. nat_le s.end a) spans

-- the part below an address of the first span that ends above it
abbrev pub low_part : ℕ → Option Span → Option Span
low_part limit None = None
low_part limit (Some s) = if nat_lt s.start limit then Some (record { start = s.start; end = limit }) else None

-- the part at an address and above it, of the first span that ends above it
abbrev pub high_part : ℕ → Option Span → Option Span
high_part limit None = None
high_part limit (Some s) = Some (record { start = max s.start limit; end = s.end })

-- the range from start up to end, where it is put in
abbrev pub middle_part : ℕ → ℕ → Bool → Option Span
middle_part start end any = if any then Some (record { start = start; end = end }) else None

-- the spans with the addresses from start up to end in them, or out of them
abbrev pub replaced : ℕ → ℕ → Bool → List Span → List Span
replaced start end any spans = below start spans ++ (if any then record { start = start; end = end } ∷ [] else []) ++ above end spans
