-- Spans that are cut at an address, and what is put between the parts. The project's own.
use Rattle.std.specs.Prelude.{ℕ, min, max, nat_le, nat_lt, if◌then◌else◌, Option, Some, None, List, [], ◌∷◌, ◌++◌}
use Rattle.std.specs.List.{prefix_len}
use Rattle.std.specs.Option.{option_to_list}
use Rattle.last_writers.specs.declared.spans.Written.{Written}

-- the parts of the spans that lie below an address
abbrev pub below : ℕ → List Written → List Written
below limit [] = []
below limit (w ∷ ws) =
    if nat_lt w.start limit then record { start = w.start; end = min w.end limit; step = w.step } ∷ below limit ws else below limit ws

-- the parts of the spans that lie at an address or above it
abbrev pub above : ℕ → List Written → List Written
above limit [] = []
above limit (w ∷ ws) =
    if nat_lt limit w.end then record { start = max w.start limit; end = w.end; step = w.step } ∷ above limit ws else above limit ws

-- how many of the spans, from the first on, end at an address or below it
abbrev pub passed : ℕ → List Written → ℕ
passed a ws = prefix_len (λ w. nat_le w.end a) ws

-- the part below an address of the first span that ends above it
abbrev pub low_part : ℕ → Option Written → Option Written
low_part limit None = None
low_part limit (Some w) = if nat_lt w.start limit then Some (record { start = w.start; end = limit; step = w.step }) else None

-- the part at an address and above it, of the first span that ends above it
abbrev pub high_part : ℕ → Option Written → Option Written
high_part limit None = None
high_part limit (Some w) = Some (record { start = max w.start limit; end = w.end; step = w.step })

-- the range from start up to end, where a step wrote it
abbrev pub middle_part : ℕ → ℕ → Option ℕ → Option Written
middle_part start end None = None
middle_part start end (Some step) = Some (record { start = start; end = end; step = step })

-- the spans once the range from start up to end has this writer, or none
abbrev pub replaced : ℕ → ℕ → Option ℕ → List Written → List Written
replaced start end step ws = (below start ws ++ option_to_list (middle_part start end step)) ++ above end ws

-- the steps of the spans, from the first on, that begin below an address
abbrev pub steps_before : ℕ → List Written → List ℕ
steps_before end [] = []
steps_before end (w ∷ ws) = if nat_lt w.start end then w.step ∷ steps_before end ws else []
