-- What a map of last writers knows of a run. Registers and flags have addresses of their own there: a register its number, a
-- flag 8 more. The project's own.
use Rattle.std.specs.Prelude.{◌≡◌, ℕ, ◌+◌, ◌-◌, ◌<◌, ◌==◌, Bool, true, not, ◌&&◌, if◌then◌else◌, List, Option, Some, Contains, ◌↔◌}
use Rattle.std.specs.List.Sorted.{IsStrictlyIncreasing}
use Rattle.image_map.specs.declared.spans.Span.{Span}
use Rattle.image_map.specs.Ranges.{is_any}
use Rattle.last_writers.specs.declared.spans.Written.{Written}
use Rattle.last_writers.specs.Writers.{writer_at}
use Rattle.ia32_types.specs.declared.Reg.{Reg}
use Rattle.ia32_types.specs.declared.Flag.{Flag}
use Rattle.ia32_types.specs.declared.sets.NumberSet.{NumberSet}
use Rattle.ia32_types.specs.Numbers.{reg_number, flag_number}
use Rattle.ia32_types.specs.Sets.{has_number}
use Rattle.ia32_semantics.specs.State.{InRegister, InFlag, AtByte}
use Rattle.ia32_semantics.specs.Machine.{Occurrence}
use Rattle.ia32_semantics.specs.Step.{Act, forgets}
use Rattle.ia32_semantics.specs.Outcome.{is_in_stack, is_below}
use Rattle.item_list.specs.Ranges.{within}
use Rattle.ia32_run.specs.LastWrites.{last_writer, ReadsFrom}
use Rattle.ia32_run.specs.declared.writers.Writers.{Writers}

-- the writers, once a step has written these spans
abbrev pub WroteSpans : List Span → ℕ → List Written → List Written → Type 0
WroteSpans spans step old new = (a : ℕ) → writer_at new a ≡ (if is_any spans a then Some step else writer_at old a)

-- and once it has written those of the first n numbers that are in a set, from an address on
abbrev pub WroteNumbers : NumberSet → ℕ → ℕ → ℕ → List Written → List Written → Type 0
WroteNumbers numbers low n step old new =
    (a : ℕ) → writer_at new a ≡ (if within low (low + n) a && has_number numbers (a - low) then Some step else writer_at old a)

-- a step is the last writer of an address in these spans
abbrev pub WritesSpans : List Written → List Span → ℕ → Type 0
WritesSpans ws spans step = (a : ℕ) × (is_any spans a ≡ true) × (writer_at ws a ≡ Some step)

-- a set has a number other than one that is left out
abbrev pub is_wanted : NumberSet → ℕ → ℕ → Bool
is_wanted numbers skip n = has_number numbers n && not (n == skip)

-- and of one of the first n numbers that are wanted
abbrev pub WritesNumbers : List Written → NumberSet → ℕ → ℕ → ℕ → ℕ → Type 0
WritesNumbers ws numbers skip low n step = (k : ℕ) × (k < n) × (is_wanted numbers skip k ≡ true) × (writer_at ws (low + k) ≡ Some step)

-- the map has the last writer of each place of a run
pub record KnowsWriters (w : Writers) (run : List (Occurrence Act)) : Type 0 where
  pub registers : (r : Reg) → writer_at w.places (reg_number r) ≡ last_writer run (InRegister (reg_number r))
  pub flags : (f : Flag) → writer_at w.places (8 + flag_number f) ≡ last_writer run (InFlag (flag_number f))
  pub bytes : (a : ℕ) → writer_at w.bytes a ≡ last_writer run (AtByte a)

-- what an occurrence behind those of a run forgets, where the entry's return slot has an address
abbrev pub ForgetsBelow : ℕ → Option ℕ → Occurrence Act → Type 0
ForgetsBelow slot limit o = (a : ℕ) → forgets o (AtByte a) ≡ (is_in_stack slot a && is_below limit a)

-- these steps, rising, are those from which an occurrence behind those of a run reads
pub record ListsSources (skip_sp : Bool) (run : List (Occurrence Act)) (o : Occurrence Act) (steps : List ℕ) : Type 0 where
  pub rising : IsStrictlyIncreasing steps
  pub all : (i : ℕ) → Contains steps i ↔ ReadsFrom skip_sp run o i
