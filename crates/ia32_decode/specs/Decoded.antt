-- What bytes decode to. The project's own.

use Rattle.std.specs.Prelude.{ℕ, List, ◌++◌, Result, Ok}
use Rattle.ia32_types.specs.declared.Instr.{Instr}
use Rattle.ia32_types.specs.Forms.{finished}
use Rattle.ia32_types.specs.Spells.{Begins, instruction}
use Rattle.ia32_decode.specs.declared.NotDecoded.{NotDecoded}
use Rattle.ia32_decode.specs.Reading.{run, and_then}

-- no first bytes spell an instruction
abbrev pub NoneBegins : List ℕ → ℕ → Type 0
NoneBegins bytes at = (i : Instr) → Begins bytes at i → ⊥

-- some longer bytes begin with a spelling
abbrev pub SomeLonger : List ℕ → ℕ → Type 0
SomeLonger bytes at = (further : List ℕ) × (i : Instr) × Begins (bytes ++ further) at i

-- no longer bytes do, nor these
abbrev pub NoLonger : List ℕ → ℕ → Type 0
NoLonger bytes at = (further : List ℕ) → NoneBegins (bytes ++ further) at

-- what the grammar reads, as the instruction at this address
abbrev pub decoded : List ℕ → ℕ → Result Instr NotDecoded
decoded bytes at = and_then (run 0 instruction bytes 0) (λ read. Ok (finished at read.1 read.0))
