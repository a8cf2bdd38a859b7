-- What the last comparison tells of a value and of the flags (SDM volume 2, CMP). The relation is the project's own.

use Rattle.std.specs.Prelude.{◌≡◌, ℕ, ◌^◌, ◌<◌, false, pos}
use Rattle.strided.specs.Concrete.{signed}
use Rattle.strided.specs.Interval.{Interval, IsMember}
use Rattle.ia32_types.specs.declared.Op.TheVariants as op
use Rattle.ia32_semantics.specs.declared.flags.Flags.{Flags}
use Rattle.ia32_semantics.specs.declared.flags.FlagsOut.{FlagsOut}
use Rattle.ia32_semantics.specs.declared.flags.FlagOut.TheVariants as flag
use Rattle.ia32_semantics.specs.Alu.{alu_flags}

-- each flag is set to what it is here
abbrev pub all_set : Flags → FlagsOut
all_set f = record { cf = flag.Set f.cf; pf = flag.Set f.pf; zf = flag.Set f.zf; sf = flag.Set f.sf; of = flag.Set f.of }

-- the flags are those of a comparison of the word n with a word that is some member of the bound
pub record IsCompared (bound : Interval) (n : ℕ) (flags : Flags) : Type 0 where
  pub other : ℕ
  pub is_word : other < 2 ^ 32
  pub within : IsMember (signed (pos other)) bound
  pub given : alu_flags 32 op.Cmp n other false ≡ all_set flags
