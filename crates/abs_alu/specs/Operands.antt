-- The words that an operation computes on, where value-sets and flags tell them. The definitions are the project's own.

use Rattle.std.specs.Prelude.{ℕ, ◌^◌, ◌<◌, nat_lt, ℤ, Bool, true, false, if◌then◌else◌, Option, Some, None}
use Rattle.ia32_types.specs.declared.Op.{Op}
use Rattle.ia32_types.specs.declared.Op.TheVariants as op
use Rattle.ia32_types.specs.declared.Flag.TheVariants.{Cf}
use Rattle.ia32_types.specs.Sets.{has_flag}
use Rattle.strided.specs.Interval.{Interval}
use Rattle.strided.specs.Operations.{only}
use Rattle.si_bits.specs.Concrete.{word}
use Rattle.vset.specs.declared.facts.AbsFlags.{AbsFlags}
use Rattle.vset.specs.Values.{Values, only_number}
use Rattle.abs_alu.specs.declared.operands.Arguments.{Arguments}

-- all but four operations take a second operand
unfoldable pub takes_second : Op → Bool
takes_second op.Inc = false
takes_second op.Dec = false
takes_second op.Not = false
takes_second op.Neg = false
takes_second _ = true

-- and two take CF
unfoldable pub takes_carry : Op → Bool
takes_carry op.Adc = true
takes_carry op.Sbb = true
takes_carry _ = false

-- the word of a number, where it lies below 2^w
abbrev pub word_within : ℕ → Option ℤ → Option ℕ
word_within w None = None
word_within w (Some v) = if nat_lt (word v) (2 ^ w) then Some (word v) else None

-- the word below 2^w that is the one member, where there is one alone
abbrev pub single_word : ℕ → Option Interval → Option ℕ
single_word w None = None
single_word w (Some x) = word_within w (only x)

unfoldable pub known : ℕ → Values → Option ℕ
known w v = single_word w (only_number v)

-- CF, where it may be one value alone
abbrev pub sure : Bool → Bool → Option Bool
sure true false = Some false
sure false true = Some true
sure _ _ = None

unfoldable pub known_carry : AbsFlags → Option Bool
known_carry f = sure (has_flag f.zero Cf) (has_flag f.one Cf)

-- the operands, where each is known; one that isn't taken is 0
abbrev pub with_carry : ℕ → Option ℕ → Option Bool → Option Arguments
with_carry first None carry = None
with_carry first (Some second) None = None
with_carry first (Some second) (Some carry) = Some (record { first = first; second = second; carry = carry })

abbrev pub with_second : Option ℕ → Option ℕ → Option Bool → Option Arguments
with_second None second carry = None
with_second (Some first) second carry = with_carry first second carry

unfoldable pub operands : ℕ → Op → Values → Values → AbsFlags → Option Arguments
operands w o a b f =
    with_second (known w a) (if takes_second o then known w b else Some 0) (if takes_carry o then known_carry f else Some false)

-- operands of w bits
abbrev pub AreWords : ℕ → Arguments → Type 0
AreWords w x = (x.first < 2 ^ w) × (x.second < 2 ^ w)
