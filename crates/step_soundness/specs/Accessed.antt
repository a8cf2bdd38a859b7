-- Which bytes the accesses of an instruction may concern in a state of the machine. The project's own.
use Rattle.std.specs.Prelude.{◌≡◌, ◌⊎◌, ℕ, ◌+◌, ◌<◌, ◌==◌, Bool, true, false, if◌then◌else◌, List, [], ◌∷◌, Option, Some, None}
use Rattle.ia32_types.specs.declared.Instr.{Instr}
use Rattle.ia32_types.specs.declared.Op.{Op}
use Rattle.ia32_types.specs.declared.Op.TheVariants as op
use Rattle.ia32_types.specs.Numbers.{size}
use Rattle.ia32_semantics.specs.State.{State}
use Rattle.strided.specs.Interval.{Interval}
use Rattle.vset.specs.Values.{Values}
use Rattle.abs_semantics.specs.Ownership.{IsRange}
use Rattle.abs_semantics.specs.States.{AbsState}
use Rattle.abs_steps.specs.Accesses.{writes}
use Rattle.abs_steps.specs.Strings.{count_of}
use Rattle.abs_steps.specs.declared.accesses.Access.{Access}

-- a byte among the first of a range that an address means, each of which is there
pub record IsNear (lane : ℕ) (s : State) (v : Values) (len byte : ℕ) : Type 0 where
  pub at : ℕ
  pub count : ℕ
  pub range : IsRange lane s v at count len
  pub distance : ℕ
  pub near : distance < count
  pub is : byte ≡ at + distance

-- where it isn't known how many bytes are meant, any byte may be
abbrev pub IsWithin : ℕ → State → Values → Option ℕ → ℕ → Type 0
IsWithin lane s v None byte = Unit {0}
IsWithin lane s v (Some len) byte = IsNear lane s v len byte

-- a byte that one of some accesses may concern
abbrev pub IsAccessed : ℕ → State → List Access → ℕ → Type 0
IsAccessed lane s [] byte = ⊥
IsAccessed lane s (x ∷ xs) byte = IsWithin lane s x.addr x.len byte ⊎ IsAccessed lane s xs byte

-- -- Ranges of which every byte is written

-- a range that an address means, each byte of which passes a test
pub record IsFilled (lane : ℕ) (s : State) (test : ℕ → Bool) (v : Values) (len : ℕ) : Type 0 where
  pub at : ℕ
  pub range : IsRange lane s v at len len
  pub filled : (k : ℕ) → k < len → test (at + k) ≡ true

abbrev pub IsFilledBy : ℕ → State → (ℕ → Bool) → Values → Option ℕ → Type 0
IsFilledBy lane s test v None = Unit {0}
IsFilledBy lane s test v (Some len) = IsFilled lane s test v len

abbrev pub AreFilled : ℕ → State → (ℕ → Bool) → List Access → Type 0
AreFilled lane s test [] = Unit {0}
AreFilled lane s test (x ∷ xs) = IsFilledBy lane s test x.addr x.len × AreFilled lane s test xs

-- a count is one number
abbrev pub is_one : Option Interval → Bool
is_one None = false
is_one (Some c) = c.stride == 0

-- What an instruction writes in any case: a repeated one where its count is one number.
unfoldable pub always_written : Op → AbsState → Instr → List Access
always_written (op.Movs true) a i = if is_one (count_of a (size i.width)) then writes (op.Movs true) a i else []
always_written (op.Stos true) a i = if is_one (count_of a (size i.width)) then writes (op.Stos true) a i else []
always_written o a i = writes o a i
