-- The string instructions on an abstract state: movs, stos, and both repeated. A repeated one is one step. The rules are the project's own.
use Rattle.std.specs.Prelude.{ℕ, ◌*◌, ◌^◌, ◌==◌, ◌&&◌, not, nat_le, Bool, true, false, pos, int_le, unsigned_abs, if◌then◌else◌, List, [], ◌∷◌, Option, Some, None}
use Rattle.ia32_types.specs.declared.Reg.TheVariants.{Eax}
use Rattle.ia32_types.specs.declared.Width.{Width}
use Rattle.ia32_types.specs.declared.Operand.TheVariants as operand
use Rattle.ia32_semantics.specs.Effects.{Whole}
use Rattle.ia32_types.specs.Numbers.{size}
use Rattle.strided.specs.Interval.{Interval, one}
use Rattle.si_bits.specs.Operations.{mul}
use Rattle.vset.specs.Values.{Values, Top, only_number}
use Rattle.vset.specs.Operations.{join, add, sub}
use Rattle.abs_alu.specs.Operands.{known}
use Rattle.abs_alu.specs.Words.{numbers, number}
use Rattle.abs_semantics.specs.declared.parts.RangeValue.{RangeValue}
use Rattle.abs_semantics.specs.declared.parts.RangeValue.TheVariants as range
use Rattle.abs_semantics.specs.States.{AbsState}
use Rattle.abs_steps.specs.Flags.{MayBe, decided}
use Rattle.abs_steps.specs.Effects.{AbsEffect, puts, saves, fills}
use Rattle.abs_steps.specs.Views.{View, held, flags_held, value_of, stored_at}

-- -- Once

-- a pointer after one element of z bytes, downwards where DF is set
abbrev pub stepped : MayBe → ℕ → Values → Values
stepped may z at = decided (may 5 true) (may 5 false) (sub at (number (pos z))) (add at (number (pos z))) (join (add at (number (pos z))) (sub at (number (pos z))))

abbrev pub moved_once : View → Width → List AbsEffect
moved_once v width =
    saves (held v 7) (size width) (stored_at v width (held v 6))
    ∷ puts Whole 6 (stepped (flags_held v) (size width) (held v 6)) ∷ puts Whole 7 (stepped (flags_held v) (size width) (held v 7)) ∷ []

abbrev pub stored_once : View → Width → List AbsEffect
stored_once v width =
    saves (held v 7) (size width) (value_of v width (Some (operand.Reg Eax))) ∷ puts Whole 7 (stepped (flags_held v) (size width) (held v 7)) ∷ []

-- -- Repeated

-- DF is sure to be clear
abbrev pub goes_up : MayBe → Bool
goes_up may = may 5 false && not (may 5 true)

-- numbers of elements of z bytes, at least 0, and of 2^20 bytes at most
abbrev pub if_counted : ℕ → Option Interval → Option Interval
if_counted z None = None
if_counted z (Some c) = if int_le (pos 0) c.lo && nat_le (unsigned_abs c.hi * z) (2 ^ 20) then Some c else None

-- how often an instruction repeats, where it is known
abbrev pub count_of : AbsState → ℕ → Option Interval
count_of a z = if goes_up a.flags then if_counted z (only_number (a.registers 1)) else None

-- the bytes of so many elements, at most
abbrev pub bytes_of : ℕ → Interval → ℕ
bytes_of z c = unsigned_abs c.hi * z

-- a pointer after so many elements
abbrev pub grown : ℕ → Interval → Values → Values
grown z c at = add at (numbers (mul c (one (pos z))))

-- what a range holds, where it is known how many bytes are written
abbrev pub if_alone : Interval → RangeValue → RangeValue
if_alone c value = if c.stride == 0 then value else range.Any

abbrev pub number_or_any : Width → Option ℕ → RangeValue
number_or_any width None = range.Any
number_or_any width (Some n) = range.Number n width

-- ESI and EDI are written, if only with what they held, and ECX is 0
abbrev pub pointer_effects : Values → Values → List AbsEffect
pointer_effects from to = puts Whole 6 from ∷ puts Whole 7 to ∷ puts Whole 1 (number (pos 0)) ∷ []

abbrev pub moved_often : View → Width → Option Interval → List AbsEffect
moved_often v width None = fills (held v 7) None range.Any ∷ pointer_effects Top Top
moved_often v width (Some c) =
    if bytes_of (size width) c == 0 then pointer_effects (held v 6) (held v 7)
    else fills (held v 7) (Some (bytes_of (size width) c)) (if_alone c (range.Copy (held v 6)))
    ∷ pointer_effects (grown (size width) c (held v 6)) (grown (size width) c (held v 7))

abbrev pub stored_often : View → Width → Option Interval → List AbsEffect
stored_often v width None = fills (held v 7) None range.Any ∷ pointer_effects (held v 6) Top
stored_often v width (Some c) =
    if bytes_of (size width) c == 0 then pointer_effects (held v 6) (held v 7)
    else fills (held v 7) (Some (bytes_of (size width) c)) (if_alone c (number_or_any width (known 32 (held v 0))))
    ∷ pointer_effects (held v 6) (grown (size width) c (held v 7))

-- once, or ECX times
abbrev pub moved : Bool → View → Width → List AbsEffect
moved false v width = moved_once v width
moved true v width = moved_often v width (count_of v.state (size width))

abbrev pub stored : Bool → View → Width → List AbsEffect
stored false v width = stored_once v width
stored true v width = stored_often v width (count_of v.state (size width))
