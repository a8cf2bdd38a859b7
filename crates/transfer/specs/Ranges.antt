-- Ranges of bytes by their length. The project's own.
use Rattle.std.specs.Prelude.{ℕ, ◌==◌, Bool, true, false, if◌then◌else◌, List, [], ◌∷◌, Option, Some, None}
use Rattle.ia32_types.specs.declared.Width.{Width}
use Rattle.ia32_types.specs.Numbers.{size}
use Rattle.strided.specs.Interval.{Interval}
use Rattle.vset.specs.Values.{Values}
use Rattle.abs_semantics.specs.declared.parts.RangeValue.TheVariants as range
use Rattle.abs_semantics.specs.States.{AbsState}
use Rattle.abs_steps.specs.declared.accesses.Access.{Access}
use Rattle.abs_steps.specs.Effects.{AbsEffect, fills}
use Rattle.abs_steps.specs.Strings.{count_of, bytes_of}
use Rattle.abs_steps.specs.Accesses.{access}

-- so many bytes, if any; None: it isn't known how many
abbrev pub ranged : Bool → Values → Option ℕ → List Access
ranged write at None = access write at None ∷ []
ranged write at (Some n) = if n == 0 then [] else access write at (Some n) ∷ []

-- the bytes of so many elements, at most
abbrev pub length_of : ℕ → Option Interval → Option ℕ
length_of z None = None
length_of z (Some c) = Some (bytes_of z c)

-- the bytes that a string instruction moves
abbrev pub string_length : AbsState → Bool → Width → Option ℕ
string_length a false width = Some (size width)
string_length a true width = length_of (size width) (count_of a (size width))

-- any bytes in a range of so many, if any
abbrev pub filled_by : Values → Option ℕ → List AbsEffect
filled_by at None = fills at None range.Any ∷ []
filled_by at (Some n) = if n == 0 then [] else fills at (Some n) range.Any ∷ []
