-- Ranges by their length are those of the accesses.
use Rattle.std.proofs.Common.{◌≡◌, ℕ, Bool, true, false, refl, Option, Some, None}
use Rattle.ia32_types.specs.declared.Width.{Width}
use Rattle.ia32_types.specs.declared.Width.TheVariants.{B8, W16, D32}
use Rattle.ia32_types.specs.Numbers.{size}
use Rattle.strided.specs.Interval.{Interval}
use Rattle.vset.specs.Values.{Values}
use Rattle.abs_semantics.specs.States.{AbsState}
use Rattle.abs_steps.specs.Strings.{count_of}
use Rattle.abs_steps.specs.Accesses.{range_of, string_range}
use Rattle.abs_steps.specs.Externs.{fill_effects}
use Rattle.transfer.specs.Ranges.{ranged, length_of, string_length, filled_by}

pub range_by_length : (write : Bool) (at : Values) (z : ℕ) (c : Option Interval) → range_of write at z c ≡ ranged write at (length_of z c)
range_by_length write at z None = refl
range_by_length write at z (Some c) = refl

pub string_range_by_length : (write : Bool) (a : AbsState) (rep : Bool) (width : Width) (at : Values) → string_range write a rep width at ≡ ranged write at (string_length a rep width)
string_range_by_length write a false B8 at = refl
string_range_by_length write a false W16 at = refl
string_range_by_length write a false D32 at = refl
string_range_by_length write a true width at = range_by_length write at (size width) (count_of a (size width))

pub filled_by_length : (at : Values) (c : Option Interval) → fill_effects at c ≡ filled_by at (length_of 1 c)
filled_by_length at None = refl
filled_by_length at (Some c) = refl
