-- What a range holds after a write, where what is copied is at a place. The project's own.
use Rattle.std.specs.Prelude.{◌≡◌, ℕ, if◌then◌else◌, List, filter, Contains, Option, Some, None, pos, ◌≤ℤ◌, ◌<ℤ◌, ◌+ℤ◌}
use Rattle.std.specs.Int.{int_gap}
use Rattle.image_map.specs.declared.region.Cell.{Cell}
use Rattle.image_map.specs.declared.region.RegionId.TheVariants.{Global}
use Rattle.strided.specs.Interval.{greatest}
use Rattle.ia32_types.specs.Numbers.{size}
use Rattle.alocs.specs.Cells.{Division}
use Rattle.vset.specs.declared.part.Part.{Part}
use Rattle.vset.specs.Values.{Values, Top}
use Rattle.abs_semantics.specs.States.{AbsState}
use Rattle.abs_semantics.specs.Joins.{has_length, held_by}
use Rattle.abs_semantics.specs.Touching.{is_within}
use Rattle.abs_semantics.specs.Ranges.{repeated_value, value_within}
use Rattle.abs_state.specs.declared.ranges.Stored.{Stored}
use Rattle.abs_state.specs.declared.ranges.Stored.TheVariants.{Any, Number, Copy}

abbrev pub stored_as : AbsState → Division → Stored → ℕ → ℕ → Values
stored_as a d Any distance count = Top
stored_as a d (Number n width) distance count = repeated_value (size width) n distance count
stored_as a d (Copy place) distance count = value_within a d distance count place

-- what the bytes of a range at a place hold
pub record Filling : Type 0 where
  pub len : ℕ
  pub place : Part
  pub stored : Stored

-- the range of numbers that is copied ends below 2^31
abbrev pub IsInReach : ℕ → Stored → Type 0
IsInReach len (Copy (Some x)) = x.region ≡ Global → (x.si.lo +ℤ pos len) ≤ℤ greatest
IsInReach len _ = Unit {0}

-- what a cell within the range holds
abbrev pub held_in : AbsState → Division → Filling → Cell → Values
held_in a d w c = held_by c (stored_as a d w.stored (int_gap w.place.si.lo c.start) (int_gap c.start c.end))

-- some cells are those among others that lie within a range, but for cells without a byte
pub record AreWithin (len : ℕ) (x : Part) (cells found : List Cell) : Type 0 where
  pub sound : (c : Cell) → Contains found c → Contains (filter (is_within len x) cells) c
  pub complete : (c : Cell) → Contains (filter (is_within len x) cells) c → c.start <ℤ c.end → Contains found c

-- how many bytes a cell has, where numbers may be kept in it
abbrev pub number_length : Cell → Option ℕ
number_length c = if has_length 1 c then Some 1 else (if has_length 2 c then Some 2 else (if has_length 4 c then Some 4 else None))
