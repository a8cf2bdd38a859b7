-- What an extern does to an abstract state before it returns, by its kind. The rules are the project's own.
use Rattle.std.specs.Prelude.{ℕ, ◌==◌, List, [], ◌∷◌, ◌++◌, if◌then◌else◌, Option, Some, None}
use Rattle.image_map.specs.declared.image.Image.{Image}
use Rattle.image_map.specs.declared.region.Kind.{Kind}
use Rattle.image_map.specs.declared.region.Kind.TheVariants as kind
use Rattle.ia32_semantics.specs.Effects.{Whole}
use Rattle.strided.specs.Interval.{Interval}
use Rattle.vset.specs.Values.{Values, Top}
use Rattle.call_strings.specs.declared.context.Node.{Node}
use Rattle.abs_semantics.specs.declared.parts.RangeValue.TheVariants as range
use Rattle.abs_semantics.specs.States.{AbsState}
use Rattle.abs_semantics.specs.Operands.{with_register}
use Rattle.abs_steps.specs.Effects.{AbsEffect, puts, frees, fills, all_done}
use Rattle.abs_steps.specs.Views.{View}
use Rattle.abs_steps.specs.Strings.{bytes_of}
use Rattle.abs_steps.specs.Accesses.{argument, filled_count}
use Rattle.abs_steps.specs.Calls.{allocated, block_or_none}

-- what is left in EAX, ECX, EDX and the flags
abbrev pub result_effects : List AbsEffect
result_effects = puts Whole 0 Top ∷ puts Whole 1 Top ∷ puts Whole 2 Top ∷ frees ∷ []

-- any bytes in a range
abbrev pub fill_effects : Values → Option Interval → List AbsEffect
fill_effects at None = fills at None range.Any ∷ []
fill_effects at (Some c) = if bytes_of 1 c == 0 then [] else fills at (Some (bytes_of 1 c)) range.Any ∷ []

unfoldable pub extern_row : Kind → View → List AbsEffect
extern_row (kind.Pure n) v = result_effects
extern_row (kind.Reader n) v = result_effects
extern_row kind.Alloc v = result_effects
extern_row kind.Stop v = []
extern_row kind.Unknown v = result_effects
extern_row (kind.Fills buffer length) v = fill_effects (argument v buffer) (filled_count v length) ++ result_effects

-- -- Blocks

abbrev pub newest_of : List ℕ → ℕ
newest_of [] = 0
newest_of (site ∷ sites) = site

-- The key of what is allocated at a node: the newest call's site, 0 where none is pending, or where call strings have no length the
-- extern's address.
abbrev pub block_key : ℕ → Node → ℕ
block_key lane n = if lane == 0 then n.at else newest_of n.context.sites

-- the argument is read in the state before all this
abbrev pub with_block : Kind → ℕ → Values → AbsState → AbsState
with_block kind.Alloc key asked a = with_register (allocated key asked a) Whole 0 (block_or_none key)
with_block _ key asked a = a

-- the state in which the extern returns
unfoldable pub answered : View → Image → ℕ → Kind → AbsState
answered v image key k = with_block k key (argument v 1) (all_done v.cells image v.procedure (extern_row k v) v.state)
