-- How far an access to memory may reach, in the regions that a graph has. The project's own.
use Rattle.std.specs.Prelude.{ℕ, List, map, Option, Some, None}
use Rattle.vset.specs.declared.part.Part.{Part}
use Rattle.alocs.specs.Extents.{home}
use Rattle.vset.specs.Values.{Values}
use Rattle.abs_semantics.specs.States.{AbsState}
use Rattle.abs_semantics.specs.Accesses.{sure_entries}
use Rattle.abs_semantics.specs.Resolve.{resolve}
use Rattle.abs_steps.specs.declared.accesses.Access.{Access}
use Rattle.abs_steps.specs.Views.{View}
use Rattle.access_facts.specs.declared.reach.Reach.{Reach}
use Rattle.access_facts.specs.declared.reach.Reach.TheVariants.{Anywhere, Within}

abbrev pub within_parts : ℕ → Option (List Part) → Reach
within_parts len None = Anywhere
within_parts len (Some xs) = Within len xs

-- where it isn't known how many bytes are touched, or the address may mean other places, it is anywhere
abbrev pub reach_of : AbsState → ℕ → Values → Option ℕ → Reach
reach_of a p v None = Anywhere
reach_of a p v (Some len) = within_parts len (sure_entries (resolve a p v len))

-- at a node of procedure p
unfoldable pub reach : AbsState → ℕ → Access → Reach
reach a p x = reach_of a p x.addr x.len

abbrev pub reaches : View → List Access → List Reach
reaches v xs = map (reach v.state v.procedure) xs

-- older activations and blocks have the cells of the newest
abbrev pub at_home : Part → Part
at_home x = record x { region = home x.region }
