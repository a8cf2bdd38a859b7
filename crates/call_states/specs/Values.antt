-- Values that are renamed, and cells that are lost. The project's own.
use Rattle.std.specs.Prelude.{Bool}
use Rattle.image_map.specs.declared.region.Cell.{Cell}
use Rattle.vset.specs.Values.{Values}
use Rattle.vset.specs.Operations.{age, also, drop_region}
use Rattle.abs_steps.specs.Calls.{is_in, lies_below}
use Rattle.call_states.specs.declared.values.Renaming.{Renaming}
use Rattle.call_states.specs.declared.values.Renaming.TheVariants as renaming
use Rattle.call_states.specs.declared.values.Lost.{Lost}
use Rattle.call_states.specs.declared.values.Lost.TheVariants as lost

abbrev pub renamed : Renaming → Values → Values
renamed (renaming.Aged young old) v = age young old v
renamed (renaming.Also old young) v = also old young v
renamed (renaming.Dropped r) v = drop_region r v

abbrev pub is_lost : Lost → Cell → Bool
is_lost (lost.All r) c = is_in r c
is_lost (lost.Below r limit) c = lies_below r limit c
