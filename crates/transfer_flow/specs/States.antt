-- States that may be there. The project's own.
use Rattle.std.specs.Prelude.{Option, Some, None}
use Rattle.abs_semantics.specs.States.{AbsState as State}
use Rattle.abs_state.specs.declared.state.AbsState.{AbsState}
use Rattle.abs_state.specs.Views.{seen}

abbrev pub state_in : Option AbsState → Option State
state_in None = None
state_in (Some a) = Some (seen a)
