-- A state where it stands, as the code has it. The project's own.
use Rattle.abs_steps.specs.Views.{View}
use Rattle.abs_state.specs.Views.{seen}
use Rattle.transfer.specs.declared.view.View.{View as CodeView}

abbrev pub view_by : CodeView → View
view_by v = record { state = seen v.state.now; cells = v.cells.now; procedure = v.procedure }
