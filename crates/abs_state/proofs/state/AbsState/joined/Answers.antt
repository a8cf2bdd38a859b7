use Rattle.std.proofs.Common.{[], ◌∙◌, ap}
use Rattle.vset.specs.Values.{Parts, settled}
use Rattle.abs_state.specs.Views.{seen}
use Rattle.abs_state.proofs.ReadLemmas.{none_settled, no_values}
use Rattle.abs_state.proofs.state.AbsState.joined.Goals as goal

pub returns-in-None : goal.returns-in-None
returns-in-None c = c.from_parts.ensures ∙ ap settled c.new.ensures.items ∙ none_settled ∙ no_values (seen c.args.self.now) (Parts []) c.args.cells.now c.in-None.ensures.cases
