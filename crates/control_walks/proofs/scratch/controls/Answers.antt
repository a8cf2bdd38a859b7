use Rattle.control_walks.proofs.SplitLemmas.{splits-controls_one}
use Rattle.control_walks.proofs.scratch.controls.Goals as goal

pub returns-clause-listed : goal.returns-clause-listed
returns-clause-listed c = λ b.
    let by = splits-controls_one c.args.graph.now.nodes c.args.node c.flood.new.s b c.requires.inside c.flood.ensures.floods in
    let listed = c.list_branches.ensures.listed b in
    (λ among. by.0 (listed.0 among), λ controls. listed.1 (by.1 controls))
