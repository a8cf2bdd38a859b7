use Rattle.std.proofs.Common.{sym, ◌∙◌}
use Rattle.abs_state.specs.Views.{seen}
use Rattle.transfer_flow.specs.Successors.{states_of}
use Rattle.transfer_flow.proofs.ControlLemmas.{plain_goes_on}
use Rattle.transfer_flow.proofs.flow.instruction_successors.Goals as goal

pub returns : goal.returns
returns c =
    let site = c.args.site.now in
    let p = site.program.now in
    c.in_ok-placed.ensures
    ∙ plain_goes_on p.image.now p.settings.now (states_of p c.args.others.now) site.node.now c.args.i.now.op c.args.i.now (seen site.state.now) (sym c.is_control.ensures ∙ c.if-is_control.false)
