use Rattle.std.proofs.Common.{◌∙◌, ap}
use Rattle.abs_steps.specs.Successors.{successors_by, successors}
use Rattle.abs_state.specs.Views.{seen}
use Rattle.transfer_flow.specs.Successors.{states_of}
use Rattle.transfer_flow.proofs.flow.successors.Goals as goal

pub returns : goal.returns
unfolding successors
returns c =
    let site = c.args.site.now in
    let p = site.program.now in
    c.in_ok-placed.ensures
    ∙ ap (λ x. successors_by x p.image.now p.settings.now (states_of p c.args.others.now) site.node.now (seen site.state.now)) c.content_at-content.ensures.value
