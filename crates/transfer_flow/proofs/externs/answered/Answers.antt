use Rattle.std.proofs.Common.{◌∙◌, ap}
use Rattle.abs_steps.specs.Accesses.{argument}
use Rattle.abs_steps.specs.Externs.{block_key, with_block, answered}
use Rattle.transfer_flow.specs.Successors.{view_at}
use Rattle.transfer_flow.proofs.externs.answered.Goals as goal

pub returns : goal.returns
unfolding answered
returns c =
    let site = c.args.site.now in
    c.in_ok-give.ensures ∙ ap (with_block c.args.kind.now (block_key site.program.now.lane site.node.now) (argument (view_at site) 1)) c.in_ok-out.ensures
