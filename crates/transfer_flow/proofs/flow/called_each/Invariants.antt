use Rattle.std.proofs.Common.{◌≡◌, ◌++◌, drop}
use Rattle.abs_steps.specs.Successors.{called_each}
use Rattle.transfer_flow.specs.Successors.{all_placed, view_at}
use Rattle.transfer_flow.proofs.flow.called_each.Given as goal

abbrev pub invariant-loop-at : goal.invariant-loop-at
invariant-loop-at l =
    all_placed l.out.items ++ called_each l.site.program.now.lane (view_at l.site) l.entering.i.now l.site.node.now l.entering.offset (drop l.at l.targets)
    ≡ called_each l.site.program.now.lane (view_at l.site) l.entering.i.now l.site.node.now l.entering.offset l.targets
