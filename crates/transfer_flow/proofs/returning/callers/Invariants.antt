use Rattle.std.proofs.Common.{◌≡◌, ◌++◌, [], drop}
use Rattle.std.specs.Prelude.{map}
use Rattle.std.specs.List.{flat_map}
use Rattle.transfer_flow.specs.Successors.{placed_of, states_of, caller_by, if_near}
use Rattle.transfer_flow.proofs.returning.callers.Given as goal

abbrev pub invariant-loop-other : goal.invariant-loop-other
invariant-loop-other l =
    map caller_by l.out.items ++ flat_map (λ o. if_near l.site.program.now.image.now l.site.program.now.settings.now (states_of l.site.program.now []) l.site.node.now l.links (placed_of o)) (drop l.other-index l.others)
    ≡ flat_map (λ o. if_near l.site.program.now.image.now l.site.program.now.settings.now (states_of l.site.program.now []) l.site.node.now l.links (placed_of o)) l.others
