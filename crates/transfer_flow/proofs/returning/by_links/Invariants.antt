use Rattle.std.proofs.Common.{◌≡◌, ◌++◌, drop}
use Rattle.std.specs.Prelude.{map}
use Rattle.std.specs.List.{flat_map}
use Rattle.abs_state.specs.Views.{seen}
use Rattle.transfer_flow.specs.Successors.{all_placed, caller_by, by_link}
use Rattle.transfer_flow.proofs.returning.by_links.Given as goal

abbrev pub invariant-loop-link : goal.invariant-loop-link
invariant-loop-link l =
    all_placed l.out.items ++ flat_map (by_link (map caller_by l.callers) l.ending.procedure l.ending.extra (seen l.ending.from.now)) (drop l.link-index l.links)
    ≡ flat_map (by_link (map caller_by l.callers) l.ending.procedure l.ending.extra (seen l.ending.from.now)) l.links
