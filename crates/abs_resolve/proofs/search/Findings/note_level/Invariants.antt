use Rattle.std.proofs.Common.{◌≡◌, map, drop}
use Rattle.abs_semantics.specs.Resolve.{met_after}
use Rattle.abs_resolve.specs.Owned.{state_of}
use Rattle.abs_resolve.specs.Search.{all_noted}
use Rattle.abs_resolve.proofs.search.Findings.note_level.Given as goal

abbrev pub invariant-loop-x : goal.invariant-loop-x
invariant-loop-x l =
    all_noted (state_of l.owners) l.access.procedure l.access.len l.self (map (met_after l.followed) (drop l.x-index l.level))
    ≡ all_noted (state_of l.owners) l.access.procedure l.access.len l.initial.self (map (met_after l.followed) l.level)
