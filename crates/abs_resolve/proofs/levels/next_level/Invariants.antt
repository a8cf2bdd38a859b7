use Rattle.std.proofs.Common.{◌≡◌, [], drop}
use Rattle.std.specs.List.{flat_map}
use Rattle.abs_semantics.specs.Resolve.{rising_onto, next_of}
use Rattle.abs_resolve.specs.Owned.{state_of}
use Rattle.abs_resolve.proofs.levels.next_level.Given as goal

abbrev pub invariant-loop-x : goal.invariant-loop-x
invariant-loop-x l =
    rising_onto l.next.items (flat_map (next_of (state_of l.owners) l.access.procedure l.access.len l.followed) (drop l.x-index l.level))
    ≡ rising_onto [] (flat_map (next_of (state_of l.owners) l.access.procedure l.access.len l.followed) l.level)
