use Rattle.std.proofs.Common.{◌≡◌, drop, not, ◌&&◌}
use Rattle.std.specs.Prelude.{◌==◌, if◌then◌else◌}
use Rattle.std.specs.List.{filter, flat_map}
use Rattle.abs_semantics.specs.declared.parts.Link.{Link}
use Rattle.abs_semantics.specs.Resolve.{rising_onto, through, links_from}
use Rattle.abs_resolve.specs.Owned.{state_of}
use Rattle.abs_resolve.proofs.levels.put_parents.Given as goal

abbrev pub invariant-loop-link : goal.invariant-loop-link
invariant-loop-link l =
    rising_onto l.parts.items (flat_map (through (state_of l.owners) l.procedure l.x) (filter (λ (k : Link). k.child == l.of.procedure && (if l.of.aged then k.aged else not k.aged)) (drop l.link-index l.link-items)))
    ≡ rising_onto l.initial.parts.items (flat_map (through (state_of l.owners) l.procedure l.x) (links_from (state_of l.owners) l.of.procedure l.of.aged))
