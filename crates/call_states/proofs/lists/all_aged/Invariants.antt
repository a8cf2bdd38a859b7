use Rattle.std.proofs.Common.{◌≡◌, ◌++◌, drop}
use Rattle.std.specs.Prelude.{map}
use Rattle.abs_semantics.specs.declared.parts.Link.{Link}
use Rattle.call_states.proofs.lists.all_aged.Given as goal

abbrev pub invariant-loop-link : goal.invariant-loop-link
invariant-loop-link l = l.out.items ++ map (λ (m : Link). record m { aged = l.now }) (drop l.link-index l.links) ≡ map (λ (m : Link). record m { aged = l.now }) l.links
