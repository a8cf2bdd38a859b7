use Rattle.std.proofs.Common.{◌≡◌, ◌++◌, drop}
use Rattle.std.specs.Prelude.{map}
use Rattle.abs_semantics.specs.Joins.{widened_link}
use Rattle.abs_state.proofs.joins.widened_links.Given as goal

abbrev pub invariant-loop-l : goal.invariant-loop-l
invariant-loop-l l = l.out.items ++ map (widened_link l.old) (drop l.l-index l.new) ≡ map (widened_link l.old) l.new
