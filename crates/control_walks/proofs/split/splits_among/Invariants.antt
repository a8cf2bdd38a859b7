use Rattle.std.proofs.Common.{ℕ}
use Rattle.std.specs.Prelude.{Contains}
use Rattle.control_walks.specs.Floods.{SplitsBy}
use Rattle.control_walks.proofs.SplitLemmas.{NoneBelow}
use Rattle.control_walks.proofs.split.splits_among.Given as goal

abbrev pub invariant-loop-x : goal.invariant-loop-x
invariant-loop-x l = NoneBelow (λ x. (y : ℕ) × Contains l.next y × SplitsBy l.nodes l.reaching l.escaping x y) l.next l.x-index
