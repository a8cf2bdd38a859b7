use Rattle.control_walks.specs.Floods.{SplitsBy}
use Rattle.control_walks.proofs.SplitLemmas.{NoneBelow}
use Rattle.control_walks.proofs.split.splits_from.Given as goal

abbrev pub invariant-loop-y : goal.invariant-loop-y
invariant-loop-y l = NoneBelow (SplitsBy l.nodes l.reaching l.escaping l.x) l.others l.y-index
