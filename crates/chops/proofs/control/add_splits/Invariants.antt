use Rattle.chops.specs.Pairs.{AddsPairs}
use Rattle.chops.proofs.PairSetLemmas.{IsSplitBelow}
use Rattle.chops.proofs.control.add_splits.Given as goal

abbrev pub invariant-loop-branch : goal.invariant-loop-branch
invariant-loop-branch l = AddsPairs (IsSplitBelow l.rows.nodes.now l.rows.reaching.now l.rows.escaping.now l.targets l.branch) l.initial.pairs.items l.pairs.items
