use Rattle.chops.specs.Pairs.{AddsPairs}
use Rattle.chops.proofs.PairSetLemmas.{IsShownBelow}
use Rattle.chops.proofs.control.add_bits.Given as goal

abbrev pub invariant-loop-k : goal.invariant-loop-k
invariant-loop-k l = AddsPairs (IsShownBelow l.branch l.word l.targets l.k) l.initial.pairs.items l.pairs.items
