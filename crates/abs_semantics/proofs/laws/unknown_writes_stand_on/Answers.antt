use Rattle.abs_semantics.proofs.laws.unknown_writes_stand_on.Goals as goal
use Rattle.abs_semantics.proofs.RangeLemmas as lemma

pub returns : goal.returns
returns c = lemma.unknown_written_stands
