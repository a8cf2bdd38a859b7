use Rattle.abs_semantics.proofs.laws.writes_stand_on.Goals as goal
use Rattle.abs_semantics.proofs.WriteLemmas as lemma

pub returns : goal.returns
returns c = lemma.written_stands
