use Rattle.abs_semantics.proofs.laws.reads_are_members.Goals as goal
use Rattle.abs_semantics.proofs.ReadLemmas as lemma

pub returns : goal.returns
returns c = lemma.reads_are_members
