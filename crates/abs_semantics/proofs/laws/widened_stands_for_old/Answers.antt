use Rattle.abs_semantics.proofs.laws.widened_stands_for_old.Goals as goal
use Rattle.abs_semantics.proofs.JoinLemmas as lemma

pub returns : goal.returns
returns c = lemma.widened_stands_old
