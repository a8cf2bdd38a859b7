use Rattle.abs_semantics.proofs.laws.joined_stands_for_first.Goals as goal
use Rattle.abs_semantics.proofs.JoinLemmas as lemma

pub returns : goal.returns
returns c = lemma.first_stands
