use Rattle.abs_semantics.proofs.laws.joined_stands_for_second.Goals as goal
use Rattle.abs_semantics.proofs.JoinLemmas as lemma

pub returns : goal.returns
returns c = lemma.second_stands
