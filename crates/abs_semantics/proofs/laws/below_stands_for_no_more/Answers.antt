use Rattle.abs_semantics.proofs.laws.below_stands_for_no_more.Goals as goal
use Rattle.abs_semantics.proofs.BelowLemmas as lemma

pub returns : goal.returns
returns c = lemma.below_stands
