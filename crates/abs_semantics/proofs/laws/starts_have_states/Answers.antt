use Rattle.abs_semantics.proofs.laws.starts_have_states.Goals as goal
use Rattle.abs_semantics.proofs.FirstLemmas as lemma

pub returns : goal.returns
returns c = lemma.starts_have_states
