use Rattle.abs_state.proofs.laws.joins_keep_rising.Goals as goal
use Rattle.abs_state.proofs.FormLemmas as lemma

pub returns : goal.returns
returns c = lemma.joins_keep_rising
