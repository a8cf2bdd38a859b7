use Rattle.abs_state.proofs.laws.widenings_keep_form.Goals as goal
use Rattle.abs_state.proofs.FormLemmas as lemma

pub returns : goal.returns
returns c = lemma.widenings_keep_form
