use Rattle.abs_semantics.proofs.laws.writes_keep_form.Goals as goal
use Rattle.abs_semantics.proofs.FormLemmas as lemma

pub returns : goal.returns
returns c = lemma.writes_keep_form
