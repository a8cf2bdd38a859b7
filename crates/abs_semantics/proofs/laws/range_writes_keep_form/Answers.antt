use Rattle.abs_semantics.proofs.laws.range_writes_keep_form.Goals as goal
use Rattle.abs_semantics.proofs.FormLemmas as lemma

pub returns : goal.returns
returns c = lemma.range_writes_keep_form
