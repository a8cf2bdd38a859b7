use Rattle.abs_semantics.proofs.laws.reads_have_form.Goals as goal
use Rattle.abs_semantics.proofs.FormLemmas as lemma

pub returns : goal.returns
returns c = lemma.reads_have_form
