use Rattle.abs_semantics.proofs.laws.resolved_bytes_are_owned.Goals as goal
use Rattle.abs_semantics.proofs.OwnerLemmas as lemma

pub returns : goal.returns
returns c = lemma.resolved_bytes
