-- The law.
use Rattle.slice_soundness.proofs.laws.architecture_meets_laws.Goals as goal
use Rattle.slice_soundness.proofs.ArchitectureLemmas as lemma

pub returns : goal.returns
returns c = lemma.architecture_meets_laws
