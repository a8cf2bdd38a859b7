-- The law, for whatever analysis.
use Rattle.slice_soundness.proofs.laws.knows_states.Goals as goal
use Rattle.slice_soundness.proofs.RunLemmas as lemma

pub returns : goal.returns
returns g c = lemma.knows_states g.A.Analysis.machine g.A.Analysis.map
