-- The law, for whatever analysis.
use Rattle.slice_soundness.proofs.laws.runs_keep_slots.Goals as goal
use Rattle.slice_soundness.proofs.ReturnLemmas as lemma

pub returns : goal.returns
returns g c = lemma.runs_keep_slots g.A.Analysis.machine g.A.Analysis.map
