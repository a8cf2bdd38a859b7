-- The law, for whatever analysis.
use Rattle.slice_soundness.proofs.laws.complete_runs_escape.Goals as goal
use Rattle.slice_soundness.proofs.ControlLemmas as lemma

pub returns : goal.returns
returns g c = lemma.escapes g.A.Analysis.machine g.A.Analysis.map
