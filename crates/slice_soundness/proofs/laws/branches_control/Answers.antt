-- The law, for whatever analysis.
use Rattle.slice_soundness.proofs.laws.branches_control.Goals as goal
use Rattle.slice_soundness.proofs.ControlLemmas as lemma

pub returns : goal.returns
returns g c = lemma.branches_control g.A.Analysis.machine g.A.Analysis.map
