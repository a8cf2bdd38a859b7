-- The law, for whatever analysis.
use Rattle.slice_soundness.proofs.laws.runs_walk.Goals as goal
use Rattle.slice_soundness.proofs.WalkLemmas as lemma

pub returns : goal.returns
returns g c = lemma.runs_walk g.A.Analysis.machine g.A.Analysis.map
