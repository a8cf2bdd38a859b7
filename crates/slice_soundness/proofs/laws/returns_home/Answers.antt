-- The law, for whatever analysis.
use Rattle.slice_soundness.proofs.laws.returns_home.Goals as goal
use Rattle.slice_soundness.proofs.ReturnLemmas as lemma

pub returns : goal.returns
returns g c = lemma.returns_home g.A.Analysis.machine g.A.Analysis.map
