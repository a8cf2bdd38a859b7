-- The law, for whatever analysis.
use Rattle.slice_soundness.proofs.laws.dependences_are_arrows.Goals as goal
use Rattle.slice_soundness.proofs.ArrowLemmas as lemma

pub returns : goal.returns
returns g c = lemma.dependences_are_arrows g.A.Analysis.machine g.A.Analysis.map
