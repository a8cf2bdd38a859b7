-- The law, for whatever analysis.
use Rattle.slice_soundness.proofs.laws.states_are_whole.Goals as goal
use Rattle.slice_soundness.proofs.ReturnLemmas as lemma

pub returns : goal.returns
returns g c = lemma.states_are_whole g.A.Analysis.machine g.A.Analysis.map
