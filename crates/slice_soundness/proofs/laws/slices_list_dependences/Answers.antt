-- The law, for whatever analysis.
use Rattle.slice_soundness.proofs.laws.slices_list_dependences.Goals as goal
use Rattle.slice_soundness.proofs.ArrowLemmas as lemma

pub returns : goal.returns
returns g c = lemma.slices_list_dependences g.A.Analysis.machine g.A.Analysis.map
