-- The law, for whatever analysis.
use Rattle.slice_soundness.proofs.laws.data_has_edges.Goals as goal
use Rattle.slice_soundness.proofs.DataLemmas as lemma

pub returns : goal.returns
returns g c = λ d. lemma.data_has_edges g.A.Analysis.machine g.A.Analysis.map d.follows d.graph d.covers
