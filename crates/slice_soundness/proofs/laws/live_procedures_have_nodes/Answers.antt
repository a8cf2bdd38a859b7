-- The law, for whatever analysis.
use Rattle.slice_soundness.proofs.laws.live_procedures_have_nodes.Goals as goal
use Rattle.slice_soundness.proofs.LocatedLemmas as lemma

pub returns : goal.returns
returns g c = lemma.live_has_node g.A.Analysis.machine g.A.Analysis.map
