-- The law, for whatever analysis.
use Rattle.slice_soundness.proofs.laws.rows_give_graph.Goals as goal
use Rattle.slice_soundness.proofs.TableLemmas as lemma

pub returns : goal.returns
returns g c = lemma.tables_have_graphs g.A.Analysis.machine g.A.Analysis.map
