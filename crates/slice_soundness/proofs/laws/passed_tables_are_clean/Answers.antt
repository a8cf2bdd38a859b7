-- The law, for whatever analysis.
use Rattle.slice_soundness.proofs.laws.passed_tables_are_clean.Goals as goal
use Rattle.slice_soundness.proofs.TableLemmas as lemma

pub returns : goal.returns
returns g c = lemma.tables_are_clean g.A.Analysis.machine g.A.Analysis.map
