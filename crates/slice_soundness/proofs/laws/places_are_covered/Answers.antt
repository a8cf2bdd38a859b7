-- The law, for whatever analysis.
use Rattle.slice_soundness.proofs.laws.places_are_covered.Goals as goal
use Rattle.slice_soundness.proofs.LocatedLemmas as lemma

pub returns : goal.returns
returns g c = lemma.places_are_covered g.A.Analysis.machine g.A.Analysis.map g.A.Layout.division g.A.Layout.accesses
