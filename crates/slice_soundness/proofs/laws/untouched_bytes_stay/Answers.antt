-- The law, for whatever analysis.
use Rattle.slice_soundness.proofs.laws.untouched_bytes_stay.Goals as goal
use Rattle.slice_soundness.proofs.LocatedLemmas as lemma

pub returns : goal.returns
returns g c = λ o goes moves a unwritten kept. lemma.stays_there g.A.Analysis.machine g.A.Analysis.map o goes moves a unwritten kept g.A.Layout.division.key
