use Rattle.asi_cuts.proofs.KnownLemmas.{stands}
use Rattle.asi_cuts.proofs.known.is_recent.Goals as goal

pub returns-in-Some-Some : goal.returns-in-Some-Some
returns-in-Some-Some c = λ told.
    let g = c.in-Some-Some.ensures.lookup in
    stands c.args.recent.now c.slot_of.result c.in-Some-Some.x c.args.cut.now c.in-Some-Some.field-0.now c.is.result g.3.0 g.3.1 c.in-Some-Some.field-0-is c.is.ensures told
