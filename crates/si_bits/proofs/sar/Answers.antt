use Rattle.si_bits.proofs.ShiftLemmas.{member-sar}
use Rattle.si_bits.proofs.sar.Goals as goal

pub returns-clause-sound : goal.returns-clause-sound
returns-clause-sound c = λ v m.
    rw c.with_sign.ensures.value (member-sar c.args.a.now c.args.count v c.requires c.with_sign.ensures.canonical m)
