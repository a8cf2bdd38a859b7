use Rattle.si_bits.proofs.ShiftLemmas.{member-shr}
use Rattle.si_bits.proofs.shr.Goals as goal

pub returns-clause-sound : goal.returns-clause-sound
returns-clause-sound c = λ v m.
    rw c.with_zeros.ensures.value (member-shr c.args.a.now c.args.count v c.requires c.with_zeros.ensures.canonical m)
