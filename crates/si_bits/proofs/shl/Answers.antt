use Rattle.si_bits.proofs.MultipleLemmas.{member-shl}
use Rattle.si_bits.proofs.shl.Goals as goal

pub returns-clause-sound : goal.returns-clause-sound
returns-clause-sound c = λ v m.
    rw c.shifted_left.ensures.value (member-shl c.args.a.now c.args.count v c.requires c.shifted_left.ensures.canonical m)
