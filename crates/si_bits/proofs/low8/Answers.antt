use Rattle.std.proofs.Common.{lit<}
use Rattle.si_bits.proofs.PartLemmas.{member-low}
use Rattle.si_bits.proofs.low8.Goals as goal

pub returns-clause-sound : goal.returns-clause-sound
returns-clause-sound c = λ v m.
    rw c.low.ensures.value (member-low 8 c.args.a.now v (lit< tt) c.low.ensures.canonical m)
