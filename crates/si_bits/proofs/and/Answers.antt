use Rattle.si_bits.proofs.MaskLemmas.{member-and}
use Rattle.si_bits.proofs.and.Goals as goal

pub returns-clause-sound : goal.returns-clause-sound
returns-clause-sound c = λ v w m n.
    rw c.conjunction.ensures.value (member-and c.args.a.now c.args.b.now v w c.conjunction.ensures.left c.conjunction.ensures.right m n)
