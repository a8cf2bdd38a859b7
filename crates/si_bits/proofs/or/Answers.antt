use Rattle.si_bits.proofs.MaskLemmas.{member-or}
use Rattle.si_bits.proofs.or.Goals as goal

pub returns-clause-sound : goal.returns-clause-sound
returns-clause-sound c = λ v w m n.
    rw c.disjunction.ensures.value (member-or c.args.a.now c.args.b.now v w c.disjunction.ensures.left c.disjunction.ensures.right m n)
