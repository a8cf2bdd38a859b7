use Rattle.si_bits.proofs.MultipleLemmas.{member-mul}
use Rattle.si_bits.proofs.mul.Goals as goal

pub returns-clause-sound : goal.returns-clause-sound
returns-clause-sound c = λ v w m n.
    rw c.product.ensures.value (member-mul c.args.a.now c.args.b.now v w c.product.ensures.left c.product.ensures.right m n)
