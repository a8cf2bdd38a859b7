use Rattle.si_bits.proofs.MaskLemmas.{member-xor}
use Rattle.si_bits.proofs.xor.Goals as goal

pub returns-clause-sound : goal.returns-clause-sound
returns-clause-sound c = λ v w m n.
    rw c.difference.ensures.value (member-xor c.args.a.now c.args.b.now v w c.difference.ensures.left c.difference.ensures.right m n)
