-- Both widths are between 0 and 32.
use Rattle.std.proofs.Common.{◌<◌, arith}
use Rattle.si_bits.proofs.PartLemmas.{member-sign_extend}
use Rattle.si_bits.proofs.sign_extend.Goals as goal

pub returns-clause-sound : goal.returns-clause-sound
returns-clause-sound c = λ v m.
    let some : 0 < c.args.bits = omega (arith, c.requires.width) in
    let few : c.args.bits < 32 = omega (arith, c.requires.width) in
    rw c.sign_extend.ensures.value
    (member-sign_extend c.args.bits c.args.a.now v some few c.requires.natural c.requires.narrow m)
