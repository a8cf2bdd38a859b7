-- A number below 2^31 has at most 31 digits.
use Rattle.si_bits.proofs.ShapeLemmas.{digits_shift}
use Rattle.si_bits.proofs.mask.filled.Goals as goal

pub power-requires : goal.power-requires
power-requires c = digits_shift c.args.number c.requires
