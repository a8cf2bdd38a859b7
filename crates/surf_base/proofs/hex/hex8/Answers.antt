use Rattle.std.proofs.Common.{◌∙◌, arith}
use Rattle.surf_base.specs.Hex.{hex8_text}
use Rattle.surf_base.proofs.HexDigits.{hex8_text-injective}
use Rattle.surf_base.proofs.hex.hex8.Goals as goal

pub returns-clause-digits : goal.returns-clause-digits
unfolding hex8_text
returns-clause-digits c = cc

pub returns-clause-one : goal.returns-clause-one
returns-clause-one c other below same =
    hex8_text-injective other c.args.value below (omega arith) (same ∙ returns-clause-digits c)
