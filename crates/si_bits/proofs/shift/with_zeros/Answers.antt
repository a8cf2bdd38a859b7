-- Ones that are shifted to the right.
use Rattle.std.proofs.Common.{◌∙◌, sym}
use Rattle.si_bits.proofs.ShapeLemmas.{ones_right-natural, shr-wide}
use Rattle.si_bits.proofs.shift.with_zeros.Goals as goal

pub up_to-requires : goal.up_to-requires
up_to-requires c = ones_right-natural c.args.count c.requires c.if-count-eq0.false

pub returns-else-is_natural-clause-value : goal.returns-else-is_natural-clause-value
returns-else-is_natural-clause-value c =
    shr-wide c.args.a.now c.args.count c.up_to.result c.requires (sym c.is_single.ensures.value ∙ c.if-is_single.false) c.if-count-eq0.false
    (sym c.is_natural.ensures ∙ c.if-is_natural.false) c.up_to.ensures
