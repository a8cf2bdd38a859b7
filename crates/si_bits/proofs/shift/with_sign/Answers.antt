-- The shift of a signed number rounds down.
use Rattle.std.proofs.Common.{◌∙◌, ap, sym}
use Rattle.std.specs.Prelude.{ℤ}
use Rattle.std.specs.Int.{int_shr}
use Rattle.strided.specs.Interval.{one}
use Rattle.si_bits.proofs.ShapeLemmas.{sar-single}
use Rattle.si_bits.proofs.SignLemmas.{plain_32}
use Rattle.si_bits.proofs.shift.with_sign.Goals as goal

pub returns-then-is_single-clause-value : goal.returns-then-is_single-clause-value
returns-then-is_single-clause-value c =
    sar-single c.args.a.now c.args.count c.one.result c.requires c.is_single.ensures.canonical (sym c.is_single.ensures.value ∙ c.if-is_single.true)
    (c.one.ensures ∙ ap one (plain_32 c.moved.type_inv (c.moved.ensures ∙ ap (λ (z : ℤ). int_shr z c.args.count) (plain_32 c.lo.type_inv c.lo.ensures.value))))
