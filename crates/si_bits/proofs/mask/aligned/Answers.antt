-- The ends are those of the formula, in their order.
use Rattle.std.proofs.Common.{◌∙◌, ap₂, refl, sym}
use Rattle.strided.proofs.MemberLemmas.{canonical_order}
use Rattle.si_bits.specs.Concrete.{and_of}
use Rattle.si_bits.proofs.MaskLemmas.{and_of-aligned_le}
use Rattle.si_bits.proofs.MemberLemmas.{member_fits}
use Rattle.strided.proofs.BoundLemmas.{member_lo}
use Rattle.si_bits.proofs.ShapeLemmas.{aligned-power}
use Rattle.si_bits.proofs.SignLemmas.{plain_32}
use Rattle.si_bits.proofs.mask.aligned.Goals as goal

pub spaced-requires : goal.spaced-requires
spaced-requires c =
    let mask = plain_32 c.minus-mask.type_inv c.minus-mask.ensures in
    let low = plain_32 c.common-low.type_inv (c.common-low.ensures ∙ ap₂ and_of (plain_32 c.lo.type_inv c.lo.ensures.value) mask) in
    let high = plain_32 c.common-high.type_inv (c.common-high.ensures ∙ ap₂ and_of (plain_32 c.hi.type_inv c.hi.ensures.value) mask) in
    let canonical = c.lo.ensures.canonical in
    rw (low, high)
    (and_of-aligned_le c.args.a.now.lo c.args.a.now.hi c.args.unit c.requires.positive c.requires.narrow (sym c.lowest_bit.ensures ∙ c.if-lowest_bit-unit.false)
    (member_fits c.args.a.now.lo c.args.a.now canonical (member_lo c.args.a.now canonical)) (member_fits c.args.a.now.hi c.args.a.now canonical canonical.last) (canonical_order c.args.a.now canonical))

pub returns : goal.returns
returns c =
    let mask = plain_32 c.minus-mask.type_inv c.minus-mask.ensures in
    let low = plain_32 c.common-low.type_inv (c.common-low.ensures ∙ ap₂ and_of (plain_32 c.lo.type_inv c.lo.ensures.value) mask) in
    let high = plain_32 c.common-high.type_inv (c.common-high.ensures ∙ ap₂ and_of (plain_32 c.hi.type_inv c.hi.ensures.value) mask) in
    aligned-power c.args.a.now c.args.unit c.spaced.result (sym c.lowest_bit.ensures ∙ c.if-lowest_bit-unit.false)
    (rw (c.spaced.ensures, c.coarser-stride.ensures, c.stride.ensures.value, low, high) refl)
