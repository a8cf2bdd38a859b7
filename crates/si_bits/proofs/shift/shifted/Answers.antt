-- The ends are those of the formula, in their order.
use Rattle.std.proofs.Common.{◌∙◌, ap, refl, ◌^◌}
use Rattle.std.proofs.lemmas.Nat.{pow_pos}
use Rattle.std.specs.Prelude.{ℤ}
use Rattle.std.specs.Int.{int_shr}
use Rattle.strided.proofs.MemberLemmas.{canonical_order}
use Rattle.si_bits.specs.Operations.{shifted}
use Rattle.si_bits.proofs.FloorLemmas.{shr-le}
use Rattle.si_bits.proofs.SignLemmas.{plain_32}
use Rattle.si_bits.proofs.shift.shifted.Goals as goal

pub spaced-requires : goal.spaced-requires
spaced-requires c =
    let low = plain_32 c.moved-low.type_inv (c.moved-low.ensures ∙ ap (λ (z : ℤ). int_shr z c.args.count) (plain_32 c.lo.type_inv c.lo.ensures.value)) in
    let high = plain_32 c.moved-high.type_inv (c.moved-high.ensures ∙ ap (λ (z : ℤ). int_shr z c.args.count) (plain_32 c.hi.type_inv c.hi.ensures.value)) in
    rw (low, high) (shr-le c.args.a.now.lo c.args.a.now.hi (2 ^ c.args.count) (pow_pos c.args.count) (canonical_order c.args.a.now c.lo.ensures.canonical))

pub returns : goal.returns
unfolding shifted
returns c =
    let low = plain_32 c.moved-low.type_inv (c.moved-low.ensures ∙ ap (λ (z : ℤ). int_shr z c.args.count) (plain_32 c.lo.type_inv c.lo.ensures.value)) in
    let high = plain_32 c.moved-high.type_inv (c.moved-high.ensures ∙ ap (λ (z : ℤ). int_shr z c.args.count) (plain_32 c.hi.type_inv c.hi.ensures.value)) in
    rw (c.spaced.ensures, c.shifted_stride-stride.ensures, low, high) refl
