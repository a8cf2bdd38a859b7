-- The tests that were passed are the canonical form.
use Rattle.std.proofs.Common.{arith}
use Rattle.std.proofs.lemmas.Int.{ints}
use Rattle.strided.proofs.MemberLemmas.{canonical_iff}
use Rattle.strided.proofs.interval.Si.new.Goals as goal

pub made-requires : goal.made-requires
made-requires c =
    let tells = canonical_iff c.args.stride c.gap.result _ _ (omega (arith, ints)) (omega (arith, ints)) c.gap.ensures in
    tells.0 (c.is_span.ensures.0 c.if-is_span.true)
