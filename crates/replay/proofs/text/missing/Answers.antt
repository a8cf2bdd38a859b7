use Rattle.std.proofs.Common.{arith}
use Rattle.replay.proofs.TextLemmas.{missing_more, missing_none}
use Rattle.replay.proofs.text.missing.Goals as goal

pub addresses_left-preserved : goal.addresses_left-preserved
addresses_left-preserved c =
    let one = c.in-Some.ensures.cases in
    let few = c.addresses_left.invariant.few in
    let small = c.is_missing-count.ensures.few in
    record {
      counted = missing_more c.args.slice.now c.addresses_left.rest.now c.in-Some.after.now c.in-Some.address.now c.addresses_left.count c.is_missing-count.result _ c.addresses_left.invariant.counted one.0 c.is_missing-count.ensures.value;
      few = grind (arith, one, few, small);
    }

pub returns : goal.returns
returns c = missing_none c.args.slice.now c.addresses_left.rest.now c.addresses_left.count _ c.addresses_left.invariant.counted c.in_default.ensures.cases
