use Rattle.std.proofs.Common.{◌-◌, arith}
use Rattle.dynamic_slices.proofs.PlaceLemmas.{none_from}
use Rattle.dynamic_slices.proofs.slices.last_at.Goals as goal

pub steps_left-preserved : goal.steps_left-preserved
steps_left-preserved c =
    let some = c.steps_left-test.true in
    let within = c.steps_left.invariant.within in
    let off = c.if-steps-left.false in
    record {
      within = omega arith;
      later = none_from c.args.steps.now c.args.at c.steps_left.left (c.steps_left.left - 1) _ (omega arith) (omega arith) (λ same. off same) c.steps_left.invariant.later;
    }
