use Rattle.std.proofs.Common.{arith, refl}
use Rattle.surf_prog.proofs.TracingLaws.{steps_more, steps_none}
use Rattle.surf_prog.proofs.tracing.push_steps.Goals as goal

pub steps_left-preserved : goal.steps_left-preserved
steps_left-preserved c =
    let one = c.in-Some.ensures.cases in
    let long = c.steps_left.invariant.count in
    record {
      text = steps_more c.args.skip_sp c.steps_left.number _ c.steps_left.text.items c.push_step.new.text.items c.steps_left.rest.now c.in-Some.after.now c.in-Some.step.now _ c.steps_left.invariant.text one.0 c.in_ok-push_step.ensures refl;
      count = grind (arith, one, long);
    }

pub returns : goal.returns
returns c = steps_none c.args.skip_sp c.steps_left.number c.steps_left.text.items c.steps_left.rest.now _ c.steps_left.invariant.text c.in_default.ensures.cases
