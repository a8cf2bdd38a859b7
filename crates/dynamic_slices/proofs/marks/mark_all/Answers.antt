use Rattle.std.proofs.Common.{◌≡◌, length, refl, arith}
use Rattle.dynamic_slices.proofs.MarkLemmas.{marks_more, marks_all}
use Rattle.dynamic_slices.proofs.marks.mark_all.Goals as goal

pub loop-step-preserved : goal.loop-step-preserved
loop-step-preserved c = marks_more c.args.steps.now c.loop-step.step-index _ c.args.marks.now c.loop-step.marks c.mark.new.marks refl c.loop-step.invariant c.mark.ensures

pub returns : goal.returns
returns c =
    let all : c.loop-step.step-index ≡ length c.args.steps.now = omega arith in
    marks_all c.args.steps.now c.loop-step.step-index c.args.marks.now c.loop-step.marks all c.loop-step.invariant
