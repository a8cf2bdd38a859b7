use Rattle.std.proofs.Common.{◌≡◌, ◌-◌, ◌+◌, length, subst, arith}
use Rattle.dynamic_slices.proofs.SliceLemmas.{Done, done_none, done_more, done_all}
use Rattle.dynamic_slices.proofs.marks.mark_sources.Goals as goal

pub loop-done-init : goal.loop-done-init
loop-done-init c = done_none c.args.skip_sp c.args.steps.now c.args.marks.now (length c.args.steps.now - 0) c.requires.long (omega arith)

pub loop-done-preserved : goal.loop-done-preserved
loop-done-preserved c =
    let more = c.loop-done-test.true in
    let here : length c.args.steps.now - 1 - c.loop-done.done ≡ length c.args.steps.now - (c.loop-done.done + 1) = omega arith in
    subst (λ k. Done c.args.skip_sp c.args.steps.now c.args.marks.now c.mark_sources_of.new.marks k) here
    (done_more c.args.skip_sp c.args.steps.now c.args.marks.now c.loop-done.marks c.mark_sources_of.new.marks (length c.args.steps.now - c.loop-done.done) (length c.args.steps.now - 1 - c.loop-done.done)
    c.requires.earlier (omega arith) c.mark_sources_of.ensures c.loop-done.invariant)

pub returns : goal.returns
returns c =
    let all = c.loop-done-test.false in
    done_all c.args.skip_sp c.args.steps.now c.args.marks.now c.loop-done.marks (length c.args.steps.now - c.loop-done.done) (omega arith) c.loop-done.invariant
