use Rattle.std.proofs.Common.{◌++◌, ◌+◌, ◌∙◌, ap, drop, List, ℕ}
use Rattle.last_writers.specs.Cuts.{steps_before}
use Rattle.last_writers.proofs.StepLemmas.{before_stop, before_more}
use Rattle.last_writers.proofs.spans.steps_before.Goals as goal

pub loop-w-preserved : goal.loop-w-preserved
loop-w-preserved c =
    ap (λ (v : List ℕ). v ++ steps_before c.args.end (drop (c.loop-w.w-index + 1) c.args.spans.now)) c.in_ok-push.ensures.items
    ∙ before_more c.args.end c.loop-w.w-index c.args.spans.now _ c.loop-w.steps.items (steps_before c.args.end c.args.spans.now)
    c.loop-w-test.true c.if-end-w.false c.loop-w.invariant

pub returns-then-end-w : goal.returns-then-end-w
returns-then-end-w c =
    before_stop c.args.end c.loop-w.w-index c.args.spans.now _ c.loop-w.steps.items (steps_before c.args.end c.args.spans.now)
    c.loop-w-test.true c.if-end-w.true c.loop-w.invariant
