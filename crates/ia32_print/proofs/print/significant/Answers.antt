use Rattle.std.proofs.Common.{◌<◌, ◌≢◌, get_or, ◌∙◌, sym, arith}
use Rattle.ia32_print.proofs.DigitLemmas.{without_zeros-zero, without_zeros-end}
use Rattle.ia32_print.proofs.print.significant.Goals as goal
use Rattle.ia32_print.proofs.print.significant.Goals.{then-loop-start-test+else-digits-start-eq48, else-loop-start-test}

pub loop-start-preserved : goal.loop-start-preserved
loop-start-preserved c = record {
  below = omega arith;
  digits = c.loop-start.invariant.digits
      ∙ without_zeros-zero c.args.digits.now c.loop-start.start _ (omega arith) (omega arith) c.if-digits-start-eq48.true;
}

pub returns-clause-digits : goal.returns-clause-digits
returns-clause-digits c =
    let other : c.loop-start.start < 7 → get_or c.args.digits.now c.loop-start.start 0 ≢ 48 =
    elim c.loop-start-test.branch [
      | then-loop-start-test+else-digits-start-eq48 w ↦ λ inside. w.if-digits-start-eq48.false
      | else-loop-start-test w ↦ λ inside. absurd (omega arith)
    ] in
    without_zeros-end c.args.digits.now c.loop-start.start c.told-digits (omega arith) other ∙ sym c.loop-start.invariant.digits
