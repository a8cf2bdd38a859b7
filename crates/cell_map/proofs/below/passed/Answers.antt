use Rattle.std.proofs.Common.{sym, ◌∙◌, ap, subst}
use Rattle.abs_semantics.specs.States.{value_in}
use Rattle.cell_map.specs.Lists.{AreRising}
use Rattle.cell_map.proofs.BelowLemmas.{passed_more}
use Rattle.cell_map.proofs.below.passed.Goals as goal

pub loop-x-preserved : goal.loop-x-preserved
loop-x-preserved c =
    let is = c.in-Some.ensures.cases.0 in
    let tail = c.in-Some.tail.now in
    let x = c.in-Some.x.now in (
      (λ d n. passed_more d c.args.cell.now x tail (sym c.is_before.ensures ∙ c.if-not-is_before.false) n ∙ ap (value_in d) (sym is) ∙ c.loop-x.invariant.0 d n),
      (λ r. (subst AreRising is (c.loop-x.invariant.1 r)).1),
    )
