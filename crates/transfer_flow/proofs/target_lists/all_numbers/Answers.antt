use Rattle.std.proofs.Common.{sym, ◌∙◌}
use Rattle.transfer_flow.proofs.TargetLemmas.{numbers_step, numbers_missing, numbers_end}
use Rattle.transfer_flow.proofs.target_lists.all_numbers.Goals as goal

pub loop-value-preserved : goal.loop-value-preserved
loop-value-preserved c =
    numbers_step c.args.values.now c.loop-value.value-index c.value-item.result c.in-Some.numbers c.loop-value.out.items _ _ c.loop-value-test.true c.value-item.is (sym c.only_number.ensures ∙ c.in-Some.is) c.in_ok-push-in-Some.ensures.items c.loop-value.invariant

pub returns-in-None : goal.returns-in-None
returns-in-None c =
    numbers_missing c.args.values.now c.loop-value.value-index c.value-item.result c.loop-value.out.items _ c.loop-value-test.true c.value-item.is (sym c.only_number.ensures ∙ c.in-None.is) c.loop-value.invariant

pub returns : goal.returns
returns c = numbers_end c.args.values.now c.loop-value.value-index c.loop-value.out.items _ c.loop-value-test.false c.loop-value.invariant
