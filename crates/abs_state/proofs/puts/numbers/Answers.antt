use Rattle.std.proofs.Common.{◌∙◌}
use Rattle.abs_semantics.specs.Joins.{with_number}
use Rattle.abs_state.proofs.FoldLemmas.{fold_step, fold_end, numbers_are}
use Rattle.abs_state.proofs.puts.numbers.Goals as goal

pub loop-n-preserved : goal.loop-n-preserved
loop-n-preserved c =
    fold_step with_number c.loop-n.rest.now c.in-Some.before.now c.in-Some.n.now c.loop-n.out.items _ _ c.in-Some.ensures.cases.0 c.in_ok-put_number.ensures c.loop-n.invariant

pub returns : goal.returns
returns c =
    fold_end with_number c.loop-n.rest.now c.loop-n.out.items _ c.in_default.ensures.cases c.loop-n.invariant ∙ numbers_are c.args.more.now c.args.into.now
