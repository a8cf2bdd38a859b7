use Rattle.std.proofs.Common.{◌∙◌}
use Rattle.abs_semantics.specs.Joins.{with_size}
use Rattle.abs_state.proofs.FoldLemmas.{fold_step, fold_end, sizes_are}
use Rattle.abs_state.proofs.puts.sizes.Goals as goal

pub loop-k-preserved : goal.loop-k-preserved
loop-k-preserved c =
    fold_step with_size c.loop-k.rest.now c.in-Some.before.now c.in-Some.k.now c.loop-k.out.items _ _ c.in-Some.ensures.cases.0 c.in_ok-put_size.ensures c.loop-k.invariant

pub returns : goal.returns
returns c =
    fold_end with_size c.loop-k.rest.now c.loop-k.out.items _ c.in_default.ensures.cases c.loop-k.invariant ∙ sizes_are c.args.more.now c.args.into.now
