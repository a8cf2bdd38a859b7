use Rattle.std.proofs.Common.{sym, ◌∙◌}
use Rattle.std.proofs.lemmas.Bool.{not-false, not-true}
use Rattle.abs_state.proofs.FoldLemmas.{fold_step, fold_end}
use Rattle.transfer_flow.proofs.TargetLemmas.{with_words, many_before, many_here, many_end, words_told}
use Rattle.transfer_flow.proofs.target_lists.words_of.Goals as goal

pub loop-x-preserved : goal.loop-x-preserved
loop-x-preserved c = (
  fold_step with_words c.loop-x.rest.now c.in-Some.before.now c.in-Some.x.now c.loop-x.out.items _ _ c.in-Some.ensures.cases.0 c.in_ok-put_words.ensures c.loop-x.invariant.0,
  many_before c.loop-x.rest.now c.in-Some.before.now c.in-Some.x.now c.in-Some.ensures.cases.0 _ (not-true _ (sym c.are_few.ensures ∙ c.if-not-are_few.false)) c.loop-x.invariant.1,
)

pub returns-then-not-are_few : goal.returns-then-not-are_few
returns-then-not-are_few c =
    many_here c.loop-x.rest.now c.in-Some.before.now c.in-Some.x.now c.in-Some.ensures.cases.0 c.args.xs.now (not-false _ (sym c.are_few.ensures ∙ c.if-not-are_few.true)) c.loop-x.invariant.1

pub returns : goal.returns
returns c =
    words_told c.args.xs.now c.loop-x.out.items _ (many_end c.loop-x.rest.now _ c.in_default.ensures.cases c.loop-x.invariant.1)
    (fold_end with_words c.loop-x.rest.now c.loop-x.out.items _ c.in_default.ensures.cases c.loop-x.invariant.0) c.if_few.ensures
