use Rattle.std.proofs.Common.{◌∙◌, ap}
use Rattle.std.specs.Prelude.{ℕ, Option}
use Rattle.abs_semantics.specs.Joins.{joined_align, with_known}
use Rattle.abs_state.specs.Puts.{known_by}
use Rattle.abs_state.specs.Views.{seen}
use Rattle.abs_state.proofs.FoldLemmas.{fold_step, fold_end}
use Rattle.abs_state.proofs.joins.put_aligns.Goals as goal

pub loop-k-preserved : goal.loop-k-preserved
loop-k-preserved c =
    let f = joined_align (seen c.args.a.now) (seen c.args.b.now) in
    fold_step (known_by f) c.loop-k.rest.now c.in-Some.before.now c.in-Some.k.now c.loop-k.out.items _ _ c.in-Some.ensures.cases.0
    (c.in_ok-put_align.ensures ∙ ap (λ (n : Option ℕ). with_known c.in-Some.k.now.region n c.loop-k.out.items) c.joined_align.ensures) c.loop-k.invariant

pub returns : goal.returns
returns c =
    let f = joined_align (seen c.args.a.now) (seen c.args.b.now) in
    fold_end (known_by f) c.loop-k.rest.now c.loop-k.out.items _ c.in_default.ensures.cases c.loop-k.invariant
