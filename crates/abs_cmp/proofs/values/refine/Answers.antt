use Rattle.std.proofs.Common.{sym, ◌∙◌, ap, subst}
use Rattle.std.proofs.lemmas.Result.{IfOk-weaker}
use Rattle.vset.specs.Members.{HasValue}
use Rattle.abs_cmp.specs.Refine.{refined, refine}
use Rattle.abs_cmp.proofs.RefineLemmas.{refine_keeps}
use Rattle.abs_cmp.proofs.values.refine.Goals as goal

pub returns-clause-keeps : goal.returns-clause-keeps
unfolding refine
returns-clause-keeps c = λ lane w n flags lt m fact h.
    IfOk-weaker c.refined.result _ _
    (λ r e. subst (HasValue lane w n) (sym (e ∙ ap (λ k. refined k c.args.fact.now.bound c.args.v.now) c.held.ensures))
    (refine_keeps lane w n c.args.cond c.args.taken c.args.fact.now.bound flags c.args.v.now c.refined.ensures.form lt m fact h))
    c.refined.ensures.value
