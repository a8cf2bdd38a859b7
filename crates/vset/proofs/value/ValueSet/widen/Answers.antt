use Rattle.std.proofs.Common.{sym, subst}
use Rattle.std.proofs.lemmas.Result.{IfOk-weaker}
use Rattle.vset.specs.Members.{HasValue}
use Rattle.vset.proofs.MemberLemmas.{widen_has_left, widen_has_right}
use Rattle.vset.specs.Operations.{widen}
use Rattle.vset.proofs.value.ValueSet.widen.Goals as goal

pub returns-clause-holds_self : goal.returns-clause-holds_self
unfolding widen
returns-clause-holds_self c = λ lane w n m.
    IfOk-weaker c.of_both.result _ _ (λ v e. subst (HasValue lane w n) (sym e) (widen_has_left lane w n c.args.self.now c.args.other.now c.of_both.ensures.forms.0 c.of_both.ensures.forms.1 m)) c.of_both.ensures.value

pub returns-clause-holds_other : goal.returns-clause-holds_other
unfolding widen
returns-clause-holds_other c = λ lane w n m.
    IfOk-weaker c.of_both.result _ _ (λ v e. subst (HasValue lane w n) (sym e) (widen_has_right lane w n c.args.self.now c.args.other.now c.of_both.ensures.forms.0 c.of_both.ensures.forms.1 m)) c.of_both.ensures.value
