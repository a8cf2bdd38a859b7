use Rattle.std.proofs.Common.{sym, subst}
use Rattle.std.proofs.lemmas.Result.{IfOk-weaker}
use Rattle.vset.specs.Members.{HasOffset}
use Rattle.vset.proofs.OffsetLemmas.{also_keeps, also_young}
use Rattle.vset.proofs.value.ValueSet.also.Goals as goal

pub returns-clause-keeps : goal.returns-clause-keeps
returns-clause-keeps c = λ r o h.
    IfOk-weaker c.with_old.result _ _ (λ v e. subst (HasOffset r o) (sym e) (also_keeps c.args.old.now c.args.young.now r o c.args.self.now h)) c.with_old.ensures

pub returns-clause-also_young : goal.returns-clause-also_young
returns-clause-also_young c = λ o h.
    IfOk-weaker c.with_old.result _ _ (λ v e. subst (HasOffset c.args.young.now o) (sym e) (also_young c.args.old.now c.args.young.now o c.args.self.now h)) c.with_old.ensures
