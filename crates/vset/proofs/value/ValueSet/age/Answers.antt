use Rattle.std.proofs.Common.{sym, subst}
use Rattle.std.proofs.lemmas.Result.{IfOk-weaker}
use Rattle.vset.specs.Members.{HasOffset}
use Rattle.vset.proofs.OffsetLemmas.{age_keeps, age_renames}
use Rattle.vset.proofs.value.ValueSet.age.Goals as goal

pub returns-clause-keeps : goal.returns-clause-keeps
returns-clause-keeps c = λ r o other h.
    IfOk-weaker c.aged.result _ _ (λ v e. subst (HasOffset r o) (sym e) (age_keeps c.args.young.now c.args.old.now r o c.args.self.now other h)) c.aged.ensures

pub returns-clause-renames : goal.returns-clause-renames
returns-clause-renames c = λ o h.
    IfOk-weaker c.aged.result _ _ (λ v e. subst (HasOffset c.args.old.now o) (sym e) (age_renames c.args.young.now c.args.old.now o c.args.self.now h)) c.aged.ensures
