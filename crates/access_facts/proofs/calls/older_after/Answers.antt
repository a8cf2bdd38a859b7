use Rattle.std.proofs.Common.{◌∙◌, sym}
use Rattle.std.proofs.lemmas.Result.{IfOk-weaker}
use Rattle.abs_state.specs.Views.{seen}
use Rattle.access_facts.proofs.SetLemmas.{older_of_none, older_of_first}
use Rattle.access_facts.proofs.calls.older_after.Goals as goal

pub returns-in-None : goal.returns-in-None
returns-in-None c =
    IfOk-weaker c.copy_of.result _ _ (λ x e. older_of_none (seen c.args.state.now) x.items c.args.targets.now (sym c.first_of.ensures ∙ c.in-None.is) (e ∙ c.as_slice.ensures)) c.copy_of.ensures

pub returns-in-Some : goal.returns-in-Some
returns-in-Some c =
    IfOk-weaker c.with_target.result _ _ (λ x e. older_of_first (seen c.args.state.now) x.items c.args.targets.now c.in-Some.target (sym c.first_of.ensures ∙ c.in-Some.is) e) c.with_target.ensures
