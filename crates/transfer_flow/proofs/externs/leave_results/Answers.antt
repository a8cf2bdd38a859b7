use Rattle.std.proofs.Common.{cond, [], sym, ◌∙◌, ap}
use Rattle.abs_steps.specs.Effects.{all_done}
use Rattle.abs_steps.specs.Externs.{result_effects}
use Rattle.abs_state.specs.Views.{seen}
use Rattle.transfer_flow.proofs.externs.leave_results.Goals as goal

pub returns-then-not-comes_back : goal.returns-then-not-comes_back
returns-then-not-comes_back c cells image procedure =
    ap (λ b. all_done cells image procedure (cond b result_effects []) (seen c.args.a.now)) (sym (sym c.comes_back.ensures ∙ c.if-not-comes_back.true))

pub returns : goal.returns
returns c cells image procedure =
    c.free_results.ensures cells image procedure
    ∙ ap (λ b. all_done cells image procedure (cond b result_effects []) (seen c.args.a.now)) (sym (sym c.comes_back.ensures ∙ c.if-not-comes_back.false))
