use Rattle.std.proofs.Common.{ap, sym, ◌∙◌}
use Rattle.ia32_types.specs.declared.Width.{Width}
use Rattle.ia32_semantics.specs.Effects.{all_changed}
use Rattle.ia32_semantics.specs.Rows.{halves}
use Rattle.ia32_plan.specs.Views.{state_of}
use Rattle.ia32_machine.proofs.PerformLemmas.{halves_state}
use Rattle.ia32_machine.proofs.apply.set_halves.Goals as goal

pub returns-in-B8-clause-state : goal.returns-in-B8-clause-state
returns-in-B8-clause-state c =
    c.set.ensures.state ∙ halves_state (state_of c.args.core.now) c.args.low c.args.high
    ∙ sym (ap (λ (w : Width). all_changed (halves w c.args.low c.args.high) (state_of c.args.core.now)) c.in-B8.is)
