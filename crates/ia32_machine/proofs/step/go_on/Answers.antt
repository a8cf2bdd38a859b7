use Rattle.std.proofs.Common.{ℕ, Option, ap, sym, ◌∙◌}
use Rattle.ia32_semantics.specs.State.{Bytes}
use Rattle.ia32_memory.specs.Mapped.{is_in_first}
use Rattle.ia32_plan.specs.Views.{state_of}
use Rattle.ia32_machine.specs.Steps.{gone_on}
use Rattle.ia32_machine.proofs.step.go_on.Goals as goal

pub returns-in-Some-clause-state : goal.returns-in-Some-clause-state
returns-in-Some-clause-state c =
    ap (λ (m : Bytes). record (state_of c.args.core.now) { eip = c.args.place; memory = m }) c.forget.ensures.bytes
    ∙ sym (ap (λ (f : Option ℕ). gone_on c.args.place f (is_in_first c.args.core.now.memory) (state_of c.args.core.now)) c.in-Some.is)
