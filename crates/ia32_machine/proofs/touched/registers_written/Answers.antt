use Rattle.std.proofs.Common.{◌≡◌, sym, ap, subst, ◌∙◌}
use Rattle.std.specs.Prelude.{◌||◌}
use Rattle.ia32_types.specs.Numbers.{reg_number}
use Rattle.ia32_types.specs.Sets.{has_reg}
use Rattle.ia32_semantics.specs.State.{InRegister}
use Rattle.ia32_semantics.specs.Effects.{effects_write}
use Rattle.ia32_plan.specs.declared.entries.Effects.{Effects}
use Rattle.ia32_plan.specs.Plans.{entry_effects, all_effects}
use Rattle.ia32_semantics.proofs.ChangeLemmas.{write_append}
use Rattle.ia32_machine.proofs.touched.registers_written.Goals as goal

pub returns-in-Two : goal.returns-in-Two
returns-in-Two c = λ r. subst (λ (e : Effects). has_reg c.with.result r ≡ effects_write (all_effects e) (InRegister (reg_number r))) (sym c.in-Two.is)
    (c.with.ensures.members r ∙ ap (λ b. b || has_reg c.entry_registers-in-Two-2.result r) (c.entry_registers-in-Two.ensures r)
    ∙ ap (λ b. effects_write (entry_effects c.in-Two.first) (InRegister (reg_number r)) || b) (c.entry_registers-in-Two-2.ensures r)
    ∙ sym (write_append (entry_effects c.in-Two.first) (entry_effects c.in-Two.second) (InRegister (reg_number r))))
