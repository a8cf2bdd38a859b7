use Rattle.std.proofs.Common.{◌≡◌, sym, subst, ◌∙◌}
use Rattle.ia32_types.specs.Numbers.{reg_number, size}
use Rattle.ia32_types.specs.Sets.{has_reg}
use Rattle.ia32_semantics.specs.State.{InRegister}
use Rattle.ia32_semantics.specs.Effects.{effects_write}
use Rattle.ia32_plan.specs.declared.entries.Entry.{Entry}
use Rattle.ia32_plan.specs.Plans.{entry_effects}
use Rattle.ia32_machine.proofs.TouchLemmas.{copied_registers, filled_registers}
use Rattle.ia32_machine.proofs.touched.entry_registers.Goals as goal

pub returns-in-Copied : goal.returns-in-Copied
returns-in-Copied c = λ r. subst (λ (e : Entry). has_reg c.pair.result r ≡ effects_write (entry_effects e) (InRegister (reg_number r))) (sym c.in-Copied.is)
    (c.pair.ensures r ∙ copied_registers c.in-Copied.down (size c.in-Copied.width) c.in-Copied.count c.in-Copied.from c.in-Copied.to _ _ r)

pub returns-in-Filled : goal.returns-in-Filled
returns-in-Filled c = λ r. subst (λ (e : Entry). has_reg c.only.result r ≡ effects_write (entry_effects e) (InRegister (reg_number r))) (sym c.in-Filled.is)
    (c.only.ensures.members r ∙ filled_registers c.in-Filled.down (size c.in-Filled.width) c.in-Filled.value c.in-Filled.count c.in-Filled.to _ r)
