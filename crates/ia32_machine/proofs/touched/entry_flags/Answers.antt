use Rattle.std.proofs.Common.{◌≡◌, sym, subst, ◌∙◌}
use Rattle.ia32_types.specs.Numbers.{flag_number, size}
use Rattle.ia32_types.specs.Sets.{has_flag}
use Rattle.ia32_semantics.specs.State.{InFlag}
use Rattle.ia32_semantics.specs.Effects.{effects_write}
use Rattle.ia32_plan.specs.declared.entries.Entry.{Entry}
use Rattle.ia32_plan.specs.Plans.{entry_effects}
use Rattle.ia32_machine.proofs.TouchLemmas.{flags_written, copied_flags, filled_flags}
use Rattle.ia32_machine.proofs.touched.entry_flags.Goals as goal

pub returns-in-Flags : goal.returns-in-Flags
returns-in-Flags c = λ f. subst (λ (e : Entry). has_flag c.flags_set.result f ≡ effects_write (entry_effects e) (InFlag (flag_number f))) (sym c.in-Flags.is)
    (c.flags_set.ensures f ∙ flags_written c.in-Flags.flags f)

pub returns-in-Copied : goal.returns-in-Copied
returns-in-Copied c = λ f. subst (λ (e : Entry). has_flag c.none-in-Copied.result f ≡ effects_write (entry_effects e) (InFlag (flag_number f))) (sym c.in-Copied.is)
    (c.none-in-Copied.ensures.members f ∙ sym (copied_flags c.in-Copied.down (size c.in-Copied.width) c.in-Copied.count c.in-Copied.from c.in-Copied.to _ _ (flag_number f)))

pub returns-in-Filled : goal.returns-in-Filled
returns-in-Filled c = λ f. subst (λ (e : Entry). has_flag c.none-in-Filled.result f ≡ effects_write (entry_effects e) (InFlag (flag_number f))) (sym c.in-Filled.is)
    (c.none-in-Filled.ensures.members f ∙ sym (filled_flags c.in-Filled.down (size c.in-Filled.width) c.in-Filled.value c.in-Filled.count c.in-Filled.to _ (flag_number f)))
