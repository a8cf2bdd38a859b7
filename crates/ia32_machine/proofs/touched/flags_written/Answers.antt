use Rattle.std.proofs.Common.{◌≡◌, sym, ap, subst, ◌∙◌}
use Rattle.std.specs.Prelude.{◌||◌}
use Rattle.ia32_types.specs.Numbers.{flag_number}
use Rattle.ia32_types.specs.Sets.{has_flag}
use Rattle.ia32_semantics.specs.State.{InFlag}
use Rattle.ia32_semantics.specs.Effects.{effects_write}
use Rattle.ia32_plan.specs.declared.entries.Effects.{Effects}
use Rattle.ia32_plan.specs.Plans.{entry_effects, all_effects}
use Rattle.ia32_semantics.proofs.ChangeLemmas.{write_append}
use Rattle.ia32_machine.proofs.touched.flags_written.Goals as goal

pub returns-in-Two : goal.returns-in-Two
returns-in-Two c = λ f. subst (λ (e : Effects). has_flag c.with.result f ≡ effects_write (all_effects e) (InFlag (flag_number f))) (sym c.in-Two.is)
    (c.with.ensures.members f ∙ ap (λ b. b || has_flag c.entry_flags-in-Two-2.result f) (c.entry_flags-in-Two.ensures f)
    ∙ ap (λ b. effects_write (entry_effects c.in-Two.first) (InFlag (flag_number f)) || b) (c.entry_flags-in-Two-2.ensures f)
    ∙ sym (write_append (entry_effects c.in-Two.first) (entry_effects c.in-Two.second) (InFlag (flag_number f))))
