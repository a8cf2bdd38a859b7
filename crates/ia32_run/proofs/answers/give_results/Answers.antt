use Rattle.std.proofs.Common.{refl, ap, ◌∙◌}
use Rattle.std.specs.Prelude.{slice_index}
use Rattle.ia32_semantics.specs.declared.flags.FlagsOut.{FlagsOut}
use Rattle.ia32_semantics.specs.Effects.{Whole, sets, changed, all_changed, effects_fit}
use Rattle.ia32_semantics.specs.Operands.{flag_effects}
use Rattle.ia32_memory.specs.Mapped.{bytes_of}
use Rattle.ia32_plan.specs.Views.{state_of}
use Rattle.ia32_run.specs.Answers.{results_of}
use Rattle.ia32_run.proofs.answers.give_results.Goals as goal

pub returns-clause-state : goal.returns-clause-state
returns-clause-state c = λ image.
    c.perform-4.ensures.state image (ap (λ (f : FlagsOut). effects_fit image (bytes_of c.perform-3.new.core.memory) (flag_effects f)) c.flags_by.ensures)
    ∙ ap (λ (f : FlagsOut). all_changed (flag_effects f) (state_of c.perform-3.new.core)) c.flags_by.ensures
    ∙ ap (all_changed (flag_effects (results_of c.args.words.now).flags)) (c.perform-3.ensures.state image refl
    ∙ ap (changed (sets Whole 2 (slice_index c.args.words.now 2))) (c.perform-2.ensures.state image refl
    ∙ ap (changed (sets Whole 1 (slice_index c.args.words.now 1))) (c.perform.ensures.state image refl)))
