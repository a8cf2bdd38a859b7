use Rattle.std.proofs.Common.{[], ◌∷◌, ◌++◌, refl, ap, ◌∙◌, arith}
use Rattle.std.specs.Prelude.{reverse, Some}
use Rattle.ia32_semantics.specs.Effects.{Whole, sets, changed}
use Rattle.ia32_semantics.specs.Outcome.{leaves}
use Rattle.ia32_semantics.specs.Rows.{risen}
use Rattle.ia32_semantics.specs.Externs.{result_effects}
use Rattle.ia32_memory.specs.Mapped.{is_in_first}
use Rattle.ia32_memory.proofs.ShapeLaws.{same_first}
use Rattle.ia32_plan.specs.Views.{state_of}
use Rattle.ia32_machine.proofs.StepLemmas.{performed_state}
use Rattle.ia32_run.specs.Answers.{results_of}
use Rattle.ia32_run.proofs.answers.return_with.Goals as goal

pub returns-clause-state : goal.returns-clause-state
returns-clause-state c = λ image stack.
    performed_state (state_of c.args.machine.now.core) (state_of c.perform.new.core) (state_of c.go_on.new.core)
    (result_effects (results_of c.args.words.now) ++ (sets Whole 4 (risen c.args.sp 4) ∷ [])) c.args.place (Some (risen c.args.sp 4)) (is_in_first c.perform.new.core.memory) leaves
    (reverse c.args.machine.now.frames.items) (reverse c.move_calls.new.frames.items) c.args.machine.now.blocks.items c.args.machine.now.allocs.items c.args.machine.now.slot
    (c.perform.ensures.state image refl ∙ ap (changed (sets Whole 4 (risen c.args.sp 4))) (c.give_results.ensures.state image))
    c.go_on.ensures.state c.in_ok-move_calls.ensures.ok
    (λ a. same_first c.perform.new.core.memory c.args.machine.now.core.memory (c.perform.ensures.shapes ∙ c.give_results.ensures.shapes) a ∙ stack a) (omega arith)
