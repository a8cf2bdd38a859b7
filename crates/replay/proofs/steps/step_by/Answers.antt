use Rattle.std.proofs.Common.{List, ℕ, drop, ◌++◌, ap, ◌∙◌, subst, arith, Vec, Global}
use Rattle.std.specs.Prelude.{Option, MatchOption}
use Rattle.ia32_machine.specs.Machines.{state_of}
use Rattle.ia32_run.specs.Traces.{NoStep, IsMade, eight_words}
use Rattle.replay.specs.Lines.{IsStepLine}
use Rattle.replay.proofs.StepLemmas.{line_faults, line_differs, line_tells}
use Rattle.replay.proofs.steps.step_by.Goals as goal

pub returns-in-Err-advance-clause-fault : goal.returns-in-Err-advance-clause-fault
returns-in-Err-advance-clause-fault c = λ is.
    let s = state_of c.args.machine.now in
    line_faults c.args.image.now c.args.settings.now c.args.line.now c.in-Ok-Some.words.items s (subst (λ (o : Option (Vec ℕ Global)). MatchOption o ((ws : List ℕ) → ¬ IsStepLine c.args.line.now c.args.machine.now.core.eip ws) (λ ws. IsStepLine c.args.line.now c.args.machine.now.core.eip ws.items)) c.in-Ok-Some.field-0-is c.in-Ok-Some.ensures)
    (λ rest. subst (λ e. NoStep c.args.image.now c.args.settings.now s (e ++ rest)) (c.eight_from-eight.ensures ∙ ap (λ l. eight_words l 0) c.deref.ensures.value) (c.in-Err-advance.ensures.fault is rest))

pub returns-then-made-len-clause-fault : goal.returns-then-made-len-clause-fault
returns-then-made-len-clause-fault c = λ is.
    let s = state_of c.args.machine.now in
    let eight = c.eight_from-eight.ensures ∙ ap (λ l. eight_words l 0) c.deref.ensures.value in
    line_differs c.args.image.now c.args.settings.now c.args.line.now c.in-Ok-Some.words.items c.in-Ok.made s (state_of c.advance.new.machine) c.requires.image (subst (λ (o : Option (Vec ℕ Global)). MatchOption o ((ws : List ℕ) → ¬ IsStepLine c.args.line.now c.args.machine.now.core.eip ws) (λ ws. IsStepLine c.args.line.now c.args.machine.now.core.eip ws.items)) c.in-Ok-Some.field-0-is c.in-Ok-Some.ensures)
    (λ rest. subst (λ e. IsMade c.args.image.now c.args.settings.now (e ++ rest) (drop c.in-Ok.made.out.used e ++ rest) c.in-Ok.made s (state_of c.advance.new.machine)) eight (c.in-Ok.ensures.made rest)) c.in-Ok.ensures.few (let off = c.if-made-len.true in let len = c.len.ensures in omega arith)

pub returns-clause-made : goal.returns-clause-made
returns-clause-made c =
    let s = state_of c.args.machine.now in
    let eight = c.eight_from-eight.ensures ∙ ap (λ l. eight_words l 0) c.deref.ensures.value in
    line_tells c.args.image.now c.args.settings.now c.args.line.now c.in-Ok-Some.words.items c.in-Ok.made s (state_of c.advance.new.machine) (subst (λ (o : Option (Vec ℕ Global)). MatchOption o ((ws : List ℕ) → ¬ IsStepLine c.args.line.now c.args.machine.now.core.eip ws) (λ ws. IsStepLine c.args.line.now c.args.machine.now.core.eip ws.items)) c.in-Ok-Some.field-0-is c.in-Ok-Some.ensures)
    (λ rest. subst (λ e. IsMade c.args.image.now c.args.settings.now (e ++ rest) (drop c.in-Ok.made.out.used e ++ rest) c.in-Ok.made s (state_of c.advance.new.machine)) eight (c.in-Ok.ensures.made rest)) c.in-Ok.ensures.few (let same = c.if-made-len.false in let len = c.len.ensures in omega arith)
