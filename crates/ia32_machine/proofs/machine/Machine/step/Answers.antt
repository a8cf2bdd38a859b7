use Rattle.std.proofs.Common.{List, refl, ap, sym, ◌∙◌, arith}
use Rattle.std.specs.Prelude.{reverse}
use Rattle.image_map.specs.declared.region.Activation.{Activation}
use Rattle.ia32_semantics.specs.State.{AtByte}
use Rattle.ia32_semantics.specs.Reading.{outcome, asks}
use Rattle.ia32_semantics.specs.Rows.{row}
use Rattle.ia32_semantics.specs.Outcome.{can_move}
use Rattle.ia32_plan.specs.Plans.{move_of}
use Rattle.ia32_plan.specs.Views as views
use Rattle.ia32_machine.proofs.MachineLemmas.{step_executed, step_runs, step_unplanned, step_unfit, step_unmoved}
use Rattle.ia32_machine.proofs.machine.Machine.step.Goals as goal

pub returns-in-None-clause-fault : goal.returns-in-None-clause-fault
returns-in-None-clause-fault c = λ image runs same.
    step_unplanned image c.args.i.now c.args.choice.now.words c.args.self.now.core (reverse c.args.self.now.frames.items) c.args.self.now.blocks.items c.args.self.now.allocs.items c.args.self.now.slot
    (ap (outcome (row c.args.i.now.op c.args.i.now) (views.state_of c.args.self.now.core)) (sym c.new-words.ensures.words) ∙ c.in-None.ensures.outcome)

pub returns-then-not-all_fit-clause-fault : goal.returns-then-not-all_fit-clause-fault
returns-then-not-all_fit-clause-fault c = λ image runs same.
    step_unfit image c.args.i.now c.args.choice.now.words _ c.in-Some.plan c.args.self.now.core (reverse c.args.self.now.frames.items) c.args.self.now.blocks.items c.args.self.now.allocs.items c.args.self.now.slot
    (ap (outcome (row c.args.i.now.op c.args.i.now) (views.state_of c.args.self.now.core)) (sym c.new-words.ensures.words) ∙ c.in-Some.ensures.outcome)
    (sym (c.all_fit.ensures image runs.knows) ∙ c.if-not-all_fit.true)

pub returns-then-not-can_move-clause-fault : goal.returns-then-not-can_move-clause-fault
returns-then-not-can_move-clause-fault c = λ image runs same.
    step_unmoved image c.args.i.now c.args.choice.now.words _ c.in-Some.plan c.args.self.now.core (reverse c.args.self.now.frames.items) c.args.self.now.blocks.items c.args.self.now.allocs.items c.args.self.now.slot
    (ap (outcome (row c.args.i.now.op c.args.i.now) (views.state_of c.args.self.now.core)) (sym c.new-words.ensures.words) ∙ c.in-Some.ensures.outcome)
    (sym (c.can_move.ensures ∙ ap (λ (l : List Activation). can_move (move_of c.in-Some.plan.calls) (reverse l)) c.as_slice.ensures.value) ∙ c.if-not-can_move.true)

pub returns-clause-executed : goal.returns-clause-executed
returns-clause-executed c = λ image whole runs.
    step_executed image c.args.i.now c.args.choice.now.words _ _ c.in-Some.plan c.in-Ok.out c.args.self.now.core c.perform_all.new.core c.go_on.new.core
    (reverse c.args.self.now.frames.items) (reverse c.move_calls.new.frames.items) c.args.self.now.slot c.args.self.now.blocks.items c.args.self.now.allocs.items
    (record {
      planned = ap (outcome (row c.args.i.now.op c.args.i.now) (views.state_of c.args.self.now.core)) (sym c.new-words.ensures.words) ∙ c.in-Some.ensures.outcome;
      asked = λ a. c.in-Some.ensures.reads a
          ∙ ap (λ w. asks (row c.args.i.now.op c.args.i.now) (views.state_of c.args.self.now.core) w (AtByte a)) c.new-words.ensures.words;
      fits = sym (c.all_fit.ensures image runs.knows) ∙ c.if-not-all_fit.false;
      moves = sym (c.can_move.ensures ∙ ap (λ (l : List Activation). can_move (move_of c.in-Some.plan.calls) (reverse l)) c.as_slice.ensures.value) ∙ c.if-not-can_move.false;
      calls = c.in-Ok-move_calls.ensures.ok;
      done = c.perform_all.ensures.state image (sym (c.all_fit.ensures image runs.knows) ∙ c.if-not-all_fit.false);
      gone = c.go_on.ensures.state;
      first_shapes = c.perform_all.ensures.shapes;
      last_shapes = c.go_on.ensures.shapes;
      stack = runs.stack;
      place = omega arith;
      told = c.in-Ok.ensures;
      left_are = refl;
      eight = c.are_eight.ensures;
    })
    whole runs.laid_out

pub returns-clause-runs : goal.returns-clause-runs
returns-clause-runs c = λ image runs.
    let kept = step_runs image c.args.i.now c.args.choice.now.words _ _ c.in-Some.plan c.in-Ok.out c.args.self.now.core c.perform_all.new.core c.go_on.new.core
    (reverse c.args.self.now.frames.items) (reverse c.move_calls.new.frames.items) c.args.self.now.slot c.args.self.now.blocks.items c.args.self.now.allocs.items
    (record {
      planned = ap (outcome (row c.args.i.now.op c.args.i.now) (views.state_of c.args.self.now.core)) (sym c.new-words.ensures.words) ∙ c.in-Some.ensures.outcome;
      asked = λ a. c.in-Some.ensures.reads a
          ∙ ap (λ w. asks (row c.args.i.now.op c.args.i.now) (views.state_of c.args.self.now.core) w (AtByte a)) c.new-words.ensures.words;
      fits = sym (c.all_fit.ensures image runs.knows) ∙ c.if-not-all_fit.false;
      moves = sym (c.can_move.ensures ∙ ap (λ (l : List Activation). can_move (move_of c.in-Some.plan.calls) (reverse l)) c.as_slice.ensures.value) ∙ c.if-not-can_move.false;
      calls = c.in-Ok-move_calls.ensures.ok;
      done = c.perform_all.ensures.state image (sym (c.all_fit.ensures image runs.knows) ∙ c.if-not-all_fit.false);
      gone = c.go_on.ensures.state;
      first_shapes = c.perform_all.ensures.shapes;
      last_shapes = c.go_on.ensures.shapes;
      stack = runs.stack;
      place = omega arith;
      told = c.in-Ok.ensures;
      left_are = refl;
      eight = c.are_eight.ensures;
    }) runs.laid_out runs.knows in
    record { laid_out = kept.0; knows = kept.1; stack = kept.2 }
