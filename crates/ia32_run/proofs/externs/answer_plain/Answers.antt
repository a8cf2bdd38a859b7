use Rattle.std.proofs.Common.{List, ◌+◌, ◌*◌, refl, sym, subst, ap, ◌∙◌, arith}
use Rattle.std.specs.Prelude.{reverse}
use Rattle.image_map.specs.declared.region.Activation.{Activation}
use Rattle.ia32_semantics.specs.State.{State}
use Rattle.ia32_semantics.specs.Outcome.{can_move}
use Rattle.image_map.specs.declared.spans.Span.{Span}
use Rattle.ia32_plan.specs.declared.entries.Calls.TheVariants as calls
use Rattle.ia32_plan.specs.Plans.{move_of}
use Rattle.ia32_run.specs.Answers.{IsToldOf}
use Rattle.ia32_machine.specs.Machines.{state_of}
use Rattle.ia32_run.proofs.PlainLemmas.{Plain, plain_is_done, plain_laid_out, plain_maps, plain_unmapped, plain_stays, runs_on}
use Rattle.ia32_run.proofs.externs.answer_plain.Goals as goal

pub returns-in-None-clause-fault : goal.returns-in-None-clause-fault
returns-in-None-clause-fault c = λ image at runs same. plain_unmapped image at c.args.reads_all c.args.arguments c.args.words.now (state_of c.args.machine.now) c.in-None.ensures

pub returns-then-not-can_move-clause-fault : goal.returns-then-not-can_move-clause-fault
returns-then-not-can_move-clause-fault c = λ image at runs same.
    plain_stays image at c.args.reads_all c.args.arguments c.args.words.now (state_of c.args.machine.now) c.in-Some.place c.are_eight.ensures c.in-Some.ensures.0 c.in-Some.ensures.1
    (sym (c.can_move.ensures ∙ ap (λ (l : List Activation). can_move (move_of calls.Left) (reverse l)) c.as_slice.ensures.value) ∙ c.if-not-can_move.true)

pub returns-clause-done : goal.returns-clause-done
returns-clause-done c = λ image at whole runs.
    plain_is_done image at c.args.arguments c.args.reads_all c.args.words.now c.in-Some.place (state_of c.args.machine.now) (state_of c.return_with.new.machine)
    (record {
      long = c.are_eight.ensures;
      mapped = c.in-Some.ensures.0;
      at = c.in-Some.ensures.1;
      moves = sym (c.can_move.ensures ∙ ap (λ (l : List Activation). can_move (move_of calls.Left) (reverse l)) c.as_slice.ensures.value) ∙ c.if-not-can_move.false;
      is = c.in-Ok-return_with.ensures.state image runs.stack;
      fits = omega arith;
    }) c.args.machine.now.core c.in-Ok.out whole runs.laid_out refl (λ a. refl) (subst (λ (w : Span). IsToldOf c.args.machine.now.core (4 + 4 * c.args.arguments) c.args.reads_all w c.in-Some.place c.in-Ok.out) c.nothing.ensures c.in-Ok.ensures)

pub returns-clause-runs : goal.returns-clause-runs
returns-clause-runs c = λ image runs.
    let p : Plain c.args.reads_all c.args.arguments c.args.words.now c.in-Some.place (state_of c.args.machine.now) (state_of c.return_with.new.machine) = record {
      long = c.are_eight.ensures;
      mapped = c.in-Some.ensures.0;
      at = c.in-Some.ensures.1;
      moves = sym (c.can_move.ensures ∙ ap (λ (l : List Activation). can_move (move_of calls.Left) (reverse l)) c.as_slice.ensures.value) ∙ c.if-not-can_move.false;
      is = c.in-Ok-return_with.ensures.state image runs.stack;
      fits = omega arith;
    } in
    runs_on image c.args.machine.now c.return_with.new.machine runs (ap (λ (t : State). t.slot) (c.in-Ok-return_with.ensures.state image runs.stack)) c.in-Ok-return_with.ensures.shapes
    (plain_maps image 0 c.args.arguments c.args.reads_all c.args.words.now c.in-Some.place (state_of c.args.machine.now) (state_of c.return_with.new.machine) p)
    (plain_laid_out image 0 c.args.arguments c.args.reads_all c.args.words.now c.in-Some.place (state_of c.args.machine.now) (state_of c.return_with.new.machine) p runs.laid_out)
