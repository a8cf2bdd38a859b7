use Rattle.std.proofs.Common.{◌+◌, ◌*◌, ◌%◌, ◌^◌, List, sym, subst, ap, ◌∙◌, arith}
use Rattle.std.proofs.lemmas.Bool.{and_right}
use Rattle.std.specs.Prelude.{ℕ, false, ◌&&◌, max, reverse, slice_index}
use Rattle.image_map.specs.declared.region.Activation.{Activation}
use Rattle.ia32_semantics.specs.State.{State, word_at}
use Rattle.ia32_semantics.specs.Effects.{all_among, is_open}
use Rattle.ia32_semantics.specs.Outcome.{can_move, is_in_stack}
use Rattle.ia32_memory.specs.Mapped.{bytes_of}
use Rattle.ia32_memory.proofs.ShapeLaws.{same_first}
use Rattle.ia32_plan.specs.declared.entries.Calls.TheVariants as calls
use Rattle.ia32_plan.specs.Plans.{move_of}
use Rattle.ia32_machine.specs.Machines.{state_of}
use Rattle.ia32_machine.proofs.PlaceLemmas.{mapped_low}
use Rattle.ia32_run.specs.Choices.{fill_byte}
use Rattle.ia32_run.specs.Answers.{IsToldOf}
use Rattle.ia32_run.proofs.FillLemmas.{fill_is_done, fill_laid_out, fill_unmapped, fill_impossible}
use Rattle.ia32_run.proofs.RangeLemmas.{range_closed, range_opened, open_mapped, Filling, filled_known, filled_maps, after_maps, after_slot, filled_place}
use Rattle.ia32_run.proofs.PlainLemmas.{runs_on}
use Rattle.ia32_run.proofs.externs.answer_fills.Goals as goal

pub returns-in-None-clause-fault : goal.returns-in-None-clause-fault
returns-in-None-clause-fault c = λ image at whole runs same.
    fill_unmapped image at c.args.arguments.0 c.args.arguments.1 c.args.words.now (state_of c.args.machine.now) (c.in-None.ensures (mapped_low image (state_of c.args.machine.now) whole runs.laid_out))

pub returns-then-not-is_range_open-clause-fault : goal.returns-then-not-is_range_open-clause-fault
returns-then-not-is_range_open-clause-fault c = λ image at whole runs same.
    let low = mapped_low image (state_of c.args.machine.now) whole runs.laid_out in
    let range = c.in-Some.ensures low in
    let closed = range_closed image c.args.machine.now.core.memory c.in-Some.range.1 c.in-Some.range.0 runs.knows low (sym c.is_range_open.ensures ∙ c.if-not-is_range_open.true) in
    fill_impossible image at c.args.arguments.0 c.args.arguments.1 c.args.words.now (state_of c.args.machine.now) c.in-Some.range.0 c.in-Some.range.1 c.are_eight.ensures c.requires.0 c.requires.2
    range.0 range.1 range.2 (ap (λ b. b && can_move (move_of calls.Left) (reverse c.args.machine.now.frames.items)) closed)

pub returns-then-not-can_move-clause-fault : goal.returns-then-not-can_move-clause-fault
returns-then-not-can_move-clause-fault c = λ image at whole runs same.
    let range = c.in-Some.ensures (mapped_low image (state_of c.args.machine.now) whole runs.laid_out) in
    fill_impossible image at c.args.arguments.0 c.args.arguments.1 c.args.words.now (state_of c.args.machine.now) c.in-Some.range.0 c.in-Some.range.1 c.are_eight.ensures c.requires.0 c.requires.2
    range.0 range.1 range.2
    (and_right (all_among (is_open image (bytes_of c.args.machine.now.core.memory)) c.in-Some.range.0 c.in-Some.range.1) (can_move (move_of calls.Left) (reverse c.args.machine.now.frames.items))
    (sym (c.can_move.ensures ∙ ap (λ (l : List Activation). can_move (move_of calls.Left) (reverse l)) c.as_slice.ensures.value) ∙ c.if-not-can_move.true))

pub returns-in-None-word-clause-fault : goal.returns-in-None-word-clause-fault
returns-in-None-word-clause-fault c = λ image at whole runs same.
    let low = mapped_low image (state_of c.args.machine.now) whole runs.laid_out in
    let opened = range_opened image c.args.machine.now.core.memory c.in-Some.range.1 c.in-Some.range.0 runs.knows low (omega arith) (sym c.is_range_open.ensures ∙ c.if-not-is_range_open.false) in
    absurd (filled_place (bytes_of c.args.machine.now.core.memory) (slice_index c.args.machine.now.core.regs 4) (4 * max c.args.arguments.0 c.args.arguments.1) c.in-Some.range.0 c.in-Some.range.1
    (fill_byte (slice_index c.args.words.now 0)) low (c.in-Some.ensures low).0 (open_mapped image (bytes_of c.args.machine.now.core.memory) c.in-Some.range.1 c.in-Some.range.0 opened)
    (c.in-None-word.ensures ∙ ap (λ (t : State). word_at t.memory (slice_index c.args.machine.now.core.regs 4)) c.fill.ensures.state))

pub returns-clause-done : goal.returns-clause-done
returns-clause-done c = λ image at whole runs.
    let f : Filling image c.args.words.now c.args.arguments.0 c.args.arguments.1 c.in-Some.range.0 c.in-Some.range.1 c.in-Some-word.place (state_of c.args.machine.now) (state_of c.fill.new.machine) (state_of c.return_with.new.machine) = record {
      long = c.are_eight.ensures;
      some_buffer = c.requires.0;
      some_len = c.requires.2;
      low = mapped_low image (state_of c.args.machine.now) whole runs.laid_out;
      mapped = (c.in-Some.ensures (mapped_low image (state_of c.args.machine.now) whole runs.laid_out)).0;
      to_is = (c.in-Some.ensures (mapped_low image (state_of c.args.machine.now) whole runs.laid_out)).1;
      count_is = (c.in-Some.ensures (mapped_low image (state_of c.args.machine.now) whole runs.laid_out)).2;
      opened = range_opened image c.args.machine.now.core.memory c.in-Some.range.1 c.in-Some.range.0 runs.knows (mapped_low image (state_of c.args.machine.now) whole runs.laid_out) (omega arith) (sym c.is_range_open.ensures ∙ c.if-not-is_range_open.false);
      moves = sym (c.can_move.ensures ∙ ap (λ (l : List Activation). can_move (move_of calls.Left) (reverse l)) c.as_slice.ensures.value) ∙ c.if-not-can_move.false;
      filled_is = c.fill.ensures.state;
      place_is = c.in-Some-word.ensures;
      is = c.in-Ok-return_with.ensures.state image (λ a. same_first c.fill.new.machine.core.memory c.args.machine.now.core.memory c.fill.ensures.shapes a ∙ runs.stack a ∙ ap (λ n. is_in_stack n a) (sym (ap (λ (t : State). t.slot) c.fill.ensures.state)));
      fits = omega arith;
      to_fits = omega arith;
    } in
    fill_is_done image at c.args.words.now c.args.arguments.0 c.args.arguments.1 c.in-Some.range.0 c.in-Some.range.1 c.in-Some-word.place (state_of c.args.machine.now) (state_of c.return_with.new.machine)
    (filled_known image c.args.words.now c.args.arguments.0 c.args.arguments.1 c.in-Some.range.0 c.in-Some.range.1 c.in-Some-word.place (state_of c.args.machine.now) (state_of c.fill.new.machine) (state_of c.return_with.new.machine) f) c.fill.new.machine.core c.in-Ok.out whole runs.laid_out (ap (λ (rs : List ℕ). slice_index rs 4) (sym c.fill.ensures.registers)) (filled_maps image c.args.words.now c.args.arguments.0 c.args.arguments.1 c.in-Some.range.0 c.in-Some.range.1 c.in-Some-word.place (state_of c.args.machine.now) (state_of c.fill.new.machine) (state_of c.return_with.new.machine) f)
    (subst (λ n. IsToldOf c.fill.new.machine.core (4 + 4 * n) false (record { start = c.in-Some.range.0; end = (c.in-Some.range.0 + c.in-Some.range.1) % 2 ^ 32 }) c.in-Some-word.place c.in-Ok.out) c.max.ensures c.in-Ok.ensures)

pub returns-clause-runs : goal.returns-clause-runs
returns-clause-runs c = λ image whole runs.
    let f : Filling image c.args.words.now c.args.arguments.0 c.args.arguments.1 c.in-Some.range.0 c.in-Some.range.1 c.in-Some-word.place (state_of c.args.machine.now) (state_of c.fill.new.machine) (state_of c.return_with.new.machine) = record {
      long = c.are_eight.ensures;
      some_buffer = c.requires.0;
      some_len = c.requires.2;
      low = mapped_low image (state_of c.args.machine.now) whole runs.laid_out;
      mapped = (c.in-Some.ensures (mapped_low image (state_of c.args.machine.now) whole runs.laid_out)).0;
      to_is = (c.in-Some.ensures (mapped_low image (state_of c.args.machine.now) whole runs.laid_out)).1;
      count_is = (c.in-Some.ensures (mapped_low image (state_of c.args.machine.now) whole runs.laid_out)).2;
      opened = range_opened image c.args.machine.now.core.memory c.in-Some.range.1 c.in-Some.range.0 runs.knows (mapped_low image (state_of c.args.machine.now) whole runs.laid_out) (omega arith) (sym c.is_range_open.ensures ∙ c.if-not-is_range_open.false);
      moves = sym (c.can_move.ensures ∙ ap (λ (l : List Activation). can_move (move_of calls.Left) (reverse l)) c.as_slice.ensures.value) ∙ c.if-not-can_move.false;
      filled_is = c.fill.ensures.state;
      place_is = c.in-Some-word.ensures;
      is = c.in-Ok-return_with.ensures.state image (λ a. same_first c.fill.new.machine.core.memory c.args.machine.now.core.memory c.fill.ensures.shapes a ∙ runs.stack a ∙ ap (λ n. is_in_stack n a) (sym (ap (λ (t : State). t.slot) c.fill.ensures.state)));
      fits = omega arith;
      to_fits = omega arith;
    } in
    runs_on image c.args.machine.now c.return_with.new.machine runs (after_slot image c.args.words.now c.args.arguments.0 c.args.arguments.1 c.in-Some.range.0 c.in-Some.range.1 c.in-Some-word.place (state_of c.args.machine.now) (state_of c.fill.new.machine) (state_of c.return_with.new.machine) f) (c.in-Ok-return_with.ensures.shapes ∙ c.fill.ensures.shapes) (after_maps image c.args.words.now c.args.arguments.0 c.args.arguments.1 c.in-Some.range.0 c.in-Some.range.1 c.in-Some-word.place (state_of c.args.machine.now) (state_of c.fill.new.machine) (state_of c.return_with.new.machine) f)
    (fill_laid_out image 0 c.args.words.now c.args.arguments.0 c.args.arguments.1 c.in-Some.range.0 c.in-Some.range.1 c.in-Some-word.place (state_of c.args.machine.now) (state_of c.return_with.new.machine)
    (filled_known image c.args.words.now c.args.arguments.0 c.args.arguments.1 c.in-Some.range.0 c.in-Some.range.1 c.in-Some-word.place (state_of c.args.machine.now) (state_of c.fill.new.machine) (state_of c.return_with.new.machine) f) runs.laid_out)
