use Rattle.std.proofs.Common.{List, refl, sym, subst, ap, ◌∙◌, arith}
use Rattle.std.specs.Prelude.{ℕ, false, reverse, slice_index, ◌==◌}
use Rattle.std.proofs.lemmas.Bool.{false≢true}
use Rattle.image_map.specs.declared.spans.Span.{Span}
use Rattle.image_map.specs.declared.region.Activation.{Activation}
use Rattle.image_map.specs.declared.region.Block.{Block}
use Rattle.ia32_semantics.specs.State.{newest_site}
use Rattle.ia32_semantics.specs.Outcome.{can_move}
use Rattle.ia32_semantics.specs.Externs.{answered}
use Rattle.ia32_memory.specs.Mapped.{bytes_of}
use Rattle.ia32_plan.specs.declared.entries.Calls.TheVariants as calls
use Rattle.ia32_plan.specs.Plans.{move_of}
use Rattle.ia32_machine.specs.Machines.{state_of}
use Rattle.ia32_machine.specs.Steps.{performed}
use Rattle.ia32_machine.proofs.PlaceLemmas.{mapped_low}
use Rattle.ia32_run.specs.Choices.{base_given}
use Rattle.ia32_run.specs.Answers.{results_of, with_given, IsToldOf}
use Rattle.ia32_run.proofs.AllocLemmas.{Allocates, alloc_is_done, alloc_laid_out, alloc_unmapped, alloc_stays}
use Rattle.ia32_run.proofs.RangeLemmas.{argument_missing, argument_found, block_fits, knows_on, given_slot, alloc_runs}
use Rattle.ia32_run.proofs.externs.answer_alloc.Goals as goal

pub returns-in-None-clause-fault : goal.returns-in-None-clause-fault
returns-in-None-clause-fault c = λ image whole runs same. alloc_unmapped image c.args.machine.now.core.eip c.args.words.now (state_of c.args.machine.now) c.in-None.ensures

pub returns-in-None-word-clause-fault : goal.returns-in-None-word-clause-fault
returns-in-None-word-clause-fault c = λ image whole runs same.
    absurd (false≢true (sym (argument_missing (bytes_of c.args.machine.now.core.memory) (mapped_low image (state_of c.args.machine.now) whole runs.laid_out) (slice_index c.args.machine.now.core.regs 4) 1 1 (omega arith) c.in-None-word.ensures)
    ∙ c.in-Some.ensures.0))

pub returns-then-not-can_move-clause-fault : goal.returns-then-not-can_move-clause-fault
returns-then-not-can_move-clause-fault c = λ image whole runs same.
    alloc_stays image c.args.machine.now.core.eip c.args.words.now (state_of c.args.machine.now) c.in-Some.place c.in-Some-word.size c.in-Some.ensures.0 c.in-Some.ensures.1
    (argument_found (bytes_of c.args.machine.now.core.memory) (mapped_low image (state_of c.args.machine.now) whole runs.laid_out) (slice_index c.args.machine.now.core.regs 4) 1 1 c.in-Some-word.size c.in-Some.ensures.0 (omega arith) c.in-Some-word.ensures)
    (sym (c.can_move.ensures ∙ ap (λ (l : List Activation). can_move (move_of calls.Left) (reverse l)) c.as_slice.ensures.value) ∙ c.if-not-can_move.true)

pub give-requires : goal.give-requires
give-requires c =
    block_fits _ c.args.machine.now.blocks.items c.return_with.new.machine.blocks.items c.return_with.new.machine.slot c.args.machine.now.slot (slice_index c.args.words.now 0) c.in-Some-word.size c.newest_site-site.result c.base_given-base.result
    c.base_given-base.ensures c.as_slice-3.ensures.value c.in-Ok-return_with.ensures.kept.1 c.in-Ok-return_with.ensures.kept.0 c.requires

pub returns-clause-done : goal.returns-clause-done
returns-clause-done c = λ image whole runs.
    alloc_is_done image c.args.machine.now.core.eip c.args.words.now c.in-Some.place c.in-Some-word.size c.base_given-base.result (state_of c.args.machine.now) (state_of c.give.new.machine)
    (record {
      long = c.are_eight.ensures;
      mapped = c.in-Some.ensures.0;
      place_is = c.in-Some.ensures.1;
      size_is = argument_found (bytes_of c.args.machine.now.core.memory) (mapped_low image (state_of c.args.machine.now) whole runs.laid_out) (slice_index c.args.machine.now.core.regs 4) 1 1 c.in-Some-word.size c.in-Some.ensures.0 (omega arith) c.in-Some-word.ensures;
      moves = sym (c.can_move.ensures ∙ ap (λ (l : List Activation). can_move (move_of calls.Left) (reverse l)) c.as_slice.ensures.value) ∙ c.if-not-can_move.false;
      base_is = c.base_given-base.ensures ∙ ap (λ (bs : List Block). base_given bs (slice_index c.args.words.now 0) c.in-Some-word.size) c.as_slice-3.ensures.value;
      slot = c.requires;
      is = c.in-Ok-give.ensures.state
          ∙ ap (λ n. with_given (c.base_given-base.result == 0) c.args.machine.now.core.eip n c.base_given-base.result c.in-Some-word.size (state_of c.return_with.new.machine))
          (c.newest_site-site.ensures ∙ ap (λ (l : List Activation). newest_site (reverse l)) c.as_slice-2.ensures.value)
          ∙ ap (with_given (c.base_given-base.result == 0) c.args.machine.now.core.eip (newest_site (reverse c.args.machine.now.frames.items)) c.base_given-base.result c.in-Some-word.size)
          (c.in-Ok-return_with.ensures.state image runs.stack
          ∙ ap (λ (ws : List ℕ). performed (answered (results_of ws) (slice_index c.args.machine.now.core.regs 4) c.in-Some.place) (state_of c.args.machine.now)) c.with_first-results.ensures);
      fits = omega arith;
    }) c.args.machine.now.core c.in-Ok.out whole runs.laid_out refl (λ a. refl)
    (subst (λ (w : Span). IsToldOf c.args.machine.now.core 8 false w c.in-Some.place c.in-Ok.out) c.nothing.ensures c.in-Ok.ensures)

pub returns-clause-runs : goal.returns-clause-runs
returns-clause-runs c = λ image whole runs.
    let p : Allocates c.args.words.now c.args.machine.now.core.eip c.in-Some.place c.in-Some-word.size c.base_given-base.result (state_of c.args.machine.now) (state_of c.give.new.machine) = record {
      long = c.are_eight.ensures;
      mapped = c.in-Some.ensures.0;
      place_is = c.in-Some.ensures.1;
      size_is = argument_found (bytes_of c.args.machine.now.core.memory) (mapped_low image (state_of c.args.machine.now) whole runs.laid_out) (slice_index c.args.machine.now.core.regs 4) 1 1 c.in-Some-word.size c.in-Some.ensures.0 (omega arith) c.in-Some-word.ensures;
      moves = sym (c.can_move.ensures ∙ ap (λ (l : List Activation). can_move (move_of calls.Left) (reverse l)) c.as_slice.ensures.value) ∙ c.if-not-can_move.false;
      base_is = c.base_given-base.ensures ∙ ap (λ (bs : List Block). base_given bs (slice_index c.args.words.now 0) c.in-Some-word.size) c.as_slice-3.ensures.value;
      slot = c.requires;
      is = c.in-Ok-give.ensures.state
          ∙ ap (λ n. with_given (c.base_given-base.result == 0) c.args.machine.now.core.eip n c.base_given-base.result c.in-Some-word.size (state_of c.return_with.new.machine))
          (c.newest_site-site.ensures ∙ ap (λ (l : List Activation). newest_site (reverse l)) c.as_slice-2.ensures.value)
          ∙ ap (with_given (c.base_given-base.result == 0) c.args.machine.now.core.eip (newest_site (reverse c.args.machine.now.frames.items)) c.base_given-base.result c.in-Some-word.size)
          (c.in-Ok-return_with.ensures.state image runs.stack
          ∙ ap (λ (ws : List ℕ). performed (answered (results_of ws) (slice_index c.args.machine.now.core.regs 4) c.in-Some.place) (state_of c.args.machine.now)) c.with_first-results.ensures);
      fits = omega arith;
    } in
    let lies = alloc_laid_out image c.args.machine.now.core.eip c.args.words.now c.in-Some.place c.in-Some-word.size c.base_given-base.result (state_of c.args.machine.now) (state_of c.give.new.machine) p runs.laid_out in
    alloc_runs image c.args.machine.now c.return_with.new.machine c.give.new.machine runs c.in-Ok-return_with.ensures.shapes c.in-Ok-give.ensures.stack
    (given_slot (c.base_given-base.result == 0) c.args.machine.now.core.eip c.newest_site-site.result c.base_given-base.result c.in-Some-word.size (state_of c.return_with.new.machine) (state_of c.give.new.machine) c.in-Ok-give.ensures.state
    ∙ c.in-Ok-return_with.ensures.kept.0)
    (c.in-Ok-give.ensures.open image whole (knows_on image c.args.machine.now c.return_with.new.machine c.with_first-results.result (slice_index c.args.machine.now.core.regs 4) c.in-Some.place runs c.in-Ok-return_with.ensures.shapes
    (c.in-Ok-return_with.ensures.state image runs.stack)))
    lies
