use Rattle.std.proofs.Common.{◌≡◌, ◌∷◌, ◌<◌, ◌+◌, length, refl, sym, ap, ◌∙◌, subst, arith, rules}
use Rattle.std.specs.Prelude.{Err}
use Rattle.surf_base.specs.Sink.{lines_of}
use Rattle.surf_base.proofs.TextLines.{lines_of-split, line_split}
use Rattle.replay.proofs.LineLemmas.{some_left}
use Rattle.ia32_machine.specs.Machines.{state_of}
use Rattle.ia32_run.specs.declared.log.Finish.{Finish}
use Rattle.replay.specs.Replayed.{IsReplay, FailsAt}
use Rattle.replay.proofs.KeptLemmas.{next_of}
use Rattle.replay.proofs.FileLemmas.{resumes_start, resumes_more, fails_over, fails_by, replayed, same_line}
use Rattle.replay.proofs.file.replay_lines.Goals as goal

pub lines_left-init : goal.lines_left-init
lines_left-init c =
    resumes_start c.args.image.now c.args.settings.now c.args.words.now c.args.lines.now c.in_ok-machine.machine c.new-writers.result c.new-told.result _
    (c.in_ok-machine.ensures.state ∙ c.start_words.ensures c.args.image.now c.args.settings.now) c.new-writers.ensures c.new-told.ensures refl c.in_ok-machine.ensures.runs

pub returns-then-is_some-clause-line : goal.returns-then-is_some-clause-line
returns-then-is_some-clause-line c = λ number is first bytes form begins.
    let some : 0 < length c.lines_left.rest.now = some_left (length c.lines_left.rest.now) c.lines_left-test.ensures in
    subst (λ n. FailsAt c.args.image.now c.args.settings.now (lines_of bytes) n) (same_line (c.lines_left.count + 2) number is)
    (fails_over c.args.image.now c.args.settings.now c.args.words.now c.args.lines.now c.lines_left.rest.now c.lines_left.count c.lines_left.machine c.lines_left.writers c.lines_left.told c.lines_left.finish c.lines_left.invariant
    _ _ (lines_of-split c.lines_left.rest.now some) (sym c.if-is_some.ensures) first bytes form begins)

pub returns-in-Err-Fault-clause-line : goal.returns-in-Err-Fault-clause-line
returns-in-Err-Fault-clause-line c = λ number is first bytes form begins.
    let some : 0 < length c.lines_left.rest.now = some_left (length c.lines_left.rest.now) c.lines_left-test.ensures in
    let split : lines_of c.lines_left.rest.now ≡ c.split_at.result.0.now ∷ lines_of c.split_at.result.1.now =
    line_split _ _ _ _ some c.first_line_len.ensures c.split_at.ensures.front c.split_at.ensures.back in
    subst (λ n. FailsAt c.args.image.now c.args.settings.now (lines_of bytes) n) (same_line (c.lines_left.count + 2) number is)
    (fails_by c.args.image.now c.args.settings.now c.args.words.now c.args.lines.now c.lines_left.rest.now c.lines_left.count c.lines_left.machine c.lines_left.writers c.lines_left.told c.lines_left.finish c.lines_left.invariant
    c.split_at.result.0.now c.split_at.result.1.now split c.requires.image (sym c.if-is_some.ensures) (c.in-Err-Fault.ensures.fault (ap Err c.in-Err-Fault.field-0-is)) first bytes form begins)

pub lines_left-preserved : goal.lines_left-preserved
lines_left-preserved c =
    let some : 0 < length c.lines_left.rest.now = some_left (length c.lines_left.rest.now) c.lines_left-test.ensures in
    let split : lines_of c.lines_left.rest.now ≡ c.split_at.result.0.now ∷ lines_of c.split_at.result.1.now =
    line_split _ _ _ _ some c.first_line_len.ensures c.split_at.ensures.front c.split_at.ensures.back in
    let next = next_of c.args.image.now c.args.settings.now c.split_at.result.0.now c.lines_left.count c.step_by.new.machine.slot (state_of c.lines_left.machine) (state_of c.step_by.new.machine) c.lines_left.writers c.note.new.self c.in-Ok.made
    c.in_ok-told_of.field-0 c.in-Ok.ensures.made (c.lines_left.invariant.slot ∙ sym c.in-Ok.ensures.slot) c.in_ok-note.ensures c.in_ok-told_of.ensures in
    resumes_more c.args.image.now c.args.settings.now c.args.words.now c.args.lines.now c.lines_left.rest.now c.lines_left.count c.lines_left.machine c.lines_left.writers c.lines_left.told c.lines_left.finish c.lines_left.invariant
    c.split_at.result.0.now c.split_at.result.1.now split c.requires.image (sym c.if-is_some.ensures)
    (omega (arith, c.first_line_len.ensures, c.split_at.ensures.front_len, c.split_at.ensures.back_len)) (omega (arith, c.first_line_len.ensures, c.split_at.ensures.front_len))
    c.step_by.new.machine c.note.new.self c.in-Ok.made c.in_ok-told_of.field-0 c.push.new.self next c.in_ok-push.ensures.ok c.in-Ok.ensures.runs c.in-Ok.ensures.slot

pub returns-clause-log : goal.returns-clause-log
returns-clause-log c = λ first bytes form begins.
    subst (λ (f : Finish). IsReplay c.args.image.now c.args.settings.now bytes (record { steps = c.lines_left.told; finish = f })) (sym c.finish_or_limit.ensures)
    (replayed c.args.image.now c.args.settings.now c.args.words.now c.args.lines.now c.lines_left.rest.now c.lines_left.count c.lines_left.machine c.lines_left.writers c.lines_left.told c.lines_left.finish c.lines_left.invariant
    (search rules) first bytes form begins)
