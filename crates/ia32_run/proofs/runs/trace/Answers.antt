use Rattle.std.proofs.Common.{◌+◌, ◌≤◌, ◌<◌, ◌++◌, length, drop, sym, ap, subst, ◌∙◌, arith}
use Rattle.std.specs.Prelude.{Err}
use Rattle.ia32_semantics.specs.State.{State}
use Rattle.ia32_machine.specs.Machines.{state_of}
use Rattle.ia32_run.specs.Traces.{NoStep}
use Rattle.ia32_run.proofs.WordLemmas.{eight_dropped}
use Rattle.ia32_run.proofs.TraceLemmas.{next_of, kept_start, kept_more, trace_completed, trace_limited, trace_faulted}
use Rattle.ia32_run.proofs.runs.trace.Goals as goal

pub run-init : goal.run-init
run-init c = record {
  kept = kept_start c.args.image.now c.args.settings.now c.args.words.now c.args.steps (state_of c.in_ok-machine.machine) c.new-writers.result c.new-told.result
      (c.in_ok-machine.ensures.state ∙ c.start_words.ensures c.args.image.now c.args.settings.now) c.new-writers.ensures c.new-told.ensures;
  runs = c.in_ok-machine.ensures.runs;
  slot = ap (λ (t : State). t.slot) c.in_ok-machine.ensures.state;
}

pub returns-in-Err-Fault : goal.returns-in-Err-Fault
returns-in-Err-Fault c =
    let room = c.run.invariant.kept.room in
    let enough = c.requires.enough in
    let more : c.run.count < c.args.steps = c.run-test.true in
    let fits : c.run.used + 8 ≤ length c.args.words.now = omega arith in
    trace_faulted c.args.image.now c.args.settings.now c.args.words.now c.args.steps c.run.count c.run.used (state_of c.run.machine) c.run.writers c.run.told c.run.invariant.kept more
    (subst (λ l. NoStep c.args.image.now c.args.settings.now (state_of c.run.machine) l) (sym (eight_dropped c.run.used c.args.words.now fits))
    (subst (λ e. NoStep c.args.image.now c.args.settings.now (state_of c.run.machine) (e ++ drop (c.run.used + 8) c.args.words.now)) c.eight_from-eight.ensures
    (c.in-Err-Fault.ensures.fault (ap Err c.in-Err-Fault.field-0-is) (drop (c.run.used + 8) c.args.words.now))))

pub returns-in-Some : goal.returns-in-Some
returns-in-Some c =
    let room = c.run.invariant.kept.room in
    let enough = c.requires.enough in
    let more : c.run.count < c.args.steps = c.run-test.true in
    let fits : c.run.used + 8 ≤ length c.args.words.now = omega arith in
    let next = next_of c.args.image.now c.args.settings.now c.args.words.now c.eight_from-eight.result c.args.steps c.run.count c.run.used c.advance.new.machine.slot (state_of c.run.machine) (state_of c.advance.new.machine)
    c.run.writers c.note.new.self c.in-Ok.made c.in_ok-told_of.field-0 c.in-Ok.ensures.made c.eight_from-eight.ensures fits c.in-Ok.ensures.few more (c.run.invariant.slot ∙ sym c.in-Ok.ensures.slot)
    c.in_ok-note.ensures c.in_ok-told_of.ensures in
    trace_completed c.args.image.now c.args.settings.now c.args.words.now c.args.steps c.run.count c.run.used (state_of c.run.machine) (state_of c.advance.new.machine)
    c.run.writers c.note.new.self c.in-Ok.made c.in_ok-told_of.field-0 c.run.told c.run.invariant.kept next c.in-Some.finish c.in-Some.is c.push.new.self c.in_ok-push.ensures.ok

pub run-preserved : goal.run-preserved
run-preserved c =
    let room = c.run.invariant.kept.room in
    let enough = c.requires.enough in
    let more : c.run.count < c.args.steps = c.run-test.true in
    let fits : c.run.used + 8 ≤ length c.args.words.now = omega arith in
    let next = next_of c.args.image.now c.args.settings.now c.args.words.now c.eight_from-eight.result c.args.steps c.run.count c.run.used c.advance.new.machine.slot (state_of c.run.machine) (state_of c.advance.new.machine)
    c.run.writers c.note.new.self c.in-Ok.made c.in_ok-told_of.field-0 c.in-Ok.ensures.made c.eight_from-eight.ensures fits c.in-Ok.ensures.few more (c.run.invariant.slot ∙ sym c.in-Ok.ensures.slot)
    c.in_ok-note.ensures c.in_ok-told_of.ensures in
    record {
      kept = kept_more c.args.image.now c.args.settings.now c.args.words.now c.args.steps c.run.count c.run.used (state_of c.run.machine) (state_of c.advance.new.machine)
          c.run.writers c.note.new.self c.in-Ok.made c.in_ok-told_of.field-0 c.run.told c.run.invariant.kept next c.in_default.is c.push.new.self c.in_ok-push.ensures.ok;
      runs = c.in-Ok.ensures.runs;
      slot = c.in-Ok.ensures.slot;
    }

pub returns : goal.returns
returns c =
    trace_limited c.args.image.now c.args.settings.now c.args.words.now c.args.steps c.run.count c.run.used (state_of c.run.machine) c.run.writers c.run.told c.run.invariant.kept c.run-test.false
