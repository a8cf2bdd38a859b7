use Rattle.std.proofs.Common.{◌≡◌, length, refl, sym, ap, ◌∙◌, rules}
use Rattle.std.specs.Prelude.{◌&&◌, ◌==◌, Err}
use Rattle.std.proofs.lemmas.Option.{same_Some}
use Rattle.ia32_machine.specs.declared.step.StepError.TheVariants as StepError
use Rattle.ia32_machine.specs.Machines.{state_of}
use Rattle.ia32_run.specs.Acts.{act_of}
use Rattle.ia32_run.specs.Steps.{occurrence}
use Rattle.ia32_run.proofs.AdvanceLemmas.{done_is_made, cant_act, single_is}
use Rattle.ia32_run.proofs.stepping.advance.Goals as goal
use Rattle.ia32_semantics.proofs.StepLemmas.{slot_stays}

pub returns-in-Err-clause-fault : goal.returns-in-Err-clause-fault
returns-in-Err-clause-fault c = λ same rest.
    cant_act c.args.image.now c.args.settings.now (act_of c.args.machine.now.core.eip c.in-Some.act) (state_of c.args.machine.now) c.args.words.now rest c.are_eight.ensures
    (λ a at. sym (same_Some _ a ((c.in-Some.ensures.act a).1 at))) (c.in-Err.ensures.fault c.args.image.now c.requires.image c.requires.runs (let e : c.in-Err.error ≡ StepError.Fault = cc in ap Err e))

pub returns-clause-made : goal.returns-clause-made
returns-clause-made c = λ rest.
    let len : c.len-calls.result ≡ length c.args.machine.now.frames.items = search rules in
    done_is_made c.args.image.now c.args.settings.now (act_of c.args.machine.now.core.eip c.in-Some.act) c.args.words.now rest _ (state_of c.args.machine.now) (state_of c.perform_act.new.machine)
    ((c.in-Some.ensures.act (act_of c.args.machine.now.core.eip c.in-Some.act)).0 refl) (c.in-Ok.ensures.done c.args.image.now c.requires.image c.requires.runs) refl
    (λ o same goes. c.finish_after-finish.ensures o c.args.machine.now.core.eip same
    (c.returns.ensures ∙ ap (λ n. n == 1 && c.in-Ok.out.next == 0xFFFF0000) len ∙ ap (λ b. b && c.in-Ok.out.next == 0xFFFF0000) (single_is c.args.machine.now.frames.items) ∙ sym goes))

pub returns-clause-slot : goal.returns-clause-slot
returns-clause-slot c =
    let d = c.in-Ok.ensures.done c.args.image.now c.requires.image c.requires.runs in
    slot_stays c.args.image.now (occurrence (act_of c.args.machine.now.core.eip c.in-Some.act) d.choices (state_of c.args.machine.now) (state_of c.perform_act.new.machine)) d.step ∙ c.requires.slot
