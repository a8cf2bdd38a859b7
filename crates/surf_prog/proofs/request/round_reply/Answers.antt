use Rattle.std.proofs.Common.{◌≡◌, List, ◌∙◌, ap}
use Rattle.command_words.specs.declared.line.ExternKind.{ExternKind}
use Rattle.surf_prog.specs.Settings.{settings_of}
use Rattle.surf_prog.specs.Once.{planned}
use Rattle.surf_prog.proofs.SettingsLaws.{are_settings}
use Rattle.surf_prog.proofs.RequestLaws.{round_told, round_lacks_by}
use Rattle.surf_prog.proofs.request.round_reply.Goals as goal

pub asked_round-requires-clause-settings : goal.asked_round-requires-clause-settings
asked_round-requires-clause-settings c = are_settings c.args.image.now c.args.place c.args.plan.now.rounds c.as_slice.result.now c.in_ok-settings.settings c.in_ok-settings.ensures

pub answer_to-requires-clause-settings : goal.answer_to-requires-clause-settings
answer_to-requires-clause-settings c = are_settings c.args.image.now c.args.place c.args.plan.now.rounds c.as_slice.result.now c.in_ok-settings.settings c.in_ok-settings.ensures

pub returns-in_err-answer : goal.returns-in_err-answer
returns-in_err-answer c =
    let settings : c.in_ok-settings.settings ≡ planned c.args.image.now c.args.place c.args.plan.now
    = c.in_ok-settings.ensures ∙ ap (λ (parts : List ExternKind). settings_of c.args.image.now c.args.place c.args.plan.now.rounds parts) c.as_slice.ensures in
    round_lacks_by c.args.image.now c.args.place c.args.plan.now c.args.question.now c.in_ok-settings.settings c.in_ok-round.round c.in_err-answer.field-0.0 c.from_residual-in_err-answer.result
    settings c.in_ok-round.ensures.asked c.in_err-answer.ensures.none c.from_residual-in_err-answer.ensures.1

pub returns : goal.returns
returns c =
    let settings : c.in_ok-settings.settings ≡ planned c.args.image.now c.args.place c.args.plan.now
    = c.in_ok-settings.ensures ∙ ap (λ (parts : List ExternKind). settings_of c.args.image.now c.args.place c.args.plan.now.rounds parts) c.as_slice.ensures in
    round_told c.args.image.now c.args.place c.args.plan.now c.args.question.now c.in_ok-settings.settings c.in_ok-round.round c.in_ok-answer.answer.text.items c.in_ok-answer.answer.is_warned
    settings c.in_ok-round.ensures.asked c.in_ok-answer.ensures.reply c.in_ok-answer.ensures.warned
