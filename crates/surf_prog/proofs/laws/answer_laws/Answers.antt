use Rattle.surf_prog.proofs.OneAnswer.{replies_are_one, lists_are_one, absences_are_one, images_pass, outcomes_exclude}
use Rattle.surf_prog.proofs.laws.answer_laws.Goals as goal

pub returns : goal.returns
returns c = record { replies = replies_are_one; lists = lists_are_one; absences = absences_are_one; images = images_pass; outcomes = outcomes_exclude }
