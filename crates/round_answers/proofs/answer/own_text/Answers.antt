use Rattle.std.proofs.Common.{refl, subst}
use Rattle.access_facts.proofs.RowLemmas.{image_is_inside}
use Rattle.rounds.proofs.RoundLemmas.{of_image}
use Rattle.round_answers.specs.declared.question.Question.{Question}
use Rattle.round_answers.specs.Questions.{HasAll}
use Rattle.round_answers.proofs.NodeLemmas.{values_there}
use Rattle.round_answers.proofs.answer.own_text.Goals as goal

pub values_there-requires : goal.values_there-requires
values_there-requires c =
    values_there c.args.image.now c.args.settings.now c.args.round.now c.in-Values.at c.requires.round
    (subst (λ (question : Question). HasAll c.args.round.now question) c.in-Values.is c.requires.present).0

pub locations_text-requires : goal.locations_text-requires
locations_text-requires c =
    let r = c.args.round.now in
    record {
      inside = image_is_inside c.args.image.now.segments r.cells.image c.requires.image.segments (of_image c.args.image.now c.args.settings.now r.lane r.number r.cells r.cells c.requires.round.cells refl);
    }
