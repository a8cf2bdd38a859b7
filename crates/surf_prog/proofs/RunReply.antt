-- A reply without warnings tells of every run of its image.
use Rattle.std.proofs.Common.{◌≡◌, ℕ, true, List, [], ◌∷◌, refl}
use Rattle.image_map.specs.declared.image.Image.{Image}
use Rattle.image_map.specs.Whole.{IsImage}
use Rattle.vsa.specs.declared.warning.Warning.{Warning}
use Rattle.round_answers.specs.Replies.{has_some}
use Rattle.round_soundness.specs.Quiet.{IsQuietRound}
use Rattle.reply_soundness.proofs.ToldLaws.{reply_tells}
use Rattle.surf_prog.specs.declared.words.Query.{Query}
use Rattle.surf_prog.specs.declared.words.Task.{Task}
use Rattle.surf_prog.specs.declared.words.Task.TheVariants as task
use Rattle.surf_prog.specs.Once.{planned, RepliesAt, WarnsAt, IsReply, IsWarned}
use Rattle.surf_prog.specs.RunReply.{TellsDependencesAt, TellsDependences}
use Rattle.surf_prog.proofs.SettingsLaws.{are_settings}

none_there : (warnings : List Warning) → ¬ (has_some warnings ≡ true) → warnings ≡ []
none_there [] calm = refl
none_there (w ∷ ws) calm = absurd (calm refl)

tells_at : (image : Image) (place : ℕ) (asked : Task) (text : List ℕ) → IsImage image → RepliesAt image place asked text → ¬ WarnsAt image place asked → TellsDependencesAt image place asked text
tells_at image place (task.Ask plan asked) text is reply calm =
    let settings = planned image place plan in
    let quiet : IsQuietRound image settings reply.round = record {
      image_is = is;
      settings_are = are_settings image place plan.rounds plan.externs settings refl;
      round_is = reply.is_planned.round;
      none = none_there reply.round.warnings.items (λ warned. calm (reply.round, reply.is_planned, warned));
    } in
    reply_tells image settings reply.round quiet asked text reply.told
tells_at image place (task.List from steps) text is reply calm = tt
tells_at image place (task.Trace options) text is reply calm = tt

-- a reply that warns of nothing tells the dependences of its image's runs
pub tells_dependences : (image : Image) (query : Query) (text : List ℕ) → IsImage image → IsReply image query text → ¬ IsWarned image query → TellsDependences image query text
tells_dependences image query text is reply calm = record {
  place = reply.place;
  enters = reply.enters;
  fact = tells_at image reply.place query.task text is reply.fact (λ warns. calm (record { place = reply.place; enters = reply.enters; fact = warns }));
}
