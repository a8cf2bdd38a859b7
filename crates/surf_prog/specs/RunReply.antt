-- What a reply tells of the runs of its image.
use Rattle.std.specs.Prelude.{ℕ, List, Option}
use Rattle.surf_base.specs.Sink.{Appends}
use Rattle.image_map.specs.declared.image.Image.{Image}
use Rattle.reply_soundness.specs.Told.{TellsRuns}
use Rattle.surf_prog.specs.declared.words.Query.{Query}
use Rattle.surf_prog.specs.declared.words.Task.{Task}
use Rattle.surf_prog.specs.declared.words.Task.TheVariants as task
use Rattle.surf_prog.specs.Once.{planned, AtEntry, OfImage, OfAskedFile}

-- The reply to a question on a round tells of each run of the image. (A list names no criterion, and a trace tells of one run alone.)
abbrev pub TellsDependencesAt : Image → ℕ → Task → List ℕ → Type 0
TellsDependencesAt image place (task.Ask plan asked) text = TellsRuns image (planned image place plan) asked text
TellsDependencesAt image place other text = Unit {0}

abbrev pub TellsDependences : Image → Query → List ℕ → Type 0
TellsDependences image query text = AtEntry image query (λ place. TellsDependencesAt image place query.task text)

-- Of the file that was asked for, where it is told: what it tells of the runs of its image was appended.
abbrev pub WritesDependences : List (List ℕ) → (List ℕ → Option (List ℕ)) → Option (List ℕ) → Option (List ℕ) → Type 0
WritesDependences words files old new =
    OfAskedFile words files (λ file query. OfImage file (λ image. (text : List ℕ) × TellsDependences image query text × Appends old new text))
