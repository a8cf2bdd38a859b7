-- What replies about a round tell of runs. The project's own.
use Rattle.std.specs.Prelude.{◌≡◌, ℕ, Bool, List, ◌++◌, slice_get, Some}
use Rattle.image_map.specs.declared.image.Image.{Image}
use Rattle.image_map.specs.declared.region.Settings.{Settings}
use Rattle.ia32_semantics.specs.Dependence.{Depends}
use Rattle.ia32_semantics.specs.Ia32.{machine}
use Rattle.ia32_semantics.specs.Machine.{Occurrence}
use Rattle.ia32_semantics.specs.Runs.{IsRun, stands_at}
use Rattle.ia32_semantics.specs.Step.{Act}
use Rattle.requests.specs.Texts.{address_line, why_text}
use Rattle.rounds.specs.declared.round.Round.{Round}
use Rattle.round_answers.specs.declared.question.Question.{Question}
use Rattle.round_answers.specs.declared.question.Question.TheVariants as asks
use Rattle.round_answers.specs.Replies.{IsReply}
use Rattle.round_soundness.specs.Quiet.{IsQuietRound, DependsOn, LiesOnWay}

-- the text has the line of this address
abbrev pub HasLine : List ℕ → ℕ → Type 0
HasLine text address = (before : List ℕ) × (after : List ℕ) × (text ≡ before ++ (address_line address ++ after))

-- Wherever in a run of the image an occurrence at this address depends on another, the text has the other's line. With skip_sp dependences
-- by ESP are left out.
abbrev pub TellsSources : Image → Settings → Bool → ℕ → List ℕ → Type 0
TellsSources image settings skip_sp at text =
    (run : List (Occurrence Act)) → IsRun (machine image settings) run → (j i : ℕ) (criterion source : Occurrence Act)
    → slice_get run j ≡ Some criterion → stands_at criterion ≡ at → slice_get run i ≡ Some source → Depends (machine image settings) skip_sp run j i → HasLine text (stands_at source)

-- wherever an occurrence depends on one at this address, the text has its line
abbrev pub TellsUsers : Image → Settings → Bool → ℕ → List ℕ → Type 0
TellsUsers image settings skip_sp at text =
    (run : List (Occurrence Act)) → IsRun (machine image settings) run → (to j i : ℕ) → DependsOn (machine image settings) skip_sp run at to j i → HasLine text to

-- wherever an occurrence at the one address depends on one at the other, the text has the line of whatever lies on the way
abbrev pub TellsBetween : Image → Settings → Bool → ℕ → ℕ → List ℕ → Type 0
TellsBetween image settings skip_sp from to text =
    (run : List (Occurrence Act)) → IsRun (machine image settings) run → (j i : ℕ) → DependsOn (machine image settings) skip_sp run from to j i
    → (k : ℕ) (way : LiesOnWay (machine image settings) skip_sp run j i k) → HasLine text (stands_at way.occurrence)

-- the text tells a path of these arrows, in some round
pub record TellsArrows (from to : ℕ) (text : List ℕ) : Type 0 where
  pub arrows : List (Bool × ℕ)
  pub round : ℕ
  pub lane : ℕ
  pub warnings : ℕ
  pub text_is : text ≡ why_text from to round lane (Some arrows) warnings

-- wherever an occurrence at the one address depends on one at the other, the text tells a path
abbrev pub TellsPathOf : Image → Settings → Bool → ℕ → ℕ → List ℕ → Type 0
TellsPathOf image settings skip_sp from to text =
    (run : List (Occurrence Act)) → IsRun (machine image settings) run → (j i : ℕ) → DependsOn (machine image settings) skip_sp run from to j i → TellsArrows from to text

-- what the reply to a question tells of runs; values, locations and graphs name no criterion
abbrev pub TellsRuns : Image → Settings → Question → List ℕ → Type 0
TellsRuns image settings (asks.Slice at skip_sp) text = TellsSources image settings skip_sp at text
TellsRuns image settings (asks.Matched at skip_sp) text = TellsSources image settings skip_sp at text
TellsRuns image settings (asks.Forward at skip_sp) text = TellsUsers image settings skip_sp at text
TellsRuns image settings (asks.Chop from at skip_sp) text = TellsBetween image settings skip_sp from at text
TellsRuns image settings (asks.Why from at skip_sp) text = TellsPathOf image settings skip_sp from at text
TellsRuns image settings other text = Unit {0}

-- Each reply about a round without warnings does so.
abbrev pub RepliesTellRuns : Type 0
RepliesTellRuns =
    (image : Image) (settings : Settings) (r : Round) (question : Question) (text : List ℕ) → IsQuietRound image settings r → IsReply image settings r question text → TellsRuns image settings question text
