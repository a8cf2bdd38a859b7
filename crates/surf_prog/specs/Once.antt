-- What one request answers: its causes, its text, and its line on the error sink. The project's own.
use Rattle.std.specs.Prelude.{◌≡◌, ◌≢◌, ◌⊎◌, ℕ, true, false, List, [], ◌∷◌, ◌++◌, codes, Option, None, Some, IfSome}
use Rattle.std.specs.List.{flat_map}
use Rattle.std.specs.Fmt.{decimal}
use Rattle.surf_base.specs.Hex.{hex8_text}
use Rattle.surf_base.specs.Sink.{Appends, AppendsPart}
use Rattle.surf_base.specs.Faults.{Rose}
use Rattle.image_map.specs.declared.image.Image.{Image}
use Rattle.image_map.specs.declared.region.Settings.{Settings}
use Rattle.image_map.specs.Queries.{is_code}
use Rattle.elf32.specs.declared.error.ElfError.{ElfError}
use Rattle.elf32.specs.declared.error.ElfError.TheVariants as errors
use Rattle.elf32.specs.Loading.{failure, Loads}
use Rattle.rounds.specs.declared.round.Round.{Round}
use Rattle.round_answers.specs.declared.question.Question.{Question}
use Rattle.round_answers.specs.Asked.{IsAsked, IsBehindLast}
use Rattle.round_answers.specs.Questions.{IsAbsentIn, HasAll}
use Rattle.round_answers.specs.Replies.{is_warned, IsReply as IsReplyOf}
use Rattle.surf_prog.specs.declared.words.Plan.{Plan}
use Rattle.surf_prog.specs.declared.words.Query.{Query}
use Rattle.surf_prog.specs.declared.words.Task.{Task}
use Rattle.surf_prog.specs.declared.words.Task.TheVariants as task
use Rattle.surf_prog.specs.Entry.{Enters, IsNoEntry}
use Rattle.surf_prog.specs.Settings.{settings_of}
use Rattle.surf_prog.specs.Listing.{IsTheListing}
use Rattle.surf_prog.specs.Tracing.{IsTracing, NeverComes, Comes}
use Rattle.surf_prog.specs.Words.{Asks, request_of}

-- the greatest length of a file that is read
abbrev pub image_limit : ℕ
image_limit = 16777216

-- -- What an image answers that is entered at a place

abbrev pub planned : Image → ℕ → Plan → Settings
planned image place plan = settings_of image place plan.rounds plan.externs

-- the round that is asked for
abbrev pub IsPlanned : Image → ℕ → Plan → Round → Type 0
IsPlanned image place plan round = IsAsked image (planned image place plan) plan.choice round

-- The text is the reply to this question on the round that is asked for. (That of a round with warnings ends with them.)
pub record IsRoundReply (image : Image) (place : ℕ) (plan : Plan) (question : Question) (text : List ℕ) : Type 0 where
  pub round : Round
  pub is_planned : IsPlanned image place plan round
  pub told : IsReplyOf image (planned image place plan) round question text

-- there is such a round, and what the question names is there
pub record HasAnswer (image : Image) (place : ℕ) (plan : Plan) (question : Question) : Type 0 where
  pub round : Round
  pub is_planned : IsPlanned image place plan round
  pub present : HasAll round question

-- a list begins at the address that was named, or where the program is entered
abbrev pub first_place : ℕ → Option ℕ → ℕ
first_place place None = place
first_place place (Some at) = at

-- the text lists the instructions from the first place on, which is code, and no other text does
abbrev pub IsListReply : Image → ℕ → Option ℕ → ℕ → List ℕ → Type 0
IsListReply image place from steps text = (is_code image (first_place place from) ≡ true) × IsTheListing image (first_place place from) steps text

-- the text is the reply to a task
abbrev pub RepliesAt : Image → ℕ → Task → List ℕ → Type 0
RepliesAt image place (task.Ask plan question) text = IsRoundReply image place plan question text
RepliesAt image place (task.List from steps) text = IsListReply image place from steps text
RepliesAt image place (task.Trace options) text = IsTracing image place options text

-- there is a reply
abbrev pub AnswersAt : Image → ℕ → Task → Type 0
AnswersAt image place (task.Ask plan question) = HasAnswer image place plan question
AnswersAt image place (task.List from steps) = is_code image (first_place place from) ≡ true
AnswersAt image place (task.Trace options) = Comes image place options

-- the round that is asked for has warnings
abbrev pub WarnsAt : Image → ℕ → Task → Type 0
WarnsAt image place (task.Ask plan question) = (round : Round) × IsPlanned image place plan round × (is_warned round ≡ true)
WarnsAt image place other = ⊥

-- the round of this number was asked for, which comes after the last
abbrev pub BehindAt : Image → ℕ → Task → ℕ → Type 0
BehindAt image place (task.Ask plan question) n = (plan.choice.round ≡ Some n) × IsBehindLast image (planned image place plan) plan.choice.lane n
BehindAt image place other n = ⊥

-- no node of the round has this address, which the question names (where it names two, this is the first without a node); or a list was
-- to begin at this address, which isn't code; or a run never comes to it
abbrev pub AbsentAt : Image → ℕ → Task → ℕ → Type 0
AbsentAt image place (task.Ask plan question) at = (round : Round) × IsPlanned image place plan round × IsAbsentIn round question at
AbsentAt image place (task.List from steps) at = (from ≡ Some at) × (is_code image at ≡ false)
AbsentAt image place (task.Trace options) at = NeverComes image place options at

-- -- What it answers that is entered as it was asked

-- this holds of the place in code where the image is entered
pub record AtEntry (image : Image) (query : Query) (P : ℕ → Type 0) : Type 0 where
  pub place : ℕ
  pub enters : Enters image query.entry place
  pub fact : P place

abbrev pub IsReply : Image → Query → List ℕ → Type 0
IsReply image query text = AtEntry image query (λ place. RepliesAt image place query.task text)

abbrev pub HasReply : Image → Query → Type 0
HasReply image query = AtEntry image query (λ place. AnswersAt image place query.task)

abbrev pub IsWarned : Image → Query → Type 0
IsWarned image query = AtEntry image query (λ place. WarnsAt image place query.task)

abbrev pub IsBehind : Image → Query → ℕ → Type 0
IsBehind image query n = AtEntry image query (λ place. BehindAt image place query.task n)

abbrev pub IsAbsent : Image → Query → ℕ → Type 0
IsAbsent image query at = AtEntry image query (λ place. AbsentAt image place query.task at)

abbrev pub LacksEntry : Image → Query → Type 0
LacksEntry image query = IsNoEntry image query.entry

-- what is asked for isn't there: the image isn't entered in code, the round comes after the last, or an address is absent
abbrev pub LacksReply : Image → Query → Type 0
LacksReply image query = LacksEntry image query ⊎ (((n : ℕ) × IsBehind image query n) ⊎ ((at : ℕ) × IsAbsent image query at))

-- -- What a file answers

-- the file has no image: this check is the first that fails
abbrev pub HasNoImage : List ℕ → ElfError → Type 0
HasNoImage file cause = failure file ≡ Some cause

-- This holds of the file's image. (What images of one file show is the same: their entry, code, bytes and externs.)
pub record OfImage (file : List ℕ) (P : Image → Type 0) : Type 0 where
  pub image : Image
  pub loads : Loads file image
  pub fact : P image

-- -- What is told on the error sink

-- the line was appended, or some beginning of it where the count of faults rose
abbrev pub TellsLine : Option (List ℕ) → Option (List ℕ) → ℕ → ℕ → List ℕ → Type 0
TellsLine old new before now line = Appends old new line ⊎ (AppendsPart old new line × Rose before now)

-- the lines of the refusals
abbrev pub words_line : List ℕ
words_line = codes "surf: words" ++ 10 ∷ []

abbrev pub shelf_line : List ℕ → List ℕ
shelf_line name = codes "surf: shelf " ++ (name ++ 10 ∷ [])

abbrev pub too_long_line : List ℕ → List ℕ
too_long_line name = codes "surf: too long " ++ (name ++ (codes " 16777216" ++ 10 ∷ []))

-- the name of a failing check, and its numbers
abbrev pub cause_name : ElfError → List ℕ
cause_name (errors.Short n) = codes "Short"
cause_name errors.Magic = codes "Magic"
cause_name errors.Class = codes "Class"
cause_name errors.Machine = codes "Machine"
cause_name errors.Kind = codes "Kind"
cause_name (errors.Header i) = codes "Header"
cause_name (errors.Overlap j i) = codes "Overlap"
cause_name (errors.Range i) = codes "Range"
cause_name (errors.WritableCode i) = codes "WritableCode"
cause_name (errors.Relocation index kind) = codes "Relocation"
cause_name errors.TooMany = codes "TooMany"
cause_name errors.Memory = codes "Memory"

abbrev pub cause_numbers : ElfError → List ℕ
cause_numbers (errors.Short n) = n ∷ []
cause_numbers (errors.Header i) = i ∷ []
cause_numbers (errors.Overlap j i) = j ∷ i ∷ []
cause_numbers (errors.Range i) = i ∷ []
cause_numbers (errors.WritableCode i) = i ∷ []
cause_numbers (errors.Relocation index kind) = index ∷ kind ∷ []
cause_numbers other = []

-- numbers, each after a space
abbrev pub numbers_text : List ℕ → List ℕ
numbers_text numbers = flat_map (λ n. 32 ∷ decimal n) numbers

abbrev pub numbered_line : List ℕ → List ℕ → List ℕ
numbered_line name numbers = codes "surf: image " ++ (name ++ (numbers_text numbers ++ 10 ∷ []))

abbrev pub image_line : ElfError → List ℕ
image_line cause = numbered_line (cause_name cause) (cause_numbers cause)

abbrev pub entry_line : List ℕ
entry_line = codes "surf: absent entry" ++ 10 ∷ []

abbrev pub round_line : ℕ → List ℕ
round_line n = codes "surf: absent round " ++ (decimal n ++ 10 ∷ [])

abbrev pub absent_line : ℕ → List ℕ
absent_line at = codes "surf: absent " ++ (hex8_text at ++ 10 ∷ [])

abbrev pub output_line : List ℕ
output_line = codes "surf: output" ++ 10 ∷ []

abbrev pub memory_line : List ℕ
memory_line = codes "surf: memory" ++ 10 ∷ []

-- -- The clauses of a request

-- the file was read: it was come to, and neither the shelf nor memory failed
abbrev pub WasRead : ℕ → Type 0
WasRead status = (status ≢ 2) × (status ≢ 3) × (status ≢ 7)

-- the whole reply was written
abbrev pub IsAnswered : ℕ → Type 0
IsAnswered status = (status ≡ 0) ⊎ (status ≡ 1)

-- for the name and the query that the words ask for
abbrev pub ForAsked : List (List ℕ) → (List ℕ → Query → Type 0) → Type 0
ForAsked words P = (name : List ℕ) (query : Query) → Asks words name query → P name query

-- the words ask for nothing
abbrev pub AsksNothing : List (List ℕ) → Type 0
AsksNothing words = request_of words ≡ None

-- of the file that was asked for, where it is told
abbrev pub OfAskedFile : List (List ℕ) → (List ℕ → Option (List ℕ)) → (List ℕ → Query → Type 0) → Type 0
OfAskedFile words files P = ForAsked words (λ name query. IfSome (files name) (λ file. P file query))

-- this holds of the reply that is asked for: that of the file's image
abbrev pub WritesReply : List (List ℕ) → (List ℕ → Option (List ℕ)) → (List ℕ → Type 0) → Type 0
WritesReply words files Written = OfAskedFile words files (λ file query. OfImage file (λ image. (text : List ℕ) × IsReply image query text × Written text))

-- a status is one of these
abbrev pub IsStatus : ℕ → Type 0
IsStatus status = (status ≡ 0) ⊎ ((status ≡ 1) ⊎ ((status ≡ 2) ⊎ ((status ≡ 3) ⊎ ((status ≡ 4) ⊎ ((status ≡ 5) ⊎ ((status ≡ 6) ⊎ (status ≡ 7)))))))

-- at every status but 0, 1 and 6 the output is as it was
abbrev pub WritesNothing : ℕ → Option (List ℕ) → Option (List ℕ) → Type 0
WritesNothing status old new = ¬ IsAnswered status → status ≢ 6 → new ≡ old

-- What was appended to the error sink: the line of the status and its cause, or some beginning of it, and nothing where the whole reply
-- was written. (The two lines of status 3 stand with their causes.) Each cause is that of the file, where it is told.
pub record ErrorLines (words : List (List ℕ)) (files : List ℕ → Option (List ℕ)) (status : ℕ) (old new : Option (List ℕ)) (before now : ℕ) : Type 0 where
  pub silent : IsAnswered status → new ≡ old
  pub words_told : status ≡ 2 → TellsLine old new before now words_line
  pub image_told : status ≡ 4 → ForAsked words (λ name query. (cause : ElfError) × IfSome (files name) (λ file. HasNoImage file cause) × TellsLine old new before now (image_line cause))
  pub absent_told : status ≡ 5 → ForAsked words (λ name query.
      (IfSome (files name) (λ file. OfImage file (λ image. LacksEntry image query)) × TellsLine old new before now entry_line)
      ⊎ (((n : ℕ) × IfSome (files name) (λ file. OfImage file (λ image. IsBehind image query n)) × TellsLine old new before now (round_line n))
      ⊎ ((at : ℕ) × IfSome (files name) (λ file. OfImage file (λ image. IsAbsent image query at)) × TellsLine old new before now (absent_line at))))
  pub output_told : status ≡ 6 → TellsLine old new before now output_line
  pub memory_told : status ≡ 7 → TellsLine old new before now memory_line
