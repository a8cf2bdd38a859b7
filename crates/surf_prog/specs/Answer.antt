-- The steps of a request: what a reply and a refusal say.
use Rattle.std.specs.Prelude.{◌≡◌, ◌↔◌, ℕ, ◌≤◌, true, Bool, Some, List, length, Option, IfSome, IsTrue, Result, Ok, Err, if◌then◌else◌}
use Rattle.surf_base.specs.Faults.{Rose}
use Rattle.surf_base.specs.Shelf.{IsLonger}
use Rattle.image_map.specs.declared.image.Image.{Image}
use Rattle.image_map.specs.Queries.{is_code}
use Rattle.round_answers.specs.declared.answer.Answer.{Answer}
use Rattle.round_answers.specs.declared.asked.NoRound.{NoRound}
use Rattle.round_answers.specs.declared.asked.NoRound.TheVariants as round
use Rattle.round_answers.specs.declared.answer.NoAnswer.{NoAnswer}
use Rattle.round_answers.specs.declared.answer.NoAnswer.TheVariants as answer
use Rattle.surf_prog.specs.declared.request.NoReply.{NoReply}
use Rattle.surf_prog.specs.declared.request.NoReply.TheVariants as none
use Rattle.surf_prog.specs.declared.refusal.Refusal.{Refusal}
use Rattle.surf_prog.specs.declared.refusal.Refusal.TheVariants as refusal
use Rattle.surf_prog.specs.declared.words.Query.{Query}
use Rattle.surf_prog.specs.declared.words.Task.{Task}
use Rattle.surf_prog.specs.Entry.{entry_place, IsNoEntry}
use Rattle.surf_prog.specs.Words.{Asks}
use Rattle.command_words.specs.declared.line.Entry.{Entry}
use Rattle.command_words.specs.declared.line.WordsError.{WordsError}
use Rattle.command_words.specs.declared.line.WordsError.TheVariants as words
use Rattle.surf_prog.specs.Once.{image_limit, RepliesAt, WarnsAt, BehindAt, AbsentAt, IsReply, IsWarned, IsBehind, IsAbsent, LacksEntry, HasNoImage, OfImage, AsksNothing, words_line, shelf_line, too_long_line, image_line, entry_line, round_line, absent_line, output_line, memory_line}

-- what an image that is entered at a place answers to a task, or why it doesn't
abbrev pub TellsAt : Image → ℕ → Task → Result Answer NoReply → Type 0
TellsAt image place asked (Ok answer) = RepliesAt image place asked answer.text.items × (IsTrue answer.is_warned ↔ WarnsAt image place asked)
TellsAt image place asked (Err (none.Round n)) = BehindAt image place asked n
TellsAt image place asked (Err (none.Absent at)) = AbsentAt image place asked at
TellsAt image place asked (Err none.Memory) = Unit {0}
TellsAt image place asked (Err other) = ⊥

-- what a file answers
abbrev pub Tells : List ℕ → Query → Result Answer NoReply → Type 0
Tells file query (Ok answer) = OfImage file (λ image. IsReply image query answer.text.items × (IsTrue answer.is_warned ↔ IsWarned image query))
Tells file query (Err (none.Image cause)) = HasNoImage file cause
Tells file query (Err none.Entry) = OfImage file (λ image. LacksEntry image query)
Tells file query (Err (none.Round n)) = OfImage file (λ image. IsBehind image query n)
Tells file query (Err (none.Absent at)) = OfImage file (λ image. IsAbsent image query at)
Tells file query (Err none.Memory) = Unit {0}

-- why a file has no image
abbrev pub IsNoImage : List ℕ → NoReply → Type 0
IsNoImage file (none.Image cause) = HasNoImage file cause
IsNoImage file none.Memory = Unit {0}
IsNoImage file other = ⊥

-- where an image is entered, or that it isn't
abbrev pub FindsEntry : Image → Option Entry → Result ℕ NoReply → Type 0
FindsEntry image entry (Ok place) = (entry_place image entry ≡ Some place) × (is_code image place ≡ true)
FindsEntry image entry (Err none.Entry) = IsNoEntry image entry
FindsEntry image entry (Err other) = ⊥

-- why there is no reply, where there is no round or no answer
abbrev pub no_round : NoRound → NoReply
no_round (round.Behind n) = none.Round n
no_round round.Memory = none.Memory

abbrev pub no_answer : NoAnswer → NoReply
no_answer (answer.Absent at) = none.Absent at
no_answer answer.Memory = none.Memory

-- the refusal of words that weren't read
abbrev pub words_refusal : WordsError → Refusal
words_refusal words.Refused = refusal.Words
words_refusal words.Memory = refusal.Memory

-- the refusal of a file that doesn't answer
abbrev pub refusal_of : NoReply → Refusal
refusal_of (none.Image cause) = refusal.Image cause
refusal_of none.Entry = refusal.Entry
refusal_of (none.Round n) = refusal.Round n
refusal_of (none.Absent at) = refusal.Absent at
refusal_of none.Memory = refusal.Memory

-- what holds of the query that is asked for
pub record Asked (words : List (List ℕ)) (P : List ℕ → Query → Type 0) : Type 0 where
  pub name : List ℕ
  pub query : Query
  pub asks : Asks words name query
  pub fact : P name query

-- of the file, where it is told: it is within the limit, and this holds of it
abbrev pub OfFile : Option (List ℕ) → (List ℕ → Type 0) → Type 0
OfFile file P = IfSome file (λ bytes. (length bytes ≤ image_limit) × P bytes)

-- the same of its image
abbrev pub OfFileImage : Option (List ℕ) → (Image → Type 0) → Type 0
OfFileImage file P = OfFile file (λ bytes. OfImage bytes P)

-- How a request ends, before a refusal is told: the files of the shelf, its counts of faults before and after, the output
-- before and after, what holds of a text that it took whole or up to a fault, and its counts.
abbrev pub Answers : List (List ℕ) → (List ℕ → Option (List ℕ)) → (List ℕ → ℕ) → (List ℕ → ℕ) → Option (List ℕ) → Option (List ℕ)
    → (List ℕ → Type 0) → (List ℕ → Type 0) → ℕ → ℕ → Result Bool Refusal → Type 0
Answers words files before now old new Whole Stops faults_before faults_now (Ok is_warned) =
    Asked words (λ name query. (text : List ℕ) × OfFileImage (files name) (λ image. IsReply image query text × (IsTrue is_warned ↔ IsWarned image query)) × Whole text)
Answers words files before now old new Whole Stops faults_before faults_now (Err refusal.Words) = AsksNothing words × (new ≡ old)
Answers words files before now old new Whole Stops faults_before faults_now (Err (refusal.Shelf told)) =
    Asked words (λ name query. (name ≡ told) × Rose (before name) (now name)) × (new ≡ old)
Answers words files before now old new Whole Stops faults_before faults_now (Err (refusal.TooLong told)) =
    Asked words (λ name query. (name ≡ told) × IsLonger (files name) image_limit) × (new ≡ old)
Answers words files before now old new Whole Stops faults_before faults_now (Err (refusal.Image cause)) =
    Asked words (λ name query. OfFile (files name) (λ file. HasNoImage file cause)) × (new ≡ old)
Answers words files before now old new Whole Stops faults_before faults_now (Err refusal.Entry) =
    Asked words (λ name query. OfFileImage (files name) (λ image. LacksEntry image query)) × (new ≡ old)
Answers words files before now old new Whole Stops faults_before faults_now (Err (refusal.Round n)) =
    Asked words (λ name query. OfFileImage (files name) (λ image. IsBehind image query n)) × (new ≡ old)
Answers words files before now old new Whole Stops faults_before faults_now (Err (refusal.Absent at)) =
    Asked words (λ name query. OfFileImage (files name) (λ image. IsAbsent image query at)) × (new ≡ old)
Answers words files before now old new Whole Stops faults_before faults_now (Err refusal.Output) =
    Asked words (λ name query. (text : List ℕ) × OfFileImage (files name) (λ image. IsReply image query text) × Stops text) × Rose faults_before faults_now
Answers words files before now old new Whole Stops faults_before faults_now (Err refusal.Memory) = new ≡ old

abbrev pub line_of : Refusal → List ℕ
line_of refusal.Words = words_line
line_of (refusal.Shelf name) = shelf_line name
line_of (refusal.TooLong name) = too_long_line name
line_of (refusal.Image cause) = image_line cause
line_of refusal.Entry = entry_line
line_of (refusal.Round n) = round_line n
line_of (refusal.Absent at) = absent_line at
line_of refusal.Output = output_line
line_of refusal.Memory = memory_line

abbrev pub status_of : Refusal → ℕ
status_of refusal.Words = 2
status_of (refusal.Shelf name) = 3
status_of (refusal.TooLong name) = 3
status_of (refusal.Image cause) = 4
status_of refusal.Entry = 5
status_of (refusal.Round n) = 5
status_of (refusal.Absent at) = 5
status_of refusal.Output = 6
status_of refusal.Memory = 7

-- the status of a reply
abbrev pub answered : Bool → ℕ
answered is_warned = if is_warned then 1 else 0
