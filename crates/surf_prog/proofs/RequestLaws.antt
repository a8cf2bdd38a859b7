-- Laws of one request: from how it ends to its clauses.
use Rattle.std.proofs.Common.{◌≡◌, ◌≢◌, ◌⊎◌, inl, inr, ⊎_elim, ℕ, suc, ◌<◌, ◌≤◌, Bool, true, false, List, length, Option, Some, None, Result, Ok, Err, refl, sym, ◌∙◌, ap, subst, arith}
use Rattle.std.specs.Prelude.{◌↔◌, IsTrue}
use Rattle.std.specs.Option.{IfSome}
use Rattle.std.specs.Result.{IsErrAnd}
use Rattle.std.proofs.lemmas.Bool.{false≢true}
use Rattle.std.proofs.lemmas.Option.{same_Some}
use Rattle.image_map.specs.declared.image.Image.{Image}
use Rattle.image_map.specs.Queries.{is_code}
use Rattle.elf32.specs.declared.error.ElfError.{ElfError}
use Rattle.elf32.specs.Loading.{failure, Loads}
use Rattle.surf_base.specs.Faults.{Rose}
use Rattle.surf_base.specs.Shelf.{IsLonger, Gives}
use Rattle.surf_base.specs.Sink.{Appends, WritesLines}
use Rattle.surf_base.proofs.TextLines.{lines_append}
use Rattle.image_map.specs.declared.region.Settings.{Settings}
use Rattle.round_answers.specs.declared.answer.Answer.{Answer}
use Rattle.round_answers.specs.declared.answer.NoAnswer.{NoAnswer}
use Rattle.round_answers.specs.declared.answer.NoAnswer.TheVariants as answers
use Rattle.round_answers.specs.declared.question.Question.{Question}
use Rattle.rounds.specs.declared.round.Round.{Round}
use Rattle.round_answers.specs.Asked.{IsAsked}
use Rattle.round_answers.specs.Questions.{IsNoAnswer}
use Rattle.round_answers.specs.Replies.{is_warned, IsReply as IsReplyOf}
use Rattle.surf_prog.specs.declared.words.Plan.{Plan}
use Rattle.surf_prog.specs.Listing.{IsTheListing}
use Rattle.surf_prog.specs.declared.words.Query.{Query}
use Rattle.surf_prog.specs.declared.words.Request.{Request}
use Rattle.surf_prog.specs.declared.words.Task.{Task}
use Rattle.surf_prog.specs.declared.words.Task.TheVariants as task
use Rattle.surf_prog.specs.declared.request.NoReply.{NoReply}
use Rattle.surf_prog.specs.declared.request.NoReply.TheVariants as none
use Rattle.surf_prog.specs.declared.refusal.Refusal.{Refusal}
use Rattle.surf_prog.specs.declared.refusal.Refusal.TheVariants as refusal
use Rattle.surf_prog.specs.Entry.{Enters}
use Rattle.surf_prog.specs.Once.{image_limit, planned, first_place, IsRoundReply, IsListReply, RepliesAt, AnswersAt, WarnsAt, BehindAt, AbsentAt, AtEntry, IsReply, HasReply, IsWarned, IsBehind, IsAbsent, LacksEntry, LacksReply, HasNoImage, OfImage, TellsLine, WasRead, IsAnswered, ForAsked, OfAskedFile, AsksNothing, WritesReply, IsStatus, WritesNothing, ErrorLines, shelf_line, too_long_line}
use Rattle.surf_prog.specs.Words.{Asks}
use Rattle.surf_prog.specs.Answer.{Asked, OfFile, OfFileImage, TellsAt, Tells, Answers, no_answer, refusal_of, line_of, status_of, answered}
use Rattle.surf_prog.specs.RunReply.{TellsDependences}
use Rattle.surf_prog.proofs.FileImage.{loaded_image, entered_once, not_lacking}
use Rattle.surf_prog.proofs.RunReply.{tells_dependences}
use Rattle.surf_prog.proofs.OneTrace.{trace_comes, run_comes}
use Rattle.surf_prog.proofs.RoundLaws.{round_replies, round_in_time, absent_in_time, round_present, one_round_warns}

-- -- What an image answers: one thing at most

-- an image, where there is one, is no missing one
pub loads_passes : (file : List ℕ) (image : Image) (cause : ElfError) → Loads file image → ¬ HasNoImage file cause
loads_passes file image cause loads none = let no : ◌≡◌ {A = Option ElfError} None (Some cause) = sym loads.passes ∙ none in absurd (cc)

-- what holds at an entry is of an image that is entered in code
pub enters_once : (image : Image) (query : Query) (P : ℕ → Type 0) → AtEntry image query P → ¬ LacksEntry image query
enters_once image query P there = not_lacking image query.entry there.place there.enters

-- two things at an entry are at one place
pub at_once : (image : Image) (query : Query) (P Q : ℕ → Type 0) → AtEntry image query P → AtEntry image query Q → (a : ℕ) × P a × Q a
at_once image query P Q p q = (p.place, p.fact, subst Q (sym (entered_once image query.entry p.place q.place p.enters q.enters)) q.fact)

at_entry : (image : Image) (query : Query) (P Q : ℕ → Type 0) → ((a : ℕ) → P a → Q a) → AtEntry image query P → AtEntry image query Q
at_entry image query P Q f p = record { place = p.place; enters = p.enters; fact = f p.place p.fact }

answers_at : (image : Image) (place : ℕ) (asked : Task) (text : List ℕ) → RepliesAt image place asked text → AnswersAt image place asked
answers_at image place (task.Ask plan question) text reply = round_replies image place plan question text reply
answers_at image place (task.List from steps) text reply = reply.0
answers_at image place (task.Trace options) text reply = trace_comes image place options text reply

pub has_reply : (image : Image) (query : Query) (text : List ℕ) → IsReply image query text → HasReply image query
has_reply image query text reply = at_entry image query _ _ (λ place r. answers_at image place query.task text r) reply

answers_in_time : (image : Image) (place : ℕ) (asked : Task) (n : ℕ) → AnswersAt image place asked → ¬ BehindAt image place asked n
answers_in_time image place (task.Ask plan question) n has behind = round_in_time image place plan question n has behind
answers_in_time image place (task.List from steps) n has behind = behind
answers_in_time image place (task.Trace options) n has behind = behind

pub reply_in_time : (image : Image) (query : Query) (n : ℕ) → HasReply image query → ¬ IsBehind image query n
reply_in_time image query n has behind = let both = at_once image query _ _ has behind in answers_in_time image both.0 query.task n both.1 both.2

lacks_in_time : (image : Image) (place : ℕ) (asked : Task) (n at : ℕ) → AbsentAt image place asked at → ¬ BehindAt image place asked n
lacks_in_time image place (task.Ask plan question) n at absent behind = absent_in_time image place plan question n at absent behind
lacks_in_time image place (task.List from steps) n at absent behind = behind
lacks_in_time image place (task.Trace options) n at absent behind = behind

pub absence_in_time : (image : Image) (query : Query) (n at : ℕ) → IsAbsent image query at → ¬ IsBehind image query n
absence_in_time image query n at absent behind = let both = at_once image query _ _ absent behind in lacks_in_time image both.0 query.task n at both.1 both.2

list_present : (image : Image) (place : ℕ) (from : Option ℕ) (at : ℕ) → AnswersAt image place (task.List from 0) → from ≡ Some at → is_code image at ≡ false → ⊥
list_present image place None at has is none = absurd (cc)
list_present image place (Some a) at has is none = false≢true (sym none ∙ ap (is_code image) (sym (same_Some a at is)) ∙ has)

answers_present : (file : List ℕ) (image : Image) (place : ℕ) (asked : Task) (at : ℕ) → Loads file image → AnswersAt image place asked → ¬ AbsentAt image place asked at
answers_present file image place (task.Ask plan question) at loads has absent = round_present image place plan question at has absent
answers_present file image place (task.List from steps) at loads has absent = list_present image place from at has absent.0 absent.1
answers_present file image place (task.Trace options) at loads has absent = run_comes file options image place at loads has absent

pub reply_present : (file : List ℕ) (image : Image) (query : Query) (at : ℕ) → Loads file image → HasReply image query → ¬ IsAbsent image query at
reply_present file image query at loads has absent = let both = at_once image query _ _ has absent in answers_present file image both.0 query.task at loads both.1 both.2

-- where there is a reply, nothing lacks
pub nothing_lacks : (file : List ℕ) (image : Image) (query : Query) → Loads file image → HasReply image query → ¬ LacksReply image query
nothing_lacks file image query loads has (inl entry) = enters_once image query _ has entry
nothing_lacks file image query loads has (inr (inl behind)) = reply_in_time image query behind.0 has behind.1
nothing_lacks file image query loads has (inr (inr absent)) = reply_present file image query absent.0 loads has absent.1

-- -- Words and files

-- what holds of the bytes that were read holds of the file, where it is told
pub of_file : (o : Option (List ℕ)) (bytes : List ℕ) (P : List ℕ → Type 0) → Gives o bytes → length bytes ≤ image_limit → P bytes → OfFile o P
of_file None bytes P gives short p = tt
of_file (Some file) bytes P gives short p = (subst (λ (l : List ℕ). length l ≤ image_limit) gives short, subst P gives p)

-- words ask for something or nothing, and for one thing
asks_something : (words : List (List ℕ)) (name : List ℕ) (query : Query) → Asks words name query → ¬ AsksNothing words
asks_something words name query asks none = let no : ◌≡◌ {A = Option Request} None (Some (record { name = name; query = query })) = sym none ∙ asks in absurd (cc)

one_request : (words : List (List ℕ)) (name other : List ℕ) (t u : Query) → Asks words name t → Asks words other u → (name ≡ other) × (t ≡ u)
one_request words name other t u p q =
    let requests : ◌≡◌ {A = Request} (record { name = name; query = t }) (record { name = other; query = u }) = same_Some _ _ (sym p ∙ q) in
    (ap (λ (r : Request). r.name) requests, ap (λ (r : Request). r.query) requests)

pub asked_fact : (words : List (List ℕ)) (P : List ℕ → Query → Type 0) → Asked words P → ForAsked words P
asked_fact words P a name query asks =
    let same = one_request words a.name name a.query query a.asks asks in
    subst (λ n. P n query) same.0 (subst (λ b. P a.name b) same.1 a.fact)

pub if_told : (o : Option (List ℕ)) (P Q : List ℕ → Type 0) → ((file : List ℕ) → P file → Q file) → IfSome o P → IfSome o Q
if_told None P Q f p = tt
if_told (Some file) P Q f p = f file p

-- another thing of the file's image
of_image : (file : List ℕ) (P Q : Image → Type 0) → ((image : Image) → Loads file image → P image → Q image) → OfImage file P → OfImage file Q
of_image file P Q f p = record { image = p.image; loads = p.loads; fact = f p.image p.loads p.fact }

-- what a file answers that was read, and with what status
pub record Facts (status : ℕ) (file : List ℕ) (query : Query) : Type 0 where
  pub within : length file ≤ image_limit
  pub image : (status ≡ 4) ↔ ((cause : ElfError) × HasNoImage file cause)
  pub lacks : failure file ≡ None → OfImage file (λ image. (status ≡ 5) ↔ LacksReply image query)

replied : (status : ℕ) (file : List ℕ) (query : Query) → status ≢ 4 → status ≢ 5 → length file ≤ image_limit → OfImage file (λ image. HasReply image query) → Facts status file query
replied status file query not_four not_five short has = record {
  within = short;
  image = ((λ four. absurd (not_four four)), (λ none. absurd (loads_passes file has.image none.0 has.loads none.1)));
  lacks = λ passes. of_image file _ _ (λ image loads has. ((λ five. absurd (not_five five)), (λ lacks. absurd (nothing_lacks file image query loads has lacks)))) has;
}

no_image : (status : ℕ) (file : List ℕ) (query : Query) (cause : ElfError) → status ≡ 4 → length file ≤ image_limit → HasNoImage file cause → Facts status file query
no_image status file query cause is short none = record {
  within = short;
  image = ((λ four. (cause, none)), (λ found. is));
  lacks = λ passes. let no : ◌≡◌ {A = Option ElfError} None (Some cause) = sym passes ∙ none in absurd (cc);
}

no_reply : (status : ℕ) (file : List ℕ) (query : Query) → status ≡ 5 → length file ≤ image_limit → OfImage file (λ image. LacksReply image query) → Facts status file query
no_reply status file query is short lacks = record {
  within = short;
  image = ((λ four. absurd (omega arith)), (λ none. absurd (loads_passes file lacks.image none.0 lacks.loads none.1)));
  lacks = λ passes. of_image file _ _ (λ image loads lacks. ((λ five. lacks), (λ lacks. is))) lacks;
}

pub answered_asked : (warned : Bool) (status : ℕ) → status ≡ answered warned → IsAnswered status
answered_asked true status is = inr is
answered_asked false status is = inl is

not_four : (warned : Bool) (status : ℕ) → status ≡ answered warned → status ≢ 4
not_four true status is = omega arith
not_four false status is = omega arith

not_five : (warned : Bool) (status : ℕ) → status ≡ answered warned → status ≢ 5
not_five true status is = omega arith
not_five false status is = omega arith

pub answered_is : (status n : ℕ) → IsAnswered status → status ≡ suc (suc n) → ⊥
answered_is status n (inl zero_is) is = omega arith
answered_is status n (inr one) is = omega arith

module _ (words : List (List ℕ)) (files : List ℕ → Option (List ℕ)) (before now : List ℕ → ℕ) (old new : Option (List ℕ)) (Whole Stops : List ℕ → Type 0) (faults faults_now : ℕ) where
  abbrev Ended : Result Bool Refusal → Type 0
  Ended r = Answers words files before now old new Whole Stops faults faults_now r

  abbrev status_in : Result Bool Refusal → ℕ
  status_in (Ok warned) = answered warned
  status_in (Err e) = status_of e

  pub statuses_hold : (r : Result Bool Refusal) (status : ℕ) → status ≡ status_in r → IsStatus status
  statuses_hold (Ok false) status is = inl is
  statuses_hold (Ok true) status is = inr (inl is)
  statuses_hold (Err refusal.Words) status is = inr (inr (inl is))
  statuses_hold (Err (refusal.Shelf told)) status is = inr (inr (inr (inl is)))
  statuses_hold (Err (refusal.TooLong told)) status is = inr (inr (inr (inl is)))
  statuses_hold (Err (refusal.Image cause)) status is = inr (inr (inr (inr (inl is))))
  statuses_hold (Err refusal.Entry) status is = inr (inr (inr (inr (inr (inl is)))))
  statuses_hold (Err (refusal.Round n)) status is = inr (inr (inr (inr (inr (inl is)))))
  statuses_hold (Err (refusal.Absent at)) status is = inr (inr (inr (inr (inr (inl is)))))
  statuses_hold (Err refusal.Output) status is = inr (inr (inr (inr (inr (inr (inl is))))))
  statuses_hold (Err refusal.Memory) status is = inr (inr (inr (inr (inr (inr (inr is))))))

  -- the whole reply was written, or there was a refusal
  pub refused_ends : (e : Refusal) (status : ℕ) → status ≡ status_of e → ¬ IsAnswered status
  refused_ends refusal.Words status is done = ⊎_elim (λ (zero : status ≡ 0). omega arith) (λ (one : status ≡ 1). omega arith) done
  refused_ends (refusal.Shelf told) status is done = ⊎_elim (λ (zero : status ≡ 0). omega arith) (λ (one : status ≡ 1). omega arith) done
  refused_ends (refusal.TooLong told) status is done = ⊎_elim (λ (zero : status ≡ 0). omega arith) (λ (one : status ≡ 1). omega arith) done
  refused_ends (refusal.Image cause) status is done = ⊎_elim (λ (zero : status ≡ 0). omega arith) (λ (one : status ≡ 1). omega arith) done
  refused_ends refusal.Entry status is done = ⊎_elim (λ (zero : status ≡ 0). omega arith) (λ (one : status ≡ 1). omega arith) done
  refused_ends (refusal.Round n) status is done = ⊎_elim (λ (zero : status ≡ 0). omega arith) (λ (one : status ≡ 1). omega arith) done
  refused_ends (refusal.Absent at) status is done = ⊎_elim (λ (zero : status ≡ 0). omega arith) (λ (one : status ≡ 1). omega arith) done
  refused_ends refusal.Output status is done = ⊎_elim (λ (zero : status ≡ 0). omega arith) (λ (one : status ≡ 1). omega arith) done
  refused_ends refusal.Memory status is done = ⊎_elim (λ (zero : status ≡ 0). omega arith) (λ (one : status ≡ 1). omega arith) done

  abbrev AnswersOf : Bool → List ℕ → Query → Type 0
  AnswersOf warned name query = (text : List ℕ) × OfFileImage (files name) (λ image. IsReply image query text × (IsTrue warned ↔ IsWarned image query)) × Whole text

  pub text_holds : (r : Result Bool Refusal) (status : ℕ) → status ≡ status_in r → Ended r → IsAnswered status → WritesReply words files Whole
  text_holds (Ok warned) status is a done = λ name query asks.
      let fact = asked_fact words (AnswersOf warned) a name query asks in
      if_told (files name) _ _ (λ file both. of_image file _ _ (λ image loads reply. (fact.0, reply.0, fact.2)) both.1) fact.1
  text_holds (Err e) status is a done = absurd (refused_ends e status is done)

  warned_status : (warned : Bool) (status : ℕ) (P : Type 0) → status ≡ answered warned → (IsTrue warned ↔ P) → (status ≡ 1) ↔ P
  warned_status true status P is warns = ((λ one. warns.0 refl), (λ p. is))
  warned_status false status P is warns = ((λ one. absurd (omega arith)), (λ p. absurd (false≢true (warns.1 p))))

  pub warned_holds : (r : Result Bool Refusal) (status : ℕ) → status ≡ status_in r → Ended r → IsAnswered status → OfAskedFile words files (λ file query. OfImage file (λ image. (status ≡ 1) ↔ IsWarned image query))
  warned_holds (Ok warned) status is a done = λ name query asks.
      let fact = asked_fact words (AnswersOf warned) a name query asks in
      if_told (files name) _ _ (λ file both. of_image file _ _ (λ image loads reply. warned_status warned status (IsWarned image query) is reply.1) both.1) fact.1
  warned_holds (Err e) status is a done = absurd (refused_ends e status is done)

  -- a status of 0 is that of a reply that warns of nothing
  dependences_of : (warned : Bool) (status : ℕ) → status ≡ answered warned → status ≡ 0 → Ended (Ok warned) → OfAskedFile words files (λ file query. OfImage file (λ image. (text : List ℕ) × TellsDependences image query text × Whole text))
  dependences_of true status is zero_is a = absurd (omega arith)
  dependences_of false status is zero_is a = λ name query asks.
      let fact = asked_fact words (AnswersOf false) a name query asks in
      if_told (files name) _ _ (λ file both. of_image file _ _ (λ image loads reply. (fact.0, tells_dependences image query fact.0 (loaded_image file image loads) reply.0 (λ warns. false≢true (reply.1.1 warns)), fact.2)) both.1) fact.1

  pub dependences_hold : (r : Result Bool Refusal) (status : ℕ) → status ≡ status_in r → Ended r → status ≡ 0 → OfAskedFile words files (λ file query. OfImage file (λ image. (text : List ℕ) × TellsDependences image query text × Whole text))
  dependences_hold (Ok warned) status is a zero_is = dependences_of warned status is zero_is a
  dependences_hold (Err e) status is a zero_is = absurd (refused_ends e status is (inl zero_is))

  pub bad_words_hold : (r : Result Bool Refusal) (status : ℕ) → status ≡ status_in r → Ended r → status ≡ 2 → AsksNothing words
  bad_words_hold (Ok false) status is a two = absurd (omega arith)
  bad_words_hold (Ok true) status is a two = absurd (omega arith)
  bad_words_hold (Err refusal.Words) status is a two = a.0
  bad_words_hold (Err (refusal.Shelf told)) status is a two = absurd (omega arith)
  bad_words_hold (Err (refusal.TooLong told)) status is a two = absurd (omega arith)
  bad_words_hold (Err (refusal.Image cause)) status is a two = absurd (omega arith)
  bad_words_hold (Err refusal.Entry) status is a two = absurd (omega arith)
  bad_words_hold (Err (refusal.Round n)) status is a two = absurd (omega arith)
  bad_words_hold (Err (refusal.Absent at)) status is a two = absurd (omega arith)
  bad_words_hold (Err refusal.Output) status is a two = absurd (omega arith)
  bad_words_hold (Err refusal.Memory) status is a two = absurd (omega arith)

  pub nothing_asked_holds : (r : Result Bool Refusal) (status : ℕ) → status ≡ status_in r → Ended r → AsksNothing words → (status ≡ 2) ⊎ (status ≡ 7)
  nothing_asked_holds (Ok false) status is a none = absurd (asks_something words a.name a.query a.asks none)
  nothing_asked_holds (Ok true) status is a none = absurd (asks_something words a.name a.query a.asks none)
  nothing_asked_holds (Err refusal.Words) status is a none = inl is
  nothing_asked_holds (Err (refusal.Shelf told)) status is a none = absurd (asks_something words a.0.name a.0.query a.0.asks none)
  nothing_asked_holds (Err (refusal.TooLong told)) status is a none = absurd (asks_something words a.0.name a.0.query a.0.asks none)
  nothing_asked_holds (Err (refusal.Image cause)) status is a none = absurd (asks_something words a.0.name a.0.query a.0.asks none)
  nothing_asked_holds (Err refusal.Entry) status is a none = absurd (asks_something words a.0.name a.0.query a.0.asks none)
  nothing_asked_holds (Err (refusal.Round n)) status is a none = absurd (asks_something words a.0.name a.0.query a.0.asks none)
  nothing_asked_holds (Err (refusal.Absent at)) status is a none = absurd (asks_something words a.0.name a.0.query a.0.asks none)
  nothing_asked_holds (Err refusal.Output) status is a none = absurd (asks_something words a.0.name a.0.query a.0.asks none)
  nothing_asked_holds (Err refusal.Memory) status is a none = inr is

  pub shelf_holds : (e : Refusal) (status : ℕ) (tells : List ℕ → Type 0) → status ≡ status_of e → Ended (Err e) → tells (line_of e) → status ≡ 3
      → ForAsked words (λ name query. (Rose (before name) (now name) × tells (shelf_line name)) ⊎ (IsLonger (files name) image_limit × tells (too_long_line name)))
  shelf_holds (refusal.Shelf told) status tells is a line three = λ name query asks.
      let fact = asked_fact words (λ name query. (name ≡ told) × Rose (before name) (now name)) a.0 name query asks in
      inl (fact.1, subst (λ n. tells (shelf_line n)) (sym fact.0) line)
  shelf_holds (refusal.TooLong told) status tells is a line three = λ name query asks.
      let fact = asked_fact words (λ name query. (name ≡ told) × IsLonger (files name) image_limit) a.0 name query asks in
      inr (fact.1, subst (λ n. tells (too_long_line n)) (sym fact.0) line)
  shelf_holds refusal.Words status tells is a line three = absurd (omega arith)
  shelf_holds (refusal.Image cause) status tells is a line three = absurd (omega arith)
  shelf_holds refusal.Entry status tells is a line three = absurd (omega arith)
  shelf_holds (refusal.Round n) status tells is a line three = absurd (omega arith)
  shelf_holds (refusal.Absent at) status tells is a line three = absurd (omega arith)
  shelf_holds refusal.Output status tells is a line three = absurd (omega arith)
  shelf_holds refusal.Memory status tells is a line three = absurd (omega arith)

  -- the steps after the file is read
  pub file_facts : (r : Result Bool Refusal) (status : ℕ) → status ≡ status_in r → Ended r → WasRead status → OfAskedFile words files (λ file query. Facts status file query)
  file_facts (Ok warned) status is a read = λ name query asks.
      let fact = asked_fact words (AnswersOf warned) a name query asks in
      if_told (files name) _ _ (λ file both. replied status file query (not_four warned status is) (not_five warned status is) both.0 (of_image file _ _ (λ image loads reply. has_reply image query fact.0 reply.0) both.1)) fact.1
  file_facts (Err refusal.Words) status is a read = absurd (read.0 is)
  file_facts (Err (refusal.Shelf told)) status is a read = absurd (read.1 is)
  file_facts (Err (refusal.TooLong told)) status is a read = absurd (read.1 is)
  file_facts (Err (refusal.Image cause)) status is a read = λ name query asks.
      let fact = asked_fact words (λ name query. OfFile (files name) (λ file. HasNoImage file cause)) a.0 name query asks in
      if_told (files name) _ _ (λ file both. no_image status file query cause is both.0 both.1) fact
  file_facts (Err refusal.Entry) status is a read = λ name query asks.
      let fact = asked_fact words (λ name query. OfFileImage (files name) (λ image. LacksEntry image query)) a.0 name query asks in
      if_told (files name) _ _ (λ file both. no_reply status file query is both.0 (of_image file _ _ (λ image loads none. inl none) both.1)) fact
  file_facts (Err (refusal.Round n)) status is a read = λ name query asks.
      let fact = asked_fact words (λ name query. OfFileImage (files name) (λ image. IsBehind image query n)) a.0 name query asks in
      if_told (files name) _ _ (λ file both. no_reply status file query is both.0 (of_image file _ _ (λ image loads behind. inr (inl (n, behind))) both.1)) fact
  file_facts (Err (refusal.Absent at)) status is a read = λ name query asks.
      let fact = asked_fact words (λ name query. OfFileImage (files name) (λ image. IsAbsent image query at)) a.0 name query asks in
      if_told (files name) _ _ (λ file both. no_reply status file query is both.0 (of_image file _ _ (λ image loads absent. inr (inr (at, absent))) both.1)) fact
  file_facts (Err refusal.Output) status is a read = λ name query asks.
      let fact = asked_fact words (λ name query. (text : List ℕ) × OfFileImage (files name) (λ image. IsReply image query text) × Stops text) a.0 name query asks in
      if_told (files name) _ _ (λ file both. replied status file query (omega arith) (omega arith) both.0 (of_image file _ _ (λ image loads reply. has_reply image query fact.0 reply) both.1)) fact.1
  file_facts (Err refusal.Memory) status is a read = absurd (read.2 is)

  pub within_holds : (r : Result Bool Refusal) (status : ℕ) → status ≡ status_in r → Ended r → WasRead status → OfAskedFile words files (λ file query. length file ≤ image_limit)
  within_holds r status is a read = λ name query asks. if_told (files name) _ _ (λ file facts. facts.within) (file_facts r status is a read name query asks)

  pub image_holds : (r : Result Bool Refusal) (status : ℕ) → status ≡ status_in r → Ended r → WasRead status → OfAskedFile words files (λ file query. (status ≡ 4) ↔ ((cause : ElfError) × HasNoImage file cause))
  image_holds r status is a read = λ name query asks. if_told (files name) _ _ (λ file facts. facts.image) (file_facts r status is a read name query asks)

  pub absent_holds : (r : Result Bool Refusal) (status : ℕ) → status ≡ status_in r → Ended r → WasRead status → OfAskedFile words files (λ file query. failure file ≡ None → OfImage file (λ image. (status ≡ 5) ↔ LacksReply image query))
  absent_holds r status is a read = λ name query asks. if_told (files name) _ _ (λ file facts. facts.lacks) (file_facts r status is a read name query asks)

  pub output_holds : (e : Refusal) (status : ℕ) → status ≡ status_of e → Ended (Err e) → status ≡ 6 → Rose faults faults_now
  output_holds refusal.Words status is a six = absurd (omega arith)
  output_holds (refusal.Shelf told) status is a six = absurd (omega arith)
  output_holds (refusal.TooLong told) status is a six = absurd (omega arith)
  output_holds (refusal.Image cause) status is a six = absurd (omega arith)
  output_holds refusal.Entry status is a six = absurd (omega arith)
  output_holds (refusal.Round n) status is a six = absurd (omega arith)
  output_holds (refusal.Absent at) status is a six = absurd (omega arith)
  output_holds refusal.Output status is a six = a.1
  output_holds refusal.Memory status is a six = absurd (omega arith)

  pub part_holds : (e : Refusal) (status : ℕ) → status ≡ status_of e → Ended (Err e) → status ≡ 6 → WritesReply words files Stops
  part_holds refusal.Words status is a six = absurd (omega arith)
  part_holds (refusal.Shelf told) status is a six = absurd (omega arith)
  part_holds (refusal.TooLong told) status is a six = absurd (omega arith)
  part_holds (refusal.Image cause) status is a six = absurd (omega arith)
  part_holds refusal.Entry status is a six = absurd (omega arith)
  part_holds (refusal.Round n) status is a six = absurd (omega arith)
  part_holds (refusal.Absent at) status is a six = absurd (omega arith)
  part_holds refusal.Output status is a six = λ name query asks.
      let fact = asked_fact words (λ name query. (text : List ℕ) × OfFileImage (files name) (λ image. IsReply image query text) × Stops text) a.0 name query asks in
      if_told (files name) _ _ (λ file both. of_image file _ _ (λ image loads reply. (fact.0, reply, fact.2)) both.1) fact.1
  part_holds refusal.Memory status is a six = absurd (omega arith)

  pub untouched_holds : (r : Result Bool Refusal) (status : ℕ) → status ≡ status_in r → Ended r → WritesNothing status old new
  untouched_holds (Ok false) status is a = λ not_done not_six. absurd (not_done (inl is))
  untouched_holds (Ok true) status is a = λ not_done not_six. absurd (not_done (inr is))
  untouched_holds (Err refusal.Words) status is a = λ not_done not_six. a.1
  untouched_holds (Err (refusal.Shelf told)) status is a = λ not_done not_six. a.1
  untouched_holds (Err (refusal.TooLong told)) status is a = λ not_done not_six. a.1
  untouched_holds (Err (refusal.Image cause)) status is a = λ not_done not_six. a.1
  untouched_holds (Err refusal.Entry) status is a = λ not_done not_six. a.1
  untouched_holds (Err (refusal.Round n)) status is a = λ not_done not_six. a.1
  untouched_holds (Err (refusal.Absent at)) status is a = λ not_done not_six. a.1
  untouched_holds (Err refusal.Output) status is a = λ not_done not_six. absurd (not_six is)
  untouched_holds (Err refusal.Memory) status is a = λ not_done not_six. a

  longer : (o : Option (List ℕ)) (file : List ℕ) → o ≡ Some file → IsLonger o image_limit → image_limit < length file
  longer None file is long = absurd (cc)
  longer (Some f) file is long = let same : f ≡ file = cc in subst (λ (l : List ℕ). image_limit < length l) same long

  told_is : (o : Option (List ℕ)) (P : List ℕ → Type 0) → ((file : List ℕ) → o ≡ Some file → P file) → IfSome o P
  told_is None P f = tt
  told_is (Some file) P f = f file refl

  -- what a request comes to of a file that is within the limit and has an image, where no count rose
  abbrev Completes : ℕ → List ℕ → Query → List ℕ → Type 0
  Completes status name query file = length file ≤ image_limit → failure file ≡ None → ¬ Rose (before name) (now name) → ¬ Rose faults faults_now → (status ≡ 7) ⊎ OfImage file (λ image. HasReply image query → IsAnswered status)

  lacking : (status : ℕ) (name file : List ℕ) (query : Query) → OfImage file (λ image. LacksReply image query) → Completes status name query file
  lacking status name file query lacks = λ short passes calm calm_out. inr (of_image file _ _ (λ image loads lacks has. absurd (nothing_lacks file image query loads has lacks)) lacks)

  pub complete_holds : (r : Result Bool Refusal) (status : ℕ) → status ≡ status_in r → Ended r → ForAsked words (λ name query. IfSome (files name) (Completes status name query))
  complete_holds (Ok warned) status is a = λ name query asks.
      let fact = asked_fact words (AnswersOf warned) a name query asks in
      if_told (files name) _ _ (λ file both short passes calm calm_out. inr (of_image file _ _ (λ image loads reply has. answered_asked warned status is) both.1)) fact.1
  complete_holds (Err refusal.Words) status is a = λ name query asks. absurd (asks_something words name query asks a.0)
  complete_holds (Err (refusal.Shelf by)) status is a = λ name query asks.
      let fact = asked_fact words (λ name query. (name ≡ by) × Rose (before name) (now name)) a.0 name query asks in
      told_is (files name) _ (λ file told short passes calm calm_out. absurd (calm fact.1))
  complete_holds (Err (refusal.TooLong by)) status is a = λ name query asks.
      let fact = asked_fact words (λ name query. (name ≡ by) × IsLonger (files name) image_limit) a.0 name query asks in
      told_is (files name) _ (λ file told short passes calm calm_out. let long = longer (files name) file told fact.1 in absurd (omega arith))
  complete_holds (Err (refusal.Image cause)) status is a = λ name query asks.
      let fact = asked_fact words (λ name query. OfFile (files name) (λ file. HasNoImage file cause)) a.0 name query asks in
      if_told (files name) _ _ (λ file both short passes calm calm_out. let no : ◌≡◌ {A = Option ElfError} None (Some cause) = sym passes ∙ both.1 in absurd (cc)) fact
  complete_holds (Err refusal.Entry) status is a = λ name query asks.
      let fact = asked_fact words (λ name query. OfFileImage (files name) (λ image. LacksEntry image query)) a.0 name query asks in
      if_told (files name) _ _ (λ file both. lacking status name file query (of_image file _ _ (λ image loads none. inl none) both.1)) fact
  complete_holds (Err (refusal.Round n)) status is a = λ name query asks.
      let fact = asked_fact words (λ name query. OfFileImage (files name) (λ image. IsBehind image query n)) a.0 name query asks in
      if_told (files name) _ _ (λ file both. lacking status name file query (of_image file _ _ (λ image loads behind. inr (inl (n, behind))) both.1)) fact
  complete_holds (Err (refusal.Absent at)) status is a = λ name query asks.
      let fact = asked_fact words (λ name query. OfFileImage (files name) (λ image. IsAbsent image query at)) a.0 name query asks in
      if_told (files name) _ _ (λ file both. lacking status name file query (of_image file _ _ (λ image loads absent. inr (inr (at, absent))) both.1)) fact
  complete_holds (Err refusal.Output) status is a = λ name query asks. told_is (files name) _ (λ file told short passes calm calm_out. absurd (calm_out a.1))
  complete_holds (Err refusal.Memory) status is a = λ name query asks. told_is (files name) _ (λ file told short passes calm calm_out. inl is)

  -- what was told on the error sink
  pub silent_lines : (status : ℕ) (err err_now : Option (List ℕ)) (err_faults err_faults_now : ℕ) → IsAnswered status → err_now ≡ err → ErrorLines words files status err err_now err_faults err_faults_now
  silent_lines status err err_now err_faults err_faults_now done same = record {
    silent = λ answered. same;
    words_told = λ two. absurd (answered_is status 0 done two);
    image_told = λ four. absurd (answered_is status 2 done four);
    absent_told = λ five. absurd (answered_is status 3 done five);
    output_told = λ six. absurd (answered_is status 4 done six);
    memory_told = λ seven. absurd (answered_is status 5 done seven);
  }

  -- of a file that is told, without its length
  fact_of : (o : Option (List ℕ)) (P : List ℕ → Type 0) → OfFile o P → IfSome o P
  fact_of o P fact = if_told o _ _ (λ file both. both.1) fact

  pub told_lines : (e : Refusal) (status : ℕ) (err err_now : Option (List ℕ)) (err_faults err_faults_now : ℕ) → status ≡ status_of e → Ended (Err e) → TellsLine err err_now err_faults err_faults_now (line_of e) → ErrorLines words files status err err_now err_faults err_faults_now
  told_lines refusal.Words status err err_now err_faults err_faults_now is a line = record {
    silent = λ done. absurd (refused_ends refusal.Words status is done);
    words_told = λ two. line;
    image_told = λ four. absurd (omega arith);
    absent_told = λ five. absurd (omega arith);
    output_told = λ six. absurd (omega arith);
    memory_told = λ seven. absurd (omega arith);
  }
  told_lines (refusal.Shelf told) status err err_now err_faults err_faults_now is a line = record {
    silent = λ done. absurd (refused_ends (refusal.Shelf told) status is done);
    words_told = λ two. absurd (omega arith);
    image_told = λ four. absurd (omega arith);
    absent_told = λ five. absurd (omega arith);
    output_told = λ six. absurd (omega arith);
    memory_told = λ seven. absurd (omega arith);
  }
  told_lines (refusal.TooLong told) status err err_now err_faults err_faults_now is a line = record {
    silent = λ done. absurd (refused_ends (refusal.TooLong told) status is done);
    words_told = λ two. absurd (omega arith);
    image_told = λ four. absurd (omega arith);
    absent_told = λ five. absurd (omega arith);
    output_told = λ six. absurd (omega arith);
    memory_told = λ seven. absurd (omega arith);
  }
  told_lines (refusal.Image cause) status err err_now err_faults err_faults_now is a line = record {
    silent = λ done. absurd (refused_ends (refusal.Image cause) status is done);
    words_told = λ two. absurd (omega arith);
    image_told = λ four name query asks. (cause, fact_of (files name) _ (asked_fact words (λ name query. OfFile (files name) (λ file. HasNoImage file cause)) a.0 name query asks), line);
    absent_told = λ five. absurd (omega arith);
    output_told = λ six. absurd (omega arith);
    memory_told = λ seven. absurd (omega arith);
  }
  told_lines refusal.Entry status err err_now err_faults err_faults_now is a line = record {
    silent = λ done. absurd (refused_ends refusal.Entry status is done);
    words_told = λ two. absurd (omega arith);
    image_told = λ four. absurd (omega arith);
    absent_told = λ five name query asks. inl (fact_of (files name) _ (asked_fact words (λ name query. OfFileImage (files name) (λ image. LacksEntry image query)) a.0 name query asks), line);
    output_told = λ six. absurd (omega arith);
    memory_told = λ seven. absurd (omega arith);
  }
  told_lines (refusal.Round n) status err err_now err_faults err_faults_now is a line = record {
    silent = λ done. absurd (refused_ends (refusal.Round n) status is done);
    words_told = λ two. absurd (omega arith);
    image_told = λ four. absurd (omega arith);
    absent_told = λ five name query asks. inr (inl (n, fact_of (files name) _ (asked_fact words (λ name query. OfFileImage (files name) (λ image. IsBehind image query n)) a.0 name query asks), line));
    output_told = λ six. absurd (omega arith);
    memory_told = λ seven. absurd (omega arith);
  }
  told_lines (refusal.Absent at) status err err_now err_faults err_faults_now is a line = record {
    silent = λ done. absurd (refused_ends (refusal.Absent at) status is done);
    words_told = λ two. absurd (omega arith);
    image_told = λ four. absurd (omega arith);
    absent_told = λ five name query asks. inr (inr (at, fact_of (files name) _ (asked_fact words (λ name query. OfFileImage (files name) (λ image. IsAbsent image query at)) a.0 name query asks), line));
    output_told = λ six. absurd (omega arith);
    memory_told = λ seven. absurd (omega arith);
  }
  told_lines refusal.Output status err err_now err_faults err_faults_now is a line = record {
    silent = λ done. absurd (refused_ends refusal.Output status is done);
    words_told = λ two. absurd (omega arith);
    image_told = λ four. absurd (omega arith);
    absent_told = λ five. absurd (omega arith);
    output_told = λ six. line;
    memory_told = λ seven. absurd (omega arith);
  }
  told_lines refusal.Memory status err err_now err_faults err_faults_now is a line = record {
    silent = λ done. absurd (refused_ends refusal.Memory status is done);
    words_told = λ two. absurd (omega arith);
    image_told = λ four. absurd (omega arith);
    absent_told = λ five. absurd (omega arith);
    output_told = λ six. absurd (omega arith);
    memory_told = λ seven. line;
  }

-- a text that was written line by line was appended
pub appended : {K : Type 0} (written : K → Option (List ℕ)) (faults : K → ℕ) (before after : K) (words : List (List ℕ)) (files : List ℕ → Option (List ℕ)) (Says : Image → Query → List ℕ → Type 0)
    → OfAskedFile words files (λ file query. OfImage file (λ image. (text : List ℕ) × Says image query text × WritesLines written faults before text after))
    → OfAskedFile words files (λ file query. OfImage file (λ image. (text : List ℕ) × Says image query text × Appends (written before) (written after) text))
appended written faults before after words files Says writes name query asks =
    if_told (files name) _ _ (λ file reply. of_image file _ _ (λ image loads told. (told.0, told.1, lines_append written faults before after told.0 told.2)) reply) (writes name query asks)

-- how a request ends whose file answers
pub answered_by : (words : List (List ℕ)) (files : List ℕ → Option (List ℕ)) (before now : List ℕ → ℕ) (old new : Option (List ℕ)) (Whole Stops : List ℕ → Type 0) (faults faults_now : ℕ) (name bytes text written : List ℕ) (query : Query) (warned : Bool)
    → Asks words name query → Gives (files name) bytes → length bytes ≤ image_limit → OfImage bytes (λ image. IsReply image query text × (IsTrue warned ↔ IsWarned image query)) → written ≡ text → Whole written
    → Answers words files before now old new Whole Stops faults faults_now (Ok warned)
answered_by words files before now old new Whole Stops faults faults_now name bytes text written query warned asks gives short reply same whole =
    record { name = name; query = query; asks = asks; fact = (text, of_file (files name) bytes _ gives short reply, subst Whole same whole) }

pub stopped_by : (words : List (List ℕ)) (files : List ℕ → Option (List ℕ)) (before now : List ℕ → ℕ) (old new : Option (List ℕ)) (Whole Stops : List ℕ → Type 0) (faults faults_now : ℕ) (name bytes text written : List ℕ) (query : Query) (warned : Bool)
    → Asks words name query → Gives (files name) bytes → length bytes ≤ image_limit → OfImage bytes (λ image. IsReply image query text × (IsTrue warned ↔ IsWarned image query)) → written ≡ text → Stops written → Rose faults faults_now
    → Answers words files before now old new Whole Stops faults faults_now (Err refusal.Output)
stopped_by words files before now old new Whole Stops faults faults_now name bytes text written query warned asks gives short reply same stops rose =
    (record { name = name; query = query; asks = asks; fact = (text, of_file (files name) bytes _ gives short (of_image bytes _ _ (λ image loads both. both.0) reply), subst Stops same stops) }, rose)

-- how a request ends whose file doesn't answer
refused_by : (words : List (List ℕ)) (files : List ℕ → Option (List ℕ)) (before now : List ℕ → ℕ) (old : Option (List ℕ)) (Whole Stops : List ℕ → Type 0) (faults : ℕ) (name bytes : List ℕ) (query : Query) (why : NoReply)
    → Asks words name query → Gives (files name) bytes → length bytes ≤ image_limit → Tells bytes query (Err why) → Answers words files before now old old Whole Stops faults faults (Err (refusal_of why))
refused_by words files before now old Whole Stops faults name bytes query (none.Image cause) asks gives short fact = (record { name = name; query = query; asks = asks; fact = of_file (files name) bytes _ gives short fact }, refl)
refused_by words files before now old Whole Stops faults name bytes query none.Entry asks gives short fact = (record { name = name; query = query; asks = asks; fact = of_file (files name) bytes _ gives short fact }, refl)
refused_by words files before now old Whole Stops faults name bytes query (none.Round n) asks gives short fact = (record { name = name; query = query; asks = asks; fact = of_file (files name) bytes _ gives short fact }, refl)
refused_by words files before now old Whole Stops faults name bytes query (none.Absent at) asks gives short fact = (record { name = name; query = query; asks = asks; fact = of_file (files name) bytes _ gives short fact }, refl)
refused_by words files before now old Whole Stops faults name bytes query none.Memory asks gives short fact = refl

pub refused : (words : List (List ℕ)) (files : List ℕ → Option (List ℕ)) (before now : List ℕ → ℕ) (old : Option (List ℕ)) (Whole Stops : List ℕ → Type 0) (faults : ℕ) (name bytes : List ℕ) (query : Query) (why : NoReply) (told : Refusal)
    → told ≡ refusal_of why → Asks words name query → Gives (files name) bytes → length bytes ≤ image_limit → Tells bytes query (Err why) → Answers words files before now old old Whole Stops faults faults (Err told)
refused words files before now old Whole Stops faults name bytes query why told is asks gives short replies =
    subst (λ (e : Refusal). Answers words files before now old old Whole Stops faults faults (Err e)) (sym is) (refused_by words files before now old Whole Stops faults name bytes query why asks gives short replies)

warns_there : (image : Image) (place : ℕ) (query : Query) (warned : Bool) → Enters image query.entry place → (IsTrue warned ↔ WarnsAt image place query.task) → IsTrue warned ↔ IsWarned image query
warns_there image place query warned enters warns = (
  (λ yes. record { place = place; enters = enters; fact = warns.0 yes }),
  (λ there. warns.1 (subst (λ a. WarnsAt image a query.task) (entered_once image query.entry there.place place there.enters enters) there.fact)),
)

-- what an image tells that a file has and that is entered at a place, the file tells
pub file_tells : (file : List ℕ) (image : Image) (place : ℕ) (query : Query) (r : Result Answer NoReply) → Loads file image → Enters image query.entry place → TellsAt image place query.task r → Tells file query r
file_tells file image place query (Ok answer) loads enters told = record {
  image = image;
  loads = loads;
  fact = (record { place = place; enters = enters; fact = told.0 }, warns_there image place query answer.is_warned enters told.1);
}
file_tells file image place query (Err (none.Image cause)) loads enters told = absurd told
file_tells file image place query (Err none.Entry) loads enters told = absurd told
file_tells file image place query (Err (none.Round n)) loads enters told = record { image = image; loads = loads; fact = record { place = place; enters = enters; fact = told } }
file_tells file image place query (Err (none.Absent at)) loads enters told = record { image = image; loads = loads; fact = record { place = place; enters = enters; fact = told } }
file_tells file image place query (Err none.Memory) loads enters told = tt

-- -- What a list and a round answer

-- the text of a list that begins in code
pub list_told : (image : Image) (place : ℕ) (from : Option ℕ) (steps first : ℕ) (text whole : List ℕ) (warned : Bool) → first ≡ first_place place from → is_code image first ≡ true → IsTheListing image first steps text → whole ≡ text → warned ≡ false
    → IsListReply image place from steps whole × (IsTrue warned ↔ ⊥)
list_told image place from steps first text whole warned is code lists same calm = (
  (subst (λ a. is_code image a ≡ true) is code, subst (λ t. IsTheListing image (first_place place from) steps t) (sym same) (subst (λ a. IsTheListing image a steps text) is lists)),
  ((λ yes. false≢true (sym calm ∙ yes)), (λ no. absurd no)),
)

-- the reply of the round that was asked for
pub round_told : (image : Image) (place : ℕ) (plan : Plan) (question : Question) (settings : Settings) (round : Round) (text : List ℕ) (warned : Bool) → settings ≡ planned image place plan → IsAsked image settings plan.choice round
    → IsReplyOf image settings round question text → warned ≡ is_warned round → IsRoundReply image place plan question text × (IsTrue warned ↔ WarnsAt image place (task.Ask plan question))
round_told image place plan question settings round text warned is asked reply warns =
    let planned_is = subst (λ (s : Settings). IsAsked image s plan.choice round) is asked in (
      record { round = round; is_planned = planned_is; told = subst (λ (s : Settings). IsReplyOf image s round question text) is reply },
      ((λ yes. (round, planned_is, sym warns ∙ yes)), (λ there. warns ∙ one_round_warns image place plan round there.0 planned_is there.1 there.2)),
    )

-- what it names and hasn't
pub round_lacks : (image : Image) (place : ℕ) (plan : Plan) (question : Question) (settings : Settings) (round : Round) (none : NoAnswer) (why : NoReply) → settings ≡ planned image place plan → IsAsked image settings plan.choice round
    → IsNoAnswer round question none → why ≡ no_answer none → TellsAt image place (task.Ask plan question) (Err why)
round_lacks image place plan question settings round (answers.Absent at) why is asked none same =
    subst (λ (n : NoReply). TellsAt image place (task.Ask plan question) (Err n)) (sym same) (round, subst (λ (s : Settings). IsAsked image s plan.choice round) is asked, none)
round_lacks image place plan question settings round answers.Memory why is asked none same =
    subst (λ (n : NoReply). TellsAt image place (task.Ask plan question) (Err n)) (sym same) tt

pub round_lacks_by : (image : Image) (place : ℕ) (plan : Plan) (question : Question) (settings : Settings) (round : Round) (none : NoAnswer) (result : Result Answer NoReply) → settings ≡ planned image place plan → IsAsked image settings plan.choice round
    → IsNoAnswer round question none → IsErrAnd result (λ why. why ≡ no_answer none) → TellsAt image place (task.Ask plan question) result
round_lacks_by image place plan question settings round none (Err why) is asked lacks same = round_lacks image place plan question settings round none why is asked lacks same
round_lacks_by image place plan question settings round none (Ok answer) is asked lacks same = absurd same
