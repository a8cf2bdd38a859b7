-- The lines of a file, one after another.
use Rattle.std.proofs.Common.{◌≡◌, inl, inr, ℕ, zero, suc, ◌+◌, ◌-◌, ◌≤◌, List, [], ◌∷◌, ◌++◌, length, take, refl, sym, ap, ◌∙◌, subst, arith, append_assoc, length-append}
use Rattle.std.specs.Prelude.{true, false, Option, Some, None, is_some, Result, Ok, Err}
use Rattle.std.proofs.lemmas.Bool.{false≢true}
use Rattle.item_list.proofs.OptionLaws.{some_there}
use Rattle.std.proofs.lemmas.List.{append-nil}
use Rattle.image_map.specs.declared.image.Image.{Image}
use Rattle.image_map.specs.declared.region.Settings.{Settings}
use Rattle.image_map.specs.Whole.{IsImage}
use Rattle.ia32_semantics.specs.State.{State}
use Rattle.ia32_semantics.specs.Machine.{Occurrence}
use Rattle.ia32_semantics.specs.Step.{Act}
use Rattle.ia32_machine.specs.declared.machine.Machine.{Machine}
use Rattle.ia32_machine.specs.Machines.{state_of, start_state, RunsImage}
use Rattle.ia32_run.specs.declared.log.Occurrence.{Occurrence as Told}
use Rattle.ia32_run.specs.declared.log.RunLog.{RunLog}
use Rattle.ia32_run.specs.declared.log.Finish.{Finish}
use Rattle.ia32_run.specs.declared.log.Made.{Made}
use Rattle.ia32_run.specs.declared.writers.Writers.{Writers}
use Rattle.ia32_run.specs.Writers.{KnowsWriters}
use Rattle.ia32_run.proofs.TraceLemmas.{tells_run}
use Rattle.surf_base.specs.Sink.{lines_of}
use Rattle.replay.specs.Lines.{IsStartLine}
use Rattle.replay.specs.Replayed.{finish_or_limit, Goes, Replays, TellRun, IsReplay, FailsAt}
use Rattle.replay.proofs.LineLemmas.{one_start}
use Rattle.replay.specs.Steps.{NoStepBy}
use Rattle.replay.specs.declared.file.ReplayError.{ReplayError}
use Rattle.replay.specs.declared.file.ReplayError.TheVariants as errors
use Rattle.replay.proofs.KeptLemmas.{Kept, NoRun, Next, kept_start, kept_more, stopped, completed}

-- after so many lines, of which the others are left
pub record Resumes (image : Image) (settings : Settings) (words text rest : List ℕ) (count : ℕ) (machine : Machine) (writers : Writers) (steps : List Told) (ended : Option Finish) : Type 0 where
  pub done : List (List ℕ)
  pub split : lines_of text ≡ done ++ lines_of rest
  pub count_is : length done ≡ count
  pub kept : Kept image settings (start_state image settings words) done (state_of machine) writers steps ended
  pub room : count + length rest ≤ length text
  pub runs : RunsImage image machine
  pub slot : machine.slot ≡ 0xBFF0000C

no_lines : (xs : List ℕ) → length xs ≡ 0 → lines_of xs ≡ []
unfolding lines_of
no_lines [] e = refl
no_lines (x ∷ xs) e = absurd (omega arith)

-- -- A whole file

-- lines that begin with these words go by the others
inverted : (image : Image) (settings : Settings) (first words : List ℕ) (others : List (List ℕ)) → IsStartLine first words → TellRun image settings (first ∷ others) → (run : List (Occurrence Act)) × (end : Finish) × Goes image settings (start_state image settings words) others run end
inverted image settings first words others form (run, end, r) =
    let firsts : r.first ≡ first = same_first r.first first r.others others (sym r.lines_are) in
    let rests : r.others ≡ others = same_rest r.first first r.others others (sym r.lines_are) in
    let same : r.words ≡ words = one_start first r.words words (subst (λ l. IsStartLine l r.words) firsts r.form) form in
    (run, end, subst (λ w. Goes image settings (start_state image settings w) others run end) same (subst (λ ls. Goes image settings (start_state image settings r.words) ls run end) rests r.goes))
  where
    head_or : List (List ℕ) → List ℕ → List ℕ
    head_or [] d = d
    head_or (x ∷ xs) d = x

    tail_of : List (List ℕ) → List (List ℕ)
    tail_of [] = []
    tail_of (x ∷ xs) = xs

    same_first : (x y : List ℕ) (xs ys : List (List ℕ)) → (x ∷ xs) ≡ (y ∷ ys) → x ≡ y
    same_first x y xs ys e = ap (λ l. head_or l x) e

    same_rest : (x y : List ℕ) (xs ys : List (List ℕ)) → (x ∷ xs) ≡ (y ∷ ys) → xs ≡ ys
    same_rest x y xs ys e = ap tail_of e

take_front : (xs ys : List (List ℕ)) (n : ℕ) → n ≡ length xs → take n (xs ++ ys) ≡ xs
take_front [] ys zero is = refl
take_front [] ys (suc n) is = absurd (omega arith)
take_front (x ∷ xs) ys zero is = absurd (omega arith)
take_front (x ∷ xs) ys (suc n) is = ap (λ l. x ∷ l) (take_front xs ys n (omega arith))

tells_by : (image : Image) (settings : Settings) (first words : List ℕ) (others : List (List ℕ)) (run : List (Occurrence Act)) (end : Finish) → IsStartLine first words → Goes image settings (start_state image settings words) others run end → TellRun image settings (first ∷ others)
tells_by image settings first words others run end form goes = (run, end, record { first = first; others = others; lines_are = refl; words = words; form = form; goes = goes })

module _ (image : Image) (settings : Settings) (words text rest : List ℕ) (count : ℕ) (machine : Machine) (writers : Writers) (steps : List Told) (ended : Option Finish) (r : Resumes image settings words text rest count machine writers steps ended) where
  -- the next line fails, and it is the first that does
  pub fails_here : (line after : List ℕ) → lines_of rest ≡ line ∷ lines_of after → NoRun image settings (start_state image settings words) (r.done ++ line ∷ []) → (first bytes : List ℕ) → IsStartLine first words → lines_of bytes ≡ first ∷ lines_of text → FailsAt image settings (lines_of bytes) (count + 2)
  fails_here line after next none first bytes form begins =
      let counted = r.count_is in
      let whole : lines_of bytes ≡ (first ∷ r.done ++ line ∷ []) ++ lines_of after = begins ∙ ap (λ ls. first ∷ ls) (r.split ∙ ap (λ ls. r.done ++ ls) next ∙ sym (append_assoc r.done (line ∷ []) (lines_of after))) in
      let shorter : lines_of bytes ≡ (first ∷ r.done) ++ (line ∷ lines_of after) = begins ∙ ap (λ ls. first ∷ ls) (r.split ∙ ap (λ ls. r.done ++ ls) next) in
      let long = length-append r.done (line ∷ []) in
      let upto : take (count + 2) (lines_of bytes) ≡ first ∷ (r.done ++ line ∷ []) = ap (take (count + 2)) whole ∙ take_front (first ∷ (r.done ++ line ∷ [])) (lines_of after) (count + 2) (omega arith) in
      let before : take (count + 2 - 1) (lines_of bytes) ≡ first ∷ r.done = ap (take (count + 2 - 1)) shorter ∙ take_front (first ∷ r.done) (line ∷ lines_of after) (count + 2 - 1) (omega arith) in
      record {
        some = omega arith;
        before = inr (subst (λ ls. TellRun image settings ls) (sym before) (tells_by image settings first words r.done r.kept.run (finish_or_limit ended) form r.kept.goes));
        fails = λ tell. let goes = inverted image settings first words (r.done ++ line ∷ []) form (subst (λ ls. TellRun image settings ls) upto tell) in none goes.0 goes.1 goes.2;
      }

  -- no line is left
  pub replayed : length rest ≡ 0 → (first bytes : List ℕ) → IsStartLine first words → lines_of bytes ≡ first ∷ lines_of text → IsReplay image settings bytes (record { steps = steps; finish = finish_or_limit ended })
  replayed none first bytes form begins =
      let all : lines_of text ≡ r.done = r.split ∙ ap (λ ls. r.done ++ ls) (no_lines rest none) ∙ append-nil r.done in
      record {
        run = r.kept.run;
        replays = record { first = first; others = r.done; lines_are = begins ∙ ap (λ ls. first ∷ ls) all; words = words; form = form; goes = r.kept.goes };
        tells = tells_run image settings r.kept.run steps r.kept.tells;
      }

-- -- The first line

pub fails_first : (image : Image) (settings : Settings) (lines : List (List ℕ)) → ((first : List ℕ) (others : List (List ℕ)) → lines ≡ first ∷ others → (words : List ℕ) → ¬ IsStartLine first words) → FailsAt image settings lines 1
fails_first image settings lines none = record {
  some = omega arith;
  before = inl refl;
  fails = λ tell. stuck lines none tell.2;
}
  where
    stuck : (ls : List (List ℕ)) → ((first : List ℕ) (others : List (List ℕ)) → ls ≡ first ∷ others → (words : List ℕ) → ¬ IsStartLine first words) → {run : List (Occurrence Act)} {end : Finish} → ¬ Replays image settings (take 1 ls) run end
    stuck [] n r = absurd (let long : length (take {A = List ℕ} 1 []) ≡ length (r.first ∷ r.others) = ap (λ (l : List (List ℕ)). length l) r.lines_are in omega arith)
    stuck (l ∷ ls) n r = n l ls refl r.words (subst (λ x. IsStartLine x r.words) (sym (head_is l r.first r.others r.lines_are)) r.form)
      where
        head_or : List (List ℕ) → List ℕ → List ℕ
        head_or [] d = d
        head_or (x ∷ xs) d = x

        head_is : (x y : List ℕ) (ys : List (List ℕ)) → (x ∷ []) ≡ (y ∷ ys) → x ≡ y
        head_is x y ys e = ap (λ l. head_or l x) e

-- a file without a line
pub fails_empty : (image : Image) (settings : Settings) (bytes : List ℕ) → length bytes ≡ 0 → FailsAt image settings (lines_of bytes) 1
fails_empty image settings bytes none = fails_first image settings (lines_of bytes) (λ first others is words form. absurd (let long : length (lines_of bytes) ≡ length (first ∷ others) = ap (λ (l : List (List ℕ)). length l) is in let empty : length (lines_of bytes) ≡ 0 = ap (λ (l : List (List ℕ)). length l) (no_lines bytes none) in omega arith))

-- a first line that tells no start
pub fails_start : (image : Image) (settings : Settings) (bytes line : List ℕ) (others : List (List ℕ)) → lines_of bytes ≡ line ∷ others → ((words : List ℕ) → ¬ IsStartLine line words) → FailsAt image settings (lines_of bytes) 1
fails_start image settings bytes line others begins none = fails_first image settings (lines_of bytes) (λ first rest is words form. none words (subst (λ l. IsStartLine l words) (head_is first line rest others (sym is ∙ begins)) form))
  where
    head_or : List (List ℕ) → List ℕ → List ℕ
    head_or [] d = d
    head_or (x ∷ xs) d = x

    head_is : (x y : List ℕ) (xs ys : List (List ℕ)) → (x ∷ xs) ≡ (y ∷ ys) → x ≡ y
    head_is x y xs ys e = ap (λ l. head_or l x) e

-- -- The loop

has_none : (o : Option Finish) → is_some o ≡ false → o ≡ None
has_none None e = refl
has_none (Some f) e = absurd (false≢true (sym e))

pub resumes_start : (image : Image) (settings : Settings) (words text : List ℕ) (machine : Machine) (writers : Writers) (steps : List Told) (ended : Option Finish) → state_of machine ≡ start_state image settings words → KnowsWriters writers [] → steps ≡ [] → ended ≡ None → RunsImage image machine
    → Resumes image settings words text text 0 machine writers steps ended
resumes_start image settings words text machine writers steps ended is knows none going runs = record {
  done = [];
  split = refl;
  count_is = refl;
  kept = kept_start image settings (start_state image settings words) (state_of machine) writers steps ended is knows none going;
  room = omega arith;
  runs = runs;
  slot = ap (λ (s : State). s.slot) is;
}

module _ (image : Image) (settings : Settings) (words text rest : List ℕ) (count : ℕ) (machine : Machine) (writers : Writers) (steps : List Told) (ended : Option Finish) (r : Resumes image settings words text rest count machine writers steps ended)
    (line after : List ℕ) (next : lines_of rest ≡ line ∷ lines_of after) where
  -- a line behind one that completed the run
  pub fails_over : is_some ended ≡ true → (first bytes : List ℕ) → IsStartLine first words → lines_of bytes ≡ first ∷ lines_of text → FailsAt image settings (lines_of bytes) (count + 2)
  fails_over over =
      let f = some_there ended over in
      fails_here image settings words text rest count machine writers steps ended r line after next
      (completed image settings (start_state image settings words) r.done line (state_of machine) writers steps f.0 (subst (λ e. Kept image settings (start_state image settings words) r.done (state_of machine) writers steps e) f.1 r.kept))

  going : is_some ended ≡ false → Kept image settings (start_state image settings words) r.done (state_of machine) writers steps None
  going on = subst (λ e. Kept image settings (start_state image settings words) r.done (state_of machine) writers steps e) (has_none ended on) r.kept

  -- a line that tells no step
  pub fails_by : IsImage image → is_some ended ≡ false → NoStepBy image settings line (state_of machine) → (first bytes : List ℕ) → IsStartLine first words → lines_of bytes ≡ first ∷ lines_of text → FailsAt image settings (lines_of bytes) (count + 2)
  fails_by whole on none =
      fails_here image settings words text rest count machine writers steps ended r line after next
      (stopped image settings whole (start_state image settings words) r.done line (state_of machine) writers steps (going on) none)

  steps_long : length steps ≡ count
  steps_long = (tells_run image settings r.kept.run steps r.kept.tells).long ∙ r.kept.long ∙ r.count_is

  pub resumes_more : IsImage image → is_some ended ≡ false → length rest ≡ length line + length after → 1 ≤ length line
      → (machine_ : Machine) (writers_ : Writers) (made : Made) (t : Told) (steps_ : List Told) → Next image settings line count (state_of machine) (state_of machine_) writers writers_ made t → steps_ ≡ steps ++ t ∷ []
      → RunsImage image machine_ → machine_.slot ≡ 0xBFF0000C → Resumes image settings words text after (count + 1) machine_ writers_ steps_ made.finish
  resumes_more whole on sum some machine_ writers_ made t steps_ n are runs slot =
      let room = r.room in
      record {
        done = r.done ++ line ∷ [];
        split = r.split ∙ ap (λ ls. r.done ++ ls) next ∙ sym (append_assoc r.done (line ∷ []) (lines_of after));
        count_is = length-append r.done (line ∷ []) ∙ ap (λ m. m + 1) r.count_is;
        kept = kept_more image settings whole (start_state image settings words) r.done line (state_of machine) writers steps (going on) (state_of machine_) writers_ made t count steps_long n steps_ are;
        room = omega arith;
        runs = runs;
        slot = slot;
      }

-- an error names one line
pub same_line : (a b : ℕ) → ◌≡◌ {A = Result RunLog ReplayError} (Err (errors.Line a)) (Err (errors.Line b)) → a ≡ b
same_line a b e = ap number e
  where
    number : Result RunLog ReplayError → ℕ
    number (Ok log) = 0
    number (Err (errors.Line n)) = n
    number (Err errors.Memory) = 0
