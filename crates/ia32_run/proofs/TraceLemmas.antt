-- The run of a loop of steps: its beginning, one step more, and its end.
use Rattle.std.proofs.Common.{◌≡◌, inl, inr, ℕ, zero, suc, ◌+◌, ◌*◌, ◌-◌, ◌<◌, ◌≤◌, List, [], ◌∷◌, ◌++◌, length, take, drop, refl, sym, ap, ◌∙◌, subst, append_assoc, length-append, arith}
use Rattle.std.specs.Prelude.{Bool, true, false, ◌&&◌, if◌then◌else◌, slice_get, Option, Some, None}
use Rattle.std.proofs.lemmas.Bool.{false≢true}
use Rattle.std.proofs.lemmas.List.{append-nil}
use Rattle.std.proofs.lemmas.Option.{none-some, same_Some}
use Rattle.image_map.specs.declared.image.Image.{Image}
use Rattle.image_map.specs.declared.region.Settings.{Settings}
use Rattle.ia32_semantics.specs.State.{State}
use Rattle.ia32_semantics.specs.Machine.{Occurrence}
use Rattle.ia32_semantics.specs.Runs.{stands_at, Goes as RunGoes}
use Rattle.ia32_semantics.specs.Outcome.{is_in_stack, is_below}
use Rattle.ia32_semantics.specs.Step.{Act, completes, reads, writes}
use Rattle.ia32_semantics.specs.Ia32.{machine}
use Rattle.ia32_machine.specs.Machines.{start_state}
use Rattle.ia32_machine.specs.Touches.{IsTouched}
use Rattle.ia32_run.specs.declared.log.Occurrence.{Occurrence as Told}
use Rattle.ia32_run.specs.declared.log.Finish.{Finish}
use Rattle.ia32_run.specs.declared.log.Finish.TheVariants as finish
use Rattle.ia32_run.specs.declared.log.Made.{Made}
use Rattle.ia32_run.specs.declared.writers.Writers.{Writers}
use Rattle.ia32_run.specs.Writers.{KnowsWriters, ListsSources, ForgetsBelow}
use Rattle.ia32_run.specs.Traces.{finish_of, NoStep, Goes, ListsDirect, TellsRun, IsTrace, TracesAreRuns, IsMade, TellsSources, eight_words}
use Rattle.ia32_run.proofs.WordLemmas.{eight_dropped, left_dropped}
use Rattle.ia32_run.proofs.DependenceLemmas as dependence

-- -- What is told

-- the steps of a run are told, behind others
abbrev pub TellsFrom : List (Occurrence Act) → List (Occurrence Act) → List Told → Type 0
TellsFrom before [] [] = Unit {0}
TellsFrom before [] (t ∷ ts) = ⊥
TellsFrom before (o ∷ rest) [] = ⊥
TellsFrom before (o ∷ rest) (t ∷ ts) = TellsSources before o t × TellsFrom (before ++ o ∷ []) rest ts

pub tells_more : (before run : List (Occurrence Act)) (o : Occurrence Act) (steps : List Told) (t : Told) → TellsFrom before run steps → TellsSources (before ++ run) o t
    → TellsFrom before (run ++ o ∷ []) (steps ++ t ∷ [])
tells_more before [] o [] t tells one = (subst (λ b. TellsSources b o t) (append-nil before) one, tt)
tells_more before [] o (u ∷ steps) t tells one = absurd tells
tells_more before (p ∷ run) o [] t tells one = absurd tells
tells_more before (p ∷ run) o (u ∷ steps) t tells one =
    (tells.0, tells_more (before ++ p ∷ []) run o steps t tells.1 (subst (λ b. TellsSources b o t) (sym (append_assoc before (p ∷ []) run)) one))

tells_long : (before run : List (Occurrence Act)) (steps : List Told) → TellsFrom before run steps → length steps ≡ length run
tells_long before [] [] tells = refl
tells_long before [] (t ∷ ts) tells = absurd tells
tells_long before (o ∷ run) [] tells = absurd tells
tells_long before (o ∷ run) (t ∷ ts) tells = ap (λ n. suc n) (tells_long (before ++ o ∷ []) run ts tells.1)

tells_at : (before run : List (Occurrence Act)) (steps : List Told) (j : ℕ) (o : Occurrence Act) (t : Told) → TellsFrom before run steps → slice_get run j ≡ Some o → slice_get steps j ≡ Some t
    → TellsSources (before ++ take j run) o t
tells_at before [] steps j o t tells is_o is_t = absurd (none-some _ is_o)
tells_at before (p ∷ run) [] j o t tells is_o is_t = absurd (none-some _ is_t)
tells_at before (p ∷ run) (u ∷ steps) zero o t tells is_o is_t =
    subst (λ b. TellsSources b o t) (sym (append-nil before)) (subst (λ q. TellsSources before q t) (same_Some p o is_o) (subst (λ v. TellsSources before p v) (same_Some u t is_t) tells.0))
tells_at before (p ∷ run) (u ∷ steps) (suc j) o t tells is_o is_t =
    subst (λ b. TellsSources b o t) (append_assoc before (p ∷ []) (take j run)) (tells_at (before ++ p ∷ []) run steps j o t tells.1 is_o is_t)

direct_of : (image : Image) (settings : Settings) (skip_sp : Bool) (run : List (Occurrence Act)) (j : ℕ) (o : Occurrence Act) (steps : List ℕ) → slice_get run j ≡ Some o
    → ListsSources skip_sp (take j run) o steps → ListsDirect image settings skip_sp run j steps
direct_of image settings skip_sp run j o steps is lists = record {
  rising = lists.rising;
  all = λ i. (
    λ c. (dependence.sources_are_dependences image settings skip_sp run j i o is).1 ((lists.all i).0 c),
    λ d. (lists.all i).1 ((dependence.sources_are_dependences image settings skip_sp run j i o is).0 d),
  );
}

pub tells_run : (image : Image) (settings : Settings) (run : List (Occurrence Act)) (steps : List Told) → TellsFrom [] run steps → TellsRun image settings run steps
tells_run image settings run steps tells = record {
  long = tells_long [] run steps tells;
  each = λ j o t is_o is_t. let one = tells_at [] run steps j o t tells is_o is_t in record {
    at = one.at;
    depends = direct_of image settings false run j o t.depends is_o one.depends;
    depends_skip = direct_of image settings true run j o t.depends_skip is_o one.depends_skip;
  };
}

-- -- The loop

-- after so many steps, of which the last left a state, writers, and all but so many words
pub record Kept (image : Image) (settings : Settings) (words : List ℕ) (most count used : ℕ) (now : State) (writers : Writers) (steps : List Told) : Type 0 where
  pub run : List (Occurrence Act)
  pub forth : (rest : List (Occurrence Act)) (end : Finish) → Goes image settings (most - count) now (drop used words) rest end
      → Goes image settings most (start_state image settings words) (drop 12 words) (run ++ rest) end
  pub long : length run ≡ count
  pub knows : KnowsWriters writers run
  pub tells : TellsFrom [] run steps
  pub room : used ≤ 12 + 8 * count
  pub within : count ≤ most

pub kept_start : (image : Image) (settings : Settings) (words : List ℕ) (most : ℕ) (now : State) (writers : Writers) (steps : List Told) → now ≡ start_state image settings words → KnowsWriters writers [] → steps ≡ []
    → Kept image settings words most 0 12 now writers steps
kept_start image settings words most now writers steps is knows none = record {
  run = [];
  forth = λ rest end goes. let same : most - 0 ≡ most = omega arith in subst (λ n. Goes image settings n (start_state image settings words) (drop 12 words) rest end) same (subst (λ s. Goes image settings (most - 0) s (drop 12 words) rest end) is goes);
  long = refl;
  knows = knows;
  tells = subst (λ ts. TellsFrom [] [] ts) (sym none) tt;
  room = omega arith;
  within = omega arith;
}

-- one step of it
pub record Next (image : Image) (settings : Settings) (words : List ℕ) (most count used : ℕ) (before after : State) (writers new : Writers) (made : Made) (t : Told) : Type 0 where
  pub made_is : IsMade image settings (drop used words) (drop (used + made.out.used) words) made before after
  pub few : made.out.used ≤ 8
  pub more : count < most
  pub noted : (run : List (Occurrence Act)) → length run ≡ count → KnowsWriters writers run → KnowsWriters new (run ++ made_is.o ∷ [])
  pub told : (run : List (Occurrence Act)) → KnowsWriters writers run → TellsSources run made_is.o t

-- from what the parts of a step's code say
pub next_of : (image : Image) (settings : Settings) (words eight : List ℕ) (most count used slot : ℕ) (before after : State) (writers new : Writers) (made : Made) (t : Told)
    → ((rest : List ℕ) → IsMade image settings (eight ++ rest) (drop made.out.used eight ++ rest) made before after) → eight ≡ eight_words words used → used + 8 ≤ length words → made.out.used ≤ 8 → count < most → before.slot ≡ slot
    → ((run : List (Occurrence Act)) (o : Occurrence Act) → length run ≡ count → IsTouched made.out.writes (writes o) → ForgetsBelow slot made.out.forgets o → KnowsWriters writers run → KnowsWriters new (run ++ o ∷ []))
    → ((run : List (Occurrence Act)) (o : Occurrence Act) → IsTouched made.out.reads (reads o) → made.at ≡ stands_at o → KnowsWriters writers run → TellsSources run o t)
    → Next image settings words most count used before after writers new made t
next_of image settings words eight most count used slot before after writers new made t makes is fits few more same note tell =
    let one : IsMade image settings (drop used words) (drop (used + made.out.used) words) made before after
    = subst (λ l. IsMade image settings l (drop (used + made.out.used) words) made before after) (sym (eight_dropped used words fits))
    (subst (λ l. IsMade image settings (eight_words words used ++ drop (used + 8) words) l made before after) (sym (left_dropped used made.out.used words fits few))
    (subst (λ e. IsMade image settings (e ++ drop (used + 8) words) (drop made.out.used e ++ drop (used + 8) words) made before after) is (makes (drop (used + 8) words)))) in
    record {
      made_is = one;
      few = few;
      more = more;
      noted = λ run long knows. note run one.o long one.writes (λ a. one.forgets a ∙ ap (λ n. is_in_stack n a && is_below made.out.forgets a) same) knows;
      told = λ run knows. tell run one.o one.reads (one.at ∙ sym (ap (λ (b : State). b.eip) one.before_is)) knows;
    }

pub if_none : (b : Bool) (f : Finish) → (◌≡◌ {A = Option Finish} None (if b then Some f else None)) → b ≡ false
if_none true f e = absurd (none-some f e)
if_none false f e = refl

pub if_some : (b : Bool) (f g : Finish) → (◌≡◌ {A = Option Finish} (Some g) (if b then Some f else None)) → (b ≡ true) × (g ≡ f)
if_some true f g e = (refl, same_Some g f e)
if_some false f g e = absurd (none-some g (sym e))

module _ (image : Image) (settings : Settings) (words : List ℕ) (most count used : ℕ) (before after : State) (writers new : Writers) (made : Made) (t : Told) (steps : List Told)
    (k : Kept image settings words most count used before writers steps) (n : Next image settings words most count used before after writers new made t) where
  abbrev o : Occurrence Act
  o = n.made_is.o

  left_ : 1 ≤ most - count
  left_ = let a = n.more in omega arith

  told_more : TellsFrom [] (k.run ++ o ∷ []) (steps ++ t ∷ [])
  told_more = tells_more [] k.run o steps t k.tells (n.told k.run k.knows)

  pub kept_more : made.finish ≡ None → (steps_ : List Told) → steps_ ≡ steps ++ t ∷ [] → Kept image settings words most (count + 1) (used + made.out.used) after new steps_
  kept_more going steps_ are =
      let goes_on : completes o ≡ false = if_none (completes o) (finish_of o.act) (sym going ∙ n.made_is.finish) in
      let few = n.few in
      let room = k.room in
      let more = n.more in
      record {
        run = k.run ++ o ∷ [];
        forth = λ rest end goes.
            let same : most - (count + 1) ≡ most - count - 1 = omega arith in
            subst (λ r. Goes image settings most (start_state image settings words) (drop 12 words) r end) (sym (append_assoc k.run (o ∷ []) rest))
            (k.forth (o ∷ rest) end (
              left_,
              n.made_is.before_is,
              drop (used + made.out.used) words,
              n.made_is.makes,
              inr (
                goes_on,
                subst (λ s. Goes image settings (most - count - 1) s (drop (used + made.out.used) words) rest end) (sym n.made_is.after_is)
                    (subst (λ m. Goes image settings m after (drop (used + made.out.used) words) rest end) same goes),
              ),
            ));
        long = length-append k.run (o ∷ []) ∙ ap (λ m. m + 1) k.long;
        knows = n.noted k.run k.long k.knows;
        tells = subst (λ ts. TellsFrom [] (k.run ++ o ∷ []) ts) (sym are) told_more;
        room = omega arith;
        within = omega arith;
      }

  -- the step completes the run
  pub trace_completed : (end : Finish) → made.finish ≡ Some end → (steps_ : List Told) → steps_ ≡ steps ++ t ∷ [] → IsTrace image settings words most (record { steps = steps_; finish = end })
  trace_completed end ended steps_ are =
      let done = if_some (completes o) (finish_of o.act) end (sym ended ∙ n.made_is.finish) in
      record {
        run = k.run ++ o ∷ [];
        goes = k.forth (o ∷ []) end (left_, n.made_is.before_is, drop (used + made.out.used) words, n.made_is.makes, inl (done.0, refl, done.1));
        tells = tells_run image settings (k.run ++ o ∷ []) steps_ (subst (λ ts. TellsFrom [] (k.run ++ o ∷ []) ts) (sym are) told_more);
      }

module _ (image : Image) (settings : Settings) (words : List ℕ) (most count used : ℕ) (now : State) (writers : Writers) (steps : List Told) (k : Kept image settings words most count used now writers steps) where
  ended : (end : Finish) → Goes image settings (most - count) now (drop used words) [] end → IsTrace image settings words most (record { steps = steps; finish = end })
  ended end goes = record {
    run = k.run;
    goes = subst (λ r. Goes image settings most (start_state image settings words) (drop 12 words) r end) (append-nil k.run) (k.forth [] end goes);
    tells = tells_run image settings k.run steps k.tells;
  }

  -- it has as many steps as it may have
  pub trace_limited : most ≤ count → IsTrace image settings words most (record { steps = steps; finish = finish.Limit })
  trace_limited full = ended finish.Limit (inl (omega arith, refl))

  pub trace_faulted : count < most → NoStep image settings now (drop used words) → IsTrace image settings words most (record { steps = steps; finish = finish.Fault })
  trace_faulted more none = ended finish.Fault (inr (omega arith, refl, none))

-- -- It is a run

run_goes : (image : Image) (settings : Settings) (most : ℕ) (words : List ℕ) (run : List (Occurrence Act)) (s : State) (end : Finish) → Goes image settings most s words run end → RunGoes (machine image settings) s run
run_goes image settings most words [] s end goes = tt
run_goes image settings most words (o ∷ rest) s end (some, is, left, makes, inl (done, none, ends)) =
    (is, makes.happens, (λ e. none), subst (λ r. RunGoes (machine image settings) o.after r) (sym none) tt)
run_goes image settings most words (o ∷ rest) s end (some, is, left, makes, inr (on, goes)) =
    (is, makes.happens, (λ e. absurd (let f : true ≡ false = sym e ∙ on in false≢true (sym f))), run_goes image settings (most - 1) left rest o.after end goes)

pub traces_are_runs : TracesAreRuns
traces_are_runs image settings most words run s end starts goes = record { start = s; starts = starts; goes = run_goes image settings most words run s end goes }
