-- A run that lines tell, line by line.
use Rattle.std.proofs.Common.{◌≡◌, ◌⊎◌, inl, inr, ⊎_elim, ℕ, ◌+◌, List, [], ◌∷◌, ◌++◌, length, refl, sym, ap, ◌∙◌, subst, arith, append_assoc, length-append}
use Rattle.std.specs.Prelude.{true, false, ◌&&◌, if◌then◌else◌, Option, Some, None}
use Rattle.std.proofs.lemmas.Bool.{false≢true}
use Rattle.std.proofs.lemmas.List.{append-nil}
use Rattle.std.proofs.lemmas.Option.{none-some}
use Rattle.image_map.specs.declared.image.Image.{Image}
use Rattle.image_map.specs.declared.region.Settings.{Settings}
use Rattle.image_map.specs.Whole.{IsImage}
use Rattle.ia32_semantics.specs.State.{State}
use Rattle.ia32_semantics.specs.Machine.{Occurrence}
use Rattle.ia32_semantics.specs.Runs.{stands_at}
use Rattle.ia32_semantics.specs.Outcome.{is_in_stack, is_below}
use Rattle.ia32_semantics.specs.Step.{Act, completes, reads, writes}
use Rattle.ia32_machine.specs.Touches.{IsTouched}
use Rattle.ia32_run.specs.declared.log.Occurrence.{Occurrence as Told}
use Rattle.ia32_run.specs.declared.log.Finish.{Finish}
use Rattle.ia32_run.specs.declared.log.Finish.TheVariants as finish
use Rattle.ia32_run.specs.declared.log.Made.{Made}
use Rattle.ia32_run.specs.declared.writers.Writers.{Writers}
use Rattle.ia32_run.specs.Writers.{KnowsWriters, ForgetsBelow}
use Rattle.ia32_run.specs.Traces.{finish_of, TellsSources}
use Rattle.ia32_run.proofs.TraceLemmas.{TellsFrom, tells_more, tells_run, if_none, if_some}
use Rattle.replay.specs.Replayed.{finish_or_limit, TellsStep, Goes}
use Rattle.replay.specs.Steps.{IsMadeBy, NoStepBy}
use Rattle.replay.proofs.StepLemmas.{one_told}

-- From a start these lines tell steps, of which the last left this state, unless it completed the run.
pub record Kept (image : Image) (settings : Settings) (start : State) (done : List (List ℕ)) (now : State) (writers : Writers) (steps : List Told) (ended : Option Finish) : Type 0 where
  pub run : List (Occurrence Act)
  pub long : length run ≡ length done
  pub goes : Goes image settings start done run (finish_or_limit ended)
  pub forth : ended ≡ None → (others : List (List ℕ)) (rest : List (Occurrence Act)) (end : Finish) → Goes image settings now others rest end → Goes image settings start (done ++ others) (run ++ rest) end
  pub back : ended ≡ None → (others : List (List ℕ)) (all : List (Occurrence Act)) (end : Finish) → Goes image settings start (done ++ others) all end → (rest : List (Occurrence Act)) × Goes image settings now others rest end
  pub over : (f : Finish) → ended ≡ Some f → (others : List (List ℕ)) (all : List (Occurrence Act)) (end : Finish) → Goes image settings start (done ++ others) all end → others ≡ []
  pub knows : KnowsWriters writers run
  pub tells : TellsFrom [] run steps

-- no run goes by these lines
abbrev pub NoRun : Image → Settings → State → List (List ℕ) → Type 0
NoRun image settings start lines = (all : List (Occurrence Act)) (end : Finish) → ¬ Goes image settings start lines all end

pub kept_start : (image : Image) (settings : Settings) (start now : State) (writers : Writers) (steps : List Told) (ended : Option Finish) → now ≡ start → KnowsWriters writers [] → steps ≡ [] → ended ≡ None → Kept image settings start [] now writers steps ended
kept_start image settings start now writers steps ended is knows none going = record {
  run = [];
  long = refl;
  goes = (refl, ap finish_or_limit going);
  forth = λ e others rest end goes. subst (λ s. Goes image settings s others rest end) is goes;
  back = λ e others all end goes. (all, subst (λ s. Goes image settings s others all end) (sym is) goes);
  over = λ f e others all end goes. absurd (none-some f (sym going ∙ e));
  knows = knows;
  tells = subst (λ ts. TellsFrom [] [] ts) (sym none) tt;
}

-- what is known of one more step
pub record Next (image : Image) (settings : Settings) (line : List ℕ) (count : ℕ) (before after : State) (writers new : Writers) (made : Made) (t : Told) : Type 0 where
  pub made_by : IsMadeBy image settings line made before after
  pub noted : (run : List (Occurrence Act)) → length run ≡ count → KnowsWriters writers run → KnowsWriters new (run ++ made_by.o ∷ [])
  pub told : (run : List (Occurrence Act)) → KnowsWriters writers run → TellsSources run made_by.o t

pub next_of : (image : Image) (settings : Settings) (line : List ℕ) (count slot : ℕ) (before after : State) (writers new : Writers) (made : Made) (t : Told) → IsMadeBy image settings line made before after → before.slot ≡ slot
    → ((run : List (Occurrence Act)) (o : Occurrence Act) → length run ≡ count → IsTouched made.out.writes (writes o) → ForgetsBelow slot made.out.forgets o → KnowsWriters writers run → KnowsWriters new (run ++ o ∷ []))
    → ((run : List (Occurrence Act)) (o : Occurrence Act) → IsTouched made.out.reads (reads o) → made.at ≡ stands_at o → KnowsWriters writers run → TellsSources run o t)
    → Next image settings line count before after writers new made t
next_of image settings line count slot before after writers new made t one same note tell = record {
  made_by = one;
  noted = λ run long knows. note run one.o long one.writes (λ a. one.forgets a ∙ ap (λ n. is_in_stack n a && is_below made.out.forgets a) same) knows;
  told = λ run knows. tell run one.o one.reads (one.at ∙ sym (ap (λ (b : State). b.eip) one.before_is)) knows;
}

module _ (image : Image) (settings : Settings) (whole : IsImage image) (start : State) (done : List (List ℕ)) (line : List ℕ) (now : State) (writers : Writers) (steps : List Told) (k : Kept image settings start done now writers steps None) where
  -- the line and what comes behind it, by which a run goes
  record Behind (others : List (List ℕ)) (end : Finish) : Type 0 where
    o : Occurrence Act
    rest : List (Occurrence Act)
    before_is : o.before ≡ now
    tells : TellsStep image settings line o
    on : ((completes o ≡ true) × (others ≡ []) × (rest ≡ []) × (end ≡ finish_of o.act)) ⊎ ((completes o ≡ false) × Goes image settings o.after others rest end)

  behind : (others : List (List ℕ)) (all : List (Occurrence Act)) (end : Finish) → Goes image settings start ((done ++ line ∷ []) ++ others) all end → Behind others end
  behind others all end goes =
      let left = k.back refl (line ∷ others) all end (subst (λ ls. Goes image settings start ls all end) (append_assoc done (line ∷ []) others) goes) in
      split left.0 left.1
    where
      split : (rest : List (Occurrence Act)) → Goes image settings now (line ∷ others) rest end → Behind others end
      split [] none = absurd none
      split (o ∷ rest) (is, tells, on) = record { o = o; rest = rest; before_is = is; tells = tells; on = on }

  -- no run goes by a line that tells no step
  pub stopped : NoStepBy image settings line now → NoRun image settings start (done ++ line ∷ [])
  stopped none all end goes =
      let there = behind [] all end (subst (λ ls. Goes image settings start ls all end) (sym (append-nil (done ++ line ∷ []))) goes) in
      none there.o there.before_is there.tells

  module _ (after : State) (new : Writers) (made : Made) (t : Told) (count : ℕ) (long : length steps ≡ count) (n : Next image settings line count now after writers new made t) where
    abbrev o : Occurrence Act
    o = n.made_by.o

    same_step : (others : List (List ℕ)) (end : Finish) → (b : Behind others end) → b.o ≡ o
    same_step others end b = one_told image settings line b.o o whole b.tells n.made_by.tells (b.before_is ∙ sym n.made_by.before_is)

    run_long : length k.run ≡ count
    run_long = sym (tells_count k.run steps k.tells) ∙ long
      where
        tells_count : (run : List (Occurrence Act)) (ts : List Told) → TellsFrom [] run ts → length ts ≡ length run
        tells_count run ts tells = (tells_run image settings run ts tells).long

    goes_by : (others : List (List ℕ)) (rest : List (Occurrence Act)) (end : Finish)
        → ((completes o ≡ true) × (others ≡ []) × (rest ≡ []) × (end ≡ finish_of o.act)) ⊎ ((completes o ≡ false) × Goes image settings o.after others rest end)
        → Goes image settings start ((done ++ line ∷ []) ++ others) ((k.run ++ o ∷ []) ++ rest) end
    goes_by others rest end on =
        subst (λ ls. Goes image settings start ls ((k.run ++ o ∷ []) ++ rest) end) (sym (append_assoc done (line ∷ []) others))
        (subst (λ r. Goes image settings start (done ++ line ∷ others) r end) (sym (append_assoc k.run (o ∷ []) rest))
        (k.forth refl (line ∷ others) (o ∷ rest) end (n.made_by.before_is, n.made_by.tells, on)))

    goes_here : (end : Finish) → ((completes o ≡ true) × (end ≡ finish_of o.act)) ⊎ ((completes o ≡ false) × (end ≡ finish.Limit)) → Goes image settings start (done ++ line ∷ []) (k.run ++ o ∷ []) end
    goes_here end how =
        subst (λ ls. Goes image settings start ls (k.run ++ o ∷ []) end) (append-nil (done ++ line ∷ []))
        (subst (λ r. Goes image settings start ((done ++ line ∷ []) ++ []) r end) (append-nil (k.run ++ o ∷ []))
        (goes_by [] [] end (⊎_elim (λ both. inl (both.0, refl, refl, both.1)) (λ both. inr (both.0, (refl, both.1))) how)))

    how_ended : (ended : Option Finish) → ended ≡ (if completes o then Some (finish_of o.act) else None) → ((completes o ≡ true) × (finish_or_limit ended ≡ finish_of o.act)) ⊎ ((completes o ≡ false) × (finish_or_limit ended ≡ finish.Limit))
    how_ended None is = inr (if_none (completes o) (finish_of o.act) is, refl)
    how_ended (Some f) is = let both = if_some (completes o) (finish_of o.act) f is in inl (both.0, both.1)

    pub kept_more : (steps_ : List Told) → steps_ ≡ steps ++ t ∷ [] → Kept image settings start (done ++ line ∷ []) after new steps_ made.finish
    kept_more steps_ are = record {
      run = k.run ++ o ∷ [];
      long = length-append k.run (o ∷ []) ∙ ap (λ m. m + 1) k.long ∙ sym (length-append done (line ∷ []));
      goes = goes_here (finish_or_limit made.finish) (how_ended made.finish n.made_by.finish);
      forth = λ going others rest end goes. goes_by others rest end (inr (if_none (completes o) (finish_of o.act) (sym going ∙ n.made_by.finish), subst (λ s. Goes image settings s others rest end) (sym n.made_by.after_is) goes));
      back = λ going others all end goes.
          let b = behind others all end goes in
          let same = same_step others end b in
          let on : completes o ≡ false = if_none (completes o) (finish_of o.act) (sym going ∙ n.made_by.finish) in
          ⊎_elim
          (λ over. absurd (false≢true (sym on ∙ ap (λ (p : Occurrence Act). completes p) (sym same) ∙ over.0)))
          (λ more. (b.rest, subst (λ s. Goes image settings s others b.rest end) (ap (λ (p : Occurrence Act). p.after) same ∙ n.made_by.after_is) more.1))
          b.on;
      over = λ f ended others all end goes.
          let b = behind others all end goes in
          let same = same_step others end b in
          let done_ = if_some (completes o) (finish_of o.act) f (sym ended ∙ n.made_by.finish) in
          ⊎_elim
          (λ over. over.1)
          (λ more. absurd (false≢true (sym more.0 ∙ ap (λ (p : Occurrence Act). completes p) same ∙ done_.0)))
          b.on;
      knows = n.noted k.run run_long k.knows;
      tells = subst (λ ts. TellsFrom [] (k.run ++ o ∷ []) ts) (sym are) (tells_more [] k.run o steps t k.tells (n.told k.run k.knows));
    }

-- no run goes by a line behind one that completed it
pub completed : (image : Image) (settings : Settings) (start : State) (done : List (List ℕ)) (line : List ℕ) (now : State) (writers : Writers) (steps : List Told) (f : Finish) → Kept image settings start done now writers steps (Some f) → NoRun image settings start (done ++ line ∷ [])
completed image settings start done line now writers steps f k all end goes = absurd (let none : length (line ∷ []) ≡ 0 = ap (λ (ls : List (List ℕ)). length ls) (k.over f refl (line ∷ []) all end goes) in omega arith)
