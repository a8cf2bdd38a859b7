-- What lines tell is a run of the machine, and where a line fails they tell none.
use Rattle.std.proofs.Common.{◌≡◌, inl, inr, ℕ, zero, suc, ◌≤◌, List, [], ◌∷◌, length, take, refl, sym, ap, ◌∙◌, subst, arith}
use Rattle.std.proofs.lemmas.Bool.{false≢true}
use Rattle.image_map.specs.declared.image.Image.{Image}
use Rattle.image_map.specs.declared.region.Settings.{Settings}
use Rattle.ia32_semantics.specs.State.{State}
use Rattle.ia32_semantics.specs.Machine.{Occurrence}
use Rattle.ia32_semantics.specs.Runs.{Goes as RunGoes}
use Rattle.ia32_semantics.specs.Step.{Act}
use Rattle.ia32_semantics.specs.Ia32.{machine}
use Rattle.ia32_machine.specs.Machines.{start_state}
use Rattle.ia32_run.specs.declared.log.Finish.{Finish}
use Rattle.ia32_run.specs.declared.log.Finish.TheVariants as finish
use Rattle.replay.specs.Replayed.{Goes, TellRun}
use Rattle.replay.specs.Laws.{ReplaysAreRuns, FailuresTellNoRun}

run_goes : (image : Image) (settings : Settings) (lines : List (List ℕ)) (run : List (Occurrence Act)) (s : State) (end : Finish) → Goes image settings s lines run end → RunGoes (machine image settings) s run
run_goes image settings [] run s end goes = subst (λ r. RunGoes (machine image settings) s r) (sym goes.0) tt
run_goes image settings (line ∷ lines) [] s end goes = tt
run_goes image settings (line ∷ lines) (o ∷ rest) s end (is, tells, inl (done, none, over, ends)) =
    (is, tells.makes.happens, (λ e. over), subst (λ r. RunGoes (machine image settings) o.after r) (sym over) tt)
run_goes image settings (line ∷ lines) (o ∷ rest) s end (is, tells, inr (on, goes)) =
    (is, tells.makes.happens, (λ e. absurd (false≢true (sym on ∙ e))), run_goes image settings lines rest o.after end goes)

pub replays_are_runs : ReplaysAreRuns
replays_are_runs image settings lines run s end starts goes = record { start = s; starts = starts; goes = run_goes image settings lines run s end goes }

-- the first of some lines that go go as well
goes_first : (image : Image) (settings : Settings) (n : ℕ) (lines : List (List ℕ)) (run : List (Occurrence Act)) (s : State) (end : Finish) → Goes image settings s lines run end → (some : List (Occurrence Act)) × (how : Finish) × Goes image settings s (take n lines) some how
goes_first image settings zero lines run s end goes = ([], finish.Limit, (refl, refl))
goes_first image settings (suc n) [] run s end goes = (run, end, goes)
goes_first image settings (suc n) (line ∷ lines) [] s end goes = absurd goes
goes_first image settings (suc n) (line ∷ lines) (o ∷ rest) s end (is, tells, inl (done, none, over, ends)) =
    (o ∷ [], end, (is, tells, inl (done, none_taken n lines none, refl, ends)))
  where
    none_taken : (m : ℕ) (ls : List (List ℕ)) → ls ≡ [] → take m ls ≡ []
    none_taken zero ls e = refl
    none_taken (suc m) [] e = refl
    none_taken (suc m) (l ∷ ls) e = absurd (let long : length (l ∷ ls) ≡ 0 = ap (λ (x : List (List ℕ)). length x) e in omega arith)
goes_first image settings (suc n) (line ∷ lines) (o ∷ rest) s end (is, tells, inr (on, goes)) =
    let more = goes_first image settings n lines rest o.after end goes in
    (o ∷ more.0, more.1, (is, tells, inr (on, more.2)))

first_tells : (image : Image) (settings : Settings) (n : ℕ) (lines : List (List ℕ)) → 1 ≤ n → TellRun image settings lines → TellRun image settings (take n lines)
first_tells image settings zero lines some tell = absurd (omega arith)
first_tells image settings (suc n) lines some (run, end, r) =
    let more = goes_first image settings n r.others run (start_state image settings r.words) end r.goes in
    (more.0, more.1, record { first = r.first; others = take n r.others; lines_are = ap (take (suc n)) r.lines_are; words = r.words; form = r.form; goes = more.2 })

pub failures_tell_no_run : FailuresTellNoRun
failures_tell_no_run image settings lines number fails tell = fails.fails (first_tells image settings number lines fails.some tell)
