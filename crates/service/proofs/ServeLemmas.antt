-- Jobs side by side, and what they gave.
use Rattle.std.proofs.Common.{◌≡◌, ℕ, zero, suc, ◌<◌, Option, Some, None, Result, Ok, Err, List, [], ◌∷◌, ◌++◌, map, length, get_or, Vec, refl, sym, ap, subst, arith}
use Rattle.std.specs.Prelude.{All, IsOk, IfOk}
use Rattle.std.specs.declared.alloc.AllocError.{AllocError}
use Rattle.std.specs.declared.alloc.Global.{Global}
use Rattle.std.specs.List.{AllByRecursion}
use Rattle.std.proofs.lemmas.Bool.{true≢false}
use Rattle.std.proofs.lemmas.List.Elements.{All-from_recursion, recursion_from_All}
use Rattle.requests.specs.declared.request.Request.{Request}
use Rattle.round_slots.proofs.ListLemmas.{all_append}
use Rattle.service.specs.declared.job.Job.{Job}
use Rattle.service.specs.declared.job.Job.TheVariants.{Asks}
use Rattle.service.specs.declared.session.Session.{Session}
use Rattle.service.specs.declared.shop.Shop.{Shop}
use Rattle.service.specs.Jobs.{IsGuest, Answered, IsJob, IsDone, texts_in}

all_mapped : {A B : Type 0} (P : B → Type 0) (f : A → B) (xs : List A) → AllByRecursion (λ x. P (f x)) xs → AllByRecursion P (map f xs)
all_mapped P f [] h = tt
all_mapped P f (x ∷ xs) h = (h.0, all_mapped P f xs h.1)

module _ (shop : Shop) (lines : List (ℕ × Request)) {S : Type 0} (refines : S → Job) where
  pub are_jobs : (ss : List Session) (rs : List S) (js : List Job) → js ≡ map Asks ss ++ map refines rs → All (IsGuest shop) ss → All (λ x. IsJob shop (refines x)) rs → All (IsJob shop) js
  are_jobs ss rs js e h k =
      subst (All (IsJob shop)) (sym e) (All-from_recursion (IsJob shop) (map Asks ss ++ map refines rs)
      (all_append (IsJob shop) (map Asks ss) (map refines rs)
      (all_mapped (IsJob shop) Asks ss (recursion_from_All (IsGuest shop) ss h))
      (all_mapped (IsJob shop) refines rs (recursion_from_All (λ x. IsJob shop (refines x)) rs k))))

  -- each result is that of the job at its place
  abbrev Zipped : List Job → List (Result (Option (Vec ℕ Global)) AllocError) → Type 0
  Zipped [] [] = Unit {0}
  Zipped [] (r ∷ done) = ⊥
  Zipped (j ∷ js) [] = ⊥
  Zipped (j ∷ js) (r ∷ done) = IfOk r (IsDone shop lines j) × Zipped js done

  zipped : (js : List Job) (done : List (Result (Option (Vec ℕ Global)) AllocError)) → length done ≡ length js
      → ((i : ℕ) (d : Job) (e : Result (Option (Vec ℕ Global)) AllocError) → i < length js → IfOk (get_or done i e) (IsDone shop lines (get_or js i d))) → Zipped js done
  zipped [] [] e h = tt
  zipped [] (r ∷ done) e h = absurd (omega (arith, e))
  zipped (j ∷ js) [] e h = absurd (omega (arith, e))
  zipped (j ∷ js) (r ∷ done) e h = (h 0 j r (omega arith), zipped js done (omega (arith, e)) (λ i d x lt. h (suc i) d x (omega (arith, lt))))

  -- what was told of sessions
  abbrev pub Told : List Session → List (Vec ℕ Global) → Type 0
  Told ss ts = (length ts ≡ length ss) × ((i : ℕ) (d : Session) (e : Vec ℕ Global) → i < length ss → Answered shop lines (get_or ss i d) (get_or ts i e).items)

  module _ (none : (x : S) (text : Vec ℕ Global) → IsDone shop lines (refines x) (Some text) → ⊥) where
    told_none : (rs : List S) (done : List (Result (Option (Vec ℕ Global)) AllocError)) → Zipped (map refines rs) done → AllByRecursion IsOk done → texts_in done ≡ []
    told_none [] [] z ok = refl
    told_none [] (r ∷ done) z ok = absurd z
    told_none (x ∷ rs) [] z ok = absurd z
    told_none (x ∷ rs) (Ok None ∷ done) z ok = told_none rs done z.1 ok.1
    told_none (x ∷ rs) (Ok (Some text) ∷ done) z ok = absurd (none x text z.0)
    told_none (x ∷ rs) (Err error ∷ done) z ok = absurd (true≢false (sym ok.0))

    told_more : (s : Session) (ss : List Session) (t : Vec ℕ Global) (ts : List (Vec ℕ Global)) → Answered shop lines s t.items → Told ss ts → Told (s ∷ ss) (t ∷ ts)
    told_more s ss t ts a h = ((let n = h.0 in omega (arith, n)), at)
      where
        at : (i : ℕ) (d : Session) (e : Vec ℕ Global) → i < length (s ∷ ss) → Answered shop lines (get_or (s ∷ ss) i d) (get_or (t ∷ ts) i e).items
        at zero d e lt = a
        at (suc i) d e lt = h.1 i d e (omega (arith, lt))

    told_some : (ss : List Session) (rs : List S) (done : List (Result (Option (Vec ℕ Global)) AllocError)) → Zipped (map Asks ss ++ map refines rs) done → AllByRecursion IsOk done → Told ss (texts_in done)
    told_some [] rs done z ok = (ap length (told_none rs done z ok), λ i d e lt. absurd (omega (arith, lt)))
    told_some (s ∷ ss) rs [] z ok = absurd z
    told_some (s ∷ ss) rs (Ok None ∷ done) z ok = absurd z.0
    told_some (s ∷ ss) rs (Ok (Some text) ∷ done) z ok = told_more s ss text (texts_in done) z.0 (told_some ss rs done z.1 ok.1)
    told_some (s ∷ ss) rs (Err error ∷ done) z ok = absurd (true≢false (sym ok.0))

    pub told_all : (ss : List Session) (rs : List S) (js : List Job) (done : List (Result (Option (Vec ℕ Global)) AllocError)) (ts : List (Vec ℕ Global)) → js ≡ map Asks ss ++ map refines rs → length done ≡ length js
        → ((i : ℕ) (d : Job) (e : Result (Option (Vec ℕ Global)) AllocError) → i < length js → IfOk (get_or done i e) (IsDone shop lines (get_or js i d))) → AllByRecursion IsOk done → ts ≡ texts_in done → Told ss ts
    told_all ss rs js done ts e len h ok is = subst (λ xs. Told ss xs) (sym is) (told_some ss rs done (subst (λ xs. Zipped xs done) e (zipped js done len h)) ok)
