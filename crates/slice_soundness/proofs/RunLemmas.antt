-- Occurrences of a run, one after another, at states that the map knows.
use Rattle.std.proofs.Common.{◌≡◌, ◌⊎◌, ⊎_elim, ℕ, zero, suc, ◌<◌, List, [], ◌∷◌, get_or, refl, sym, ap, subst, ◌∙◌, arith, inl, inr, ◌≤◌, ltb, ltb-true, ltb-false}
use Rattle.std.specs.Prelude.{Bool, true, false, Some, slice_get}
use Rattle.std.proofs.lemmas.Option.{none-some, same_Some, slice_get-get_or, slice_get_within}
use Rattle.std.proofs.lemmas.Bool.{false≢true, true≢false, cases_Bool}
use Rattle.ia32_semantics.specs.State.{State}
use Rattle.ia32_semantics.specs.Machine.{Machine}
use Rattle.ia32_semantics.specs.Runs.{OccurrenceOf, Goes, IsRun}
use Rattle.slice_soundness.specs.Maps.{Map}
use Rattle.slice_soundness.specs.Premises.{IsReady, Comes, GoesOn, Follows}
use Rattle.slice_soundness.specs.Laws.{KnowsStates}
use Rattle.slice_soundness.proofs.StateLemmas.{ready_start, ready_after}

pub not_both : (b : Bool) → b ≡ true → b ≡ false → ⊥
not_both true is not = absurd (true≢false not)
not_both false is not = absurd (false≢true is)

-- a later number is the next one, or later still
pub next_or_later : (i j : ℕ) → i < j → (suc i ≡ j) ⊎ (suc i < j)
next_or_later i j below = by_order (ltb (suc i) j) refl
  where
    by_order : (b : Bool) → ltb (suc i) j ≡ b → (suc i ≡ j) ⊎ (suc i < j)
    by_order true is = inr (ltb-true (suc i) j is)
    by_order false is = inl (let above : j ≤ suc i = ltb-false (suc i) j is in omega arith)

-- an occurrence that is followed by another
pub record Neighbours (m : Machine) (o p : OccurrenceOf m) : Type 0 where
  pub meet : p.before ≡ o.after
  pub not_last : m.completes o ≡ false

module _ (m : Machine) where
  -- an occurrence before another is there
  pub occurrence_at : (run : List (OccurrenceOf m)) (k j : ℕ) (later : OccurrenceOf m) → slice_get run j ≡ Some later → k < j → (o : OccurrenceOf m) × (slice_get run k ≡ Some o)
  occurrence_at run k j later is below = (get_or run k later, slice_get-get_or run k later (omega (arith, slice_get_within run j later is)))

  -- something follows, so the run isn't complete
  not_last : (o p : OccurrenceOf m) (rest : List (OccurrenceOf m)) (k : ℕ) → (m.completes o ≡ true → rest ≡ []) → slice_get rest k ≡ Some p → m.completes o ≡ false
  not_last o p rest k ends is =
      ⊎_elim (λ last. absurd (none-some p (sym (ap (λ xs. slice_get xs k) (ends last)) ∙ is))) (λ not. not) (cases_Bool (m.completes o))

  pub happens_at : (s : State) (run : List (OccurrenceOf m)) → Goes m s run → (k : ℕ) (o : OccurrenceOf m) → slice_get run k ≡ Some o → m.Happens o
  happens_at s [] goes k o is = absurd (none-some o is)
  happens_at s (x ∷ rest) goes zero o is = subst m.Happens (same_Some x o is) goes.1
  happens_at s (x ∷ rest) goes (suc k) o is = happens_at x.after rest goes.3 k o is

  pub neighbours : (s : State) (run : List (OccurrenceOf m)) → Goes m s run → (k : ℕ) (o p : OccurrenceOf m) → slice_get run k ≡ Some o → slice_get run (suc k) ≡ Some p → Neighbours m o p
  neighbours s [] goes k o p is next = absurd (none-some o is)
  neighbours s (x ∷ []) goes zero o p is next = absurd (none-some p next)
  neighbours s (x ∷ y ∷ rest) goes zero o p is next =
      subst (λ z. Neighbours m z p) (same_Some x o is)
      (record { meet = ap (λ q. q.before) (sym (same_Some y p next)) ∙ goes.3.0; not_last = not_last x p (y ∷ rest) zero goes.2 next })
  neighbours s (x ∷ rest) goes (suc k) o p is next = neighbours x.after rest goes.3 k o p is next

  -- an occurrence that something follows, however far behind
  pub followed : (s : State) (run : List (OccurrenceOf m)) → Goes m s run → (i j : ℕ) (o p : OccurrenceOf m) → i < j → slice_get run i ≡ Some o → slice_get run j ≡ Some p → m.completes o ≡ false
  followed s run goes i j o p below is later =
      ⊎_elim
      (λ last. (neighbours s run goes i o p is (subst (λ k. slice_get run k ≡ Some p) (sym last) later)).not_last)
      (λ before.
      let next = occurrence_at run (suc i) j p later before in
      (neighbours s run goes i o next.0 is next.1).not_last)
      (next_or_later i j below)

module _ (m : Machine) (v : Map) (f : Follows m v) where
  known_from : (s : State) (run : List (OccurrenceOf m)) → Goes m s run → IsReady m v s → (k : ℕ) (o : OccurrenceOf m) → slice_get run k ≡ Some o → Comes m v o
  known_from s [] goes ready k o is = absurd (none-some o is)
  known_from s (x ∷ rest) goes ready zero o is =
      subst (Comes m v) (same_Some x o is) (record { happens = goes.1; ready = subst (IsReady m v) (sym goes.0) ready })
  known_from s (x ∷ rest) goes ready (suc k) o is =
      let here : Comes m v x = record { happens = goes.1; ready = subst (IsReady m v) (sym goes.0) ready } in
      let on = ready_after m v f x (record { comes = here; not_last = not_last m x o rest k goes.2 is }) in
      known_from x.after rest goes.3 on.ready k o is

  -- each occurrence of a run comes at a state that the map knows
  pub comes_at : (run : List (OccurrenceOf m)) → IsRun m run → (k : ℕ) (o : OccurrenceOf m) → slice_get run k ≡ Some o → Comes m v o
  comes_at run is k o at = known_from is.start run is.goes (ready_start m v f is.start is.starts) k o at

  pub knows_states : KnowsStates m v
  knows_states = record {
    starts = ready_start m v f;
    steps = λ run is k o at.
        let comes = comes_at run is k o at in
        record { before = comes.ready; after = λ not. ready_after m v f o (record { comes = comes; not_last = not }) };
  }

  pub goes_on_at : (run : List (OccurrenceOf m)) → IsRun m run → (k j : ℕ) (o later : OccurrenceOf m) → k < j → slice_get run k ≡ Some o → slice_get run j ≡ Some later → GoesOn m v o
  goes_on_at run is k j o later below at there = record { comes = comes_at run is k o at; not_last = followed m is.start run is.goes k j o later below at there }
