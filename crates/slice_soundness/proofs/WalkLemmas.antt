-- A run walks the graph.
use Rattle.std.proofs.Common.{◌≡◌, ℕ, zero, suc, ◌+◌, ◌-◌, ◌<◌, List, [], ◌∷◌, take, drop, sym, ap, subst, arith}
use Rattle.std.specs.Prelude.{Some, slice_get}
use Rattle.std.specs.List.{AllByRecursion}
use Rattle.std.proofs.lemmas.Option.{none-some, same_Some}
use Rattle.flow_graph.specs.FlowGraph.{IsAt, IsStep, Walk}
use Rattle.ia32_semantics.specs.Machine.{Machine}
use Rattle.ia32_semantics.specs.Runs.{OccurrenceOf, stands_at, IsRun}
use Rattle.slice_soundness.specs.Maps.{Map, here, number_of}
use Rattle.slice_soundness.specs.Premises.{Comes, GoesOn, Follows, IsGraphOf}
use Rattle.slice_soundness.specs.Laws.{between, numbers_of, RunsWalk, RunsMeetNodes}
use Rattle.slice_soundness.proofs.StateLemmas.{ready_after}
use Rattle.slice_soundness.proofs.RunLemmas.{occurrence_at, neighbours, comes_at}

-- one element less to leave out
drop_less : {A : Type 0} (xs : List A) (i : ℕ) (x : A) → slice_get xs i ≡ Some x → drop i xs ≡ x ∷ drop (suc i) xs
drop_less [] i x is = absurd (none-some x is)
drop_less (y ∷ ys) zero x is = ap (λ z. z ∷ ys) (same_Some y x is)
drop_less (y ∷ ys) (suc i) x is = drop_less ys i x is

module _ (m : Machine) (v : Map) (f : Follows m v) (g : IsGraphOf m v) where
  -- an occurrence stands at a node of the graph
  pub meets_node : (o : OccurrenceOf m) → Comes m v o → IsAt v.graph (stands_at o) (number_of v o.before)
  meets_node o comes = g.stands (here v o.before) comes.ready.value comes.ready.has_value

  pub runs_meet_nodes : RunsMeetNodes m v
  runs_meet_nodes run is k o at = meets_node o (comes_at m v f run is k o at)

  -- a step of the graph from an occurrence that isn't the last
  pub step_after : (o : OccurrenceOf m) → GoesOn m v o → IsStep v.graph (number_of v o.before) (number_of v o.after)
  step_after o goes_on =
      let on = ready_after m v f o goes_on in
      let r = goes_on.comes.ready in
      g.steps (here v o.before) (here v o.after) r.value on.ready.value on.next r.has_value on.is_successor on.ready.has_value

  -- a step between neighbours
  pub step_between : (run : List (OccurrenceOf m)) → IsRun m run → (k : ℕ) (o p : OccurrenceOf m) → slice_get run k ≡ Some o → slice_get run (suc k) ≡ Some p → IsStep v.graph (number_of v o.before) (number_of v p.before)
  step_between run is k o p at next =
      let by = neighbours m is.start run is.goes k o p at next in
      subst (λ s. IsStep v.graph (number_of v o.before) (number_of v s)) (sym by.meet)
      (step_after o (record { comes = comes_at m v f run is k o at; not_last = by.not_last }))

  -- so many occurrences from the i-th on lead to the one behind them
  walk_over : (n : ℕ) (run : List (OccurrenceOf m)) → IsRun m run → (i j : ℕ) (o p : OccurrenceOf m) → suc (i + n) ≡ j → slice_get run i ≡ Some o → slice_get run j ≡ Some p
      → Walk v.graph (number_of v o.before) (numbers_of m v (take n (drop (suc i) run))) (number_of v p.before)
  walk_over zero run is i j o p far at there =
      let e : j ≡ suc i = omega arith in
      step_between run is i o p at (subst (λ k. slice_get run k ≡ Some p) e there)
  walk_over (suc n) run is i j o p far at there =
      let next = occurrence_at m run (suc i) j p there (omega arith) in
      subst (λ xs. Walk v.graph (number_of v o.before) (numbers_of m v (take (suc n) xs)) (number_of v p.before)) (sym (drop_less run (suc i) next.0 next.1))
      (step_between run is i o next.0 at next.1, walk_over n run is (suc i) j next.0 p (omega arith) next.1 there)

  pub runs_walk : RunsWalk m v
  runs_walk run is i j o p below at there = walk_over (j - suc i) run is i j o p (omega arith) at there

  -- what holds of each node on the way
  pub all_over : (P : ℕ → Type 0) (n : ℕ) (run : List (OccurrenceOf m)) (i j : ℕ) (p : OccurrenceOf m) → suc (i + n) ≡ j → slice_get run j ≡ Some p
      → ((k : ℕ) (o : OccurrenceOf m) → i < k → k < j → slice_get run k ≡ Some o → P (number_of v o.before))
      → AllByRecursion P (numbers_of m v (take n (drop (suc i) run)))
  all_over P zero run i j p far there holds = tt
  all_over P (suc n) run i j p far there holds =
      let next = occurrence_at m run (suc i) j p there (omega arith) in
      subst (λ xs. AllByRecursion P (numbers_of m v (take (suc n) xs))) (sym (drop_less run (suc i) next.0 next.1))
      (holds (suc i) next.0 (omega arith) (omega arith) next.1, all_over P n run (suc i) j p (omega arith) there (λ k o after before. holds k o (omega arith) before))

  pub all_between : (P : ℕ → Type 0) (run : List (OccurrenceOf m)) (i j : ℕ) (p : OccurrenceOf m) → i < j → slice_get run j ≡ Some p
      → ((k : ℕ) (o : OccurrenceOf m) → i < k → k < j → slice_get run k ≡ Some o → P (number_of v o.before))
      → AllByRecursion P (numbers_of m v (between run i j))
  all_between P run i j p below there holds = all_over P (j - suc i) run i j p (omega arith) there holds
