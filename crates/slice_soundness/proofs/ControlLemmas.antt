-- A branch that decides whether an occurrence comes controls its node.
use Rattle.std.proofs.Common.{◌≡◌, ◌⊎◌, ⊎_elim, inl, inr, ℕ, zero, suc, ◌<◌, ◌≤◌, List, [], ◌∷◌, refl, sym, ap, subst, ◌∙◌, arith, ltb, ltb-true, ltb-false}
use Rattle.std.specs.Prelude.{◌≢◌, Bool, true, false, Some, slice_get}
use Rattle.std.proofs.lemmas.Option.{same_Some}
use Rattle.flow_graph.specs.declared.graph.FlowNode.{FlowNode}
use Rattle.flow_graph.specs.FlowGraph.{IsAt, IsStep, IsEnd, Reaches, Avoids}
use Rattle.flow_graph.proofs.WalkLaws.{all-more}
use Rattle.control_walks.specs.ControlWalks.{Controls}
use Rattle.ia32_semantics.specs.State.{State}
use Rattle.ia32_semantics.specs.Machine.{Machine}
use Rattle.ia32_semantics.specs.Runs.{OccurrenceOf, stands_at, Goes, IsRun}
use Rattle.ia32_semantics.specs.Dependence.{ControlDependence}
use Rattle.slice_soundness.specs.Maps.{Map, number_of}
use Rattle.slice_soundness.specs.Premises.{Comes, IsGraphOf, Follows}
use Rattle.slice_soundness.specs.Laws.{between, numbers_of, CompleteRunsEscape, BranchesControl}
use Rattle.slice_soundness.proofs.NodeLemmas.{same_calls}
use Rattle.slice_soundness.proofs.RunLemmas.{not_both, next_or_later, occurrence_at, neighbours, followed, comes_at}
use Rattle.slice_soundness.proofs.WalkLemmas.{meets_node, step_between, runs_walk, all_between}

-- a node of the graph stands at one address
pub one_address : (g : List FlowNode) (n a b : ℕ) → IsAt g a n → IsAt g b n → a ≡ b
one_address [] n a b one two = absurd one
one_address (x ∷ xs) zero a b one two = sym one ∙ two
one_address (x ∷ xs) (suc n) a b one two = one_address xs n a b one two

-- a number within another is the same, or below it
same_or_below : (i j : ℕ) → i ≤ j → (i ≡ j) ⊎ (i < j)
same_or_below i j within = by_order (ltb i j) refl
  where
    by_order : (b : Bool) → ltb i j ≡ b → (i ≡ j) ⊎ (i < j)
    by_order true is = inr (ltb-true i j is)
    by_order false is = inl (let above : j ≤ i = ltb-false i j is in omega arith)

-- Nothing follows what completes a run.
pub last_is : (m : Machine) (s : State) (run : List (OccurrenceOf m)) → Goes m s run → (i j : ℕ) (o p : OccurrenceOf m) → slice_get run i ≡ Some o → m.completes o ≡ true → slice_get run j ≡ Some p → j ≤ i
last_is m s run goes i j o p is completes there = by_order (ltb i j) refl
  where
    by_order : (b : Bool) → ltb i j ≡ b → j ≤ i
    by_order true below = absurd (not_both (m.completes o) completes (followed m s run goes i j o p (ltb-true i j below) is there))
    by_order false above = ltb-false i j above

module _ (m : Machine) (v : Map) (f : Follows m v) (g : IsGraphOf m v) where
  -- a node that isn't at the address
  avoids : (o : OccurrenceOf m) (at : ℕ) → Comes m v o → stands_at o ≢ at → Avoids v.graph at (number_of v o.before)
  avoids o at comes elsewhere is = elsewhere (one_address v.graph (number_of v o.before) (stands_at o) at (meets_node m v f g o comes) is)

  pub escapes : CompleteRunsEscape m v
  escapes run is complete i at o there elsewhere =
      let last_comes = comes_at m v f run is complete.last complete.occurrence complete.is_there in
      let end = g.ends complete.occurrence last_comes complete.completes in
      let within : i ≤ complete.last = last_is m is.start run is.goes complete.last i complete.occurrence o complete.is_there complete.completes there in (
        avoids o at (comes_at m v f run is i o there) (elsewhere i o (omega arith) there),
        ⊎_elim
            (λ same. inl (subst (λ p. IsEnd v.graph (number_of v p.before)) (same_Some complete.occurrence o (sym complete.is_there ∙ ap (slice_get run) (sym same) ∙ there)) end))
            (λ below. inr (
              numbers_of m v (between run i complete.last),
              number_of v complete.occurrence.before,
              runs_walk m v f g run is i complete.last o complete.occurrence below there complete.is_there,
              all-more (Avoids v.graph at) (numbers_of m v (between run i complete.last)) (number_of v complete.occurrence.before)
                  (all_between m v f g (Avoids v.graph at) run i complete.last complete.occurrence below complete.is_there
                  (λ k p after before is_there. avoids p at (comes_at m v f run is k p is_there) (elsewhere k p (omega arith) is_there)))
                  (avoids complete.occurrence at last_comes (elsewhere complete.last complete.occurrence (omega arith) complete.is_there)),
              end,
            ))
            (same_or_below i complete.last within),
      )

  -- from an occurrence on, a later one is reached
  pub reaches : (run : List (OccurrenceOf m)) → IsRun m run → (i j : ℕ) (o p : OccurrenceOf m) → i ≤ j → slice_get run i ≡ Some o → slice_get run j ≡ Some p → Reaches v.graph (number_of v o.before) (number_of v p.before)
  reaches run is i j o p within at there =
      ⊎_elim
      (λ same. inl (ap (λ q. number_of v q.before) (same_Some o p (sym at ∙ ap (slice_get run) same ∙ there))))
      (λ below. inr (numbers_of m v (between run i j), runs_walk m v f g run is i j o p below at there))
      (same_or_below i j within)

  module _ (run : List (OccurrenceOf m)) (is : IsRun m run) (j i : ℕ) (c : ControlDependence m run j i) where
    branch_comes : Comes m v c.branch
    branch_comes = comes_at m v f run is i c.branch c.branch_is

    other_comes : Comes m v c.other_branch
    other_comes = comes_at m v f c.other_run c.other_is_run c.other c.other_branch c.other_is

    -- both runs pass one node
    one_node : number_of v c.other_branch.before ≡ number_of v c.branch.before
    one_node = ap v.number (same_calls m.entry v.depth c.other_branch.before.activations c.branch.before.activations c.other_branch.before.eip c.branch.before.eip other_comes.ready.rooted branch_comes.ready.rooted c.same_calls c.same_place)

    -- the other branch isn't the last of its run
    other_goes_on : m.completes c.other_branch ≡ false
    other_goes_on =
        let same = f.machine.one_act c.other_branch c.branch other_comes.happens branch_comes.happens c.same_place in
        f.machine.goes_on c.other_branch other_comes.happens (ap m.is_branch same ∙ c.branches)

    -- and is followed by another
    next_of_other : (p : OccurrenceOf m) × (slice_get c.other_run (suc c.other) ≡ Some p)
    next_of_other =
        let complete = c.other_is_complete in
        let within : c.other ≤ complete.last = last_is m c.other_is_run.start c.other_run c.other_is_run.goes complete.last c.other complete.occurrence c.other_branch complete.is_there complete.completes c.other_is in
        ⊎_elim
        (λ same. absurd (not_both (m.completes complete.occurrence) complete.completes
        (subst (λ p. m.completes p ≡ false) (same_Some c.other_branch complete.occurrence (sym c.other_is ∙ ap (slice_get c.other_run) same ∙ complete.is_there)) other_goes_on)))
        (λ below.
        ⊎_elim
        (λ last. (complete.occurrence, subst (λ k. slice_get c.other_run k ≡ Some complete.occurrence) (sym last) complete.is_there))
        (λ before. occurrence_at m c.other_run (suc c.other) complete.last complete.occurrence complete.is_there before)
        (next_or_later c.other complete.last below))
        (same_or_below c.other complete.last within)

    -- what follows the branch
    next_of_branch : (p : OccurrenceOf m) × (slice_get run (suc i) ≡ Some p)
    next_of_branch =
        ⊎_elim
        (λ last. (c.later, subst (λ k. slice_get run k ≡ Some c.later) (sym last) c.later_is))
        (λ before. occurrence_at m run (suc i) j c.later c.later_is before)
        (next_or_later i j c.earlier)

    pub controls : Controls v.graph (number_of v c.branch.before) (number_of v c.later.before)
    controls =
        let x = next_of_branch in
        let y = next_of_other in
        let x_comes = comes_at m v f run is (suc i) x.0 x.1 in
        let y_comes = comes_at m v f c.other_run c.other_is_run (suc c.other) y.0 y.1 in
        let from_branch = neighbours m is.start run is.goes i c.branch x.0 c.branch_is x.1 in
        let from_other = neighbours m c.other_is_run.start c.other_run c.other_is_run.goes c.other c.other_branch y.0 c.other_is y.1 in
        record {
          branches = g.branches c.branch branch_comes c.branches;
          x = number_of v x.0.before;
          y = number_of v y.0.before;
          to_x = step_between m v f g run is i c.branch x.0 c.branch_is x.1;
          to_y = subst (λ n. IsStep v.graph n (number_of v y.0.before)) one_node (step_between m v f g c.other_run c.other_is_run c.other c.other_branch y.0 c.other_is y.1);
          x_at = stands_at x.0;
          y_at = stands_at y.0;
          x_stands = meets_node m v f g x.0 x_comes;
          y_stands = meets_node m v f g y.0 y_comes;
          apart = λ same. c.other_way (ap (λ s. s.eip) (sym from_other.meet) ∙ sym same ∙ ap (λ s. s.eip) from_branch.meet);
          reached = reaches run is (suc i) j x.0 c.later c.earlier x.1 c.later_is;
          at = stands_at c.later;
          stands = meets_node m v f g c.later (comes_at m v f run is j c.later c.later_is);
          escapes = escapes c.other_run c.other_is_run c.other_is_complete (suc c.other) (stands_at c.later) y.0 y.1 (λ k p after is_there. c.avoids k p after is_there);
        }

  pub branches_control : BranchesControl m v
  branches_control run is j i c = controls run is j i c
