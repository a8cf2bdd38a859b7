-- A run walks the graph on matched walks.
use Rattle.std.proofs.Common.{◌≡◌, ℕ, zero, suc, ◌+◌, ◌-◌, ◌<◌, List, [], ◌∷◌, length, Some, sym, subst, arith}
use Rattle.std.specs.Prelude.{slice_get}
use Rattle.std.specs.List.{AllByRecursion}
use Rattle.image_map.specs.declared.image.Image.{Image}
use Rattle.image_map.specs.declared.region.Settings.{Settings}
use Rattle.image_map.specs.CallModel.{AreSettings}
use Rattle.image_map.specs.Whole.{IsImage}
use Rattle.flow_graph.specs.declared.graph.FlowNode.{FlowNode}
use Rattle.ia32_semantics.specs.Ia32.{machine}
use Rattle.ia32_semantics.specs.Machine.{Occurrence}
use Rattle.ia32_semantics.specs.Runs.{IsRun}
use Rattle.ia32_semantics.specs.State.{State}
use Rattle.ia32_semantics.specs.Step.{Act}
use Rattle.matched_calls.specs.declared.kinds.StepKinds.{StepKinds}
use Rattle.matched_calls.specs.Matched.{MatchedWalk, Matches, Turns}
use Rattle.abs_steps.specs.Successors.{States}
use Rattle.slice_soundness.specs.Maps.{number_of}
use Rattle.slice_soundness.specs.Premises.{Describes}
use Rattle.slice_soundness.proofs.RunLemmas.{occurrence_at, neighbours, goes_on_at}
use Rattle.slice_soundness.proofs.WalkLemmas.{step_between}
use Rattle.access_facts.specs.Flow.{flow}
use Rattle.access_facts.specs.Kinds.{step_kinds}
use Rattle.graph_soundness.specs.Drawn.{map_drawn}
use Rattle.matched_soundness.proofs.TurnLaws.{ArePending, each_turn}

module _ (image : Image) (settings : Settings) (states : States) (is : IsImage image) (are : AreSettings (length image.externs) settings)
    (d : Describes (machine image settings) (map_drawn image settings states)) (run : List (Occurrence Act)) (is_run : IsRun (machine image settings) run) where
  abbrev G : List FlowNode
  G = flow image settings states

  abbrev K : StepKinds
  K = step_kinds image settings states

  abbrev number : Occurrence Act → ℕ
  number o = number_of (map_drawn image settings states) o.before

  -- a matched walk from a node with these calls pending, over inner nodes of which a fact holds
  pub record WalksTo (P : ℕ → Type 0) (from : ℕ) (pending : List ℕ) (to : ℕ) : Type 0 where
    pub inner : List ℕ
    pub left : List ℕ
    pub walk : MatchedWalk G K from pending inner to left
    pub kept : AllByRecursion P inner

  -- so many occurrences from the i-th on lead to the one behind them
  walk_over : (P : ℕ → Type 0) (j : ℕ) (p : Occurrence Act) → slice_get run j ≡ Some p → (count i : ℕ) (o : Occurrence Act) → suc (i + count) ≡ j → slice_get run i ≡ Some o
      → ((k : ℕ) (q : Occurrence Act) → i < k → k < j → slice_get run k ≡ Some q → P (number q)) → (pending : List ℕ) → ArePending states pending o.before.activations → WalksTo P (number o) pending (number p)
  walk_over P j p there zero i o far at holds pending held =
      let last : j ≡ suc i = omega arith in
      let behind = subst (λ k. slice_get run k ≡ Some p) last there in
      let by = neighbours (machine image settings) is_run.start run is_run.goes i o p at behind in
      let goes = goes_on_at (machine image settings) (map_drawn image settings states) d.follows run is_run i j o p (omega arith) at there in
      let turn = each_turn image settings states is are d.follows o goes pending held in
      record {
        inner = [];
        left = turn.left;
        walk = (
          step_between (machine image settings) (map_drawn image settings states) d.follows d.graph run is_run i o p at behind,
          subst (λ (s : State). Turns K (number o) (number_of (map_drawn image settings states) s) pending turn.left) (sym by.meet) turn.turns,
        );
        kept = tt;
      }
  walk_over P j p there (suc count) i o far at holds pending held =
      let after = occurrence_at (machine image settings) run (suc i) j p there (omega arith) in
      let by = neighbours (machine image settings) is_run.start run is_run.goes i o after.0 at after.1 in
      let goes = goes_on_at (machine image settings) (map_drawn image settings states) d.follows run is_run i j o p (omega arith) at there in
      let turn = each_turn image settings states is are d.follows o goes pending held in
      let rest = walk_over P j p there count (suc i) after.0 (omega arith) after.1 (λ k q above below. holds k q (omega arith) below) turn.left
      (subst (λ (s : State). ArePending states turn.left s.activations) (sym by.meet) turn.are_left) in
      record {
        inner = number after.0 ∷ rest.inner;
        left = rest.left;
        walk = (
          turn.left,
          step_between (machine image settings) (map_drawn image settings states) d.follows d.graph run is_run i o after.0 at after.1,
          subst (λ (s : State). Turns K (number o) (number_of (map_drawn image settings states) s) pending turn.left) (sym by.meet) turn.turns,
          rest.walk,
        );
        kept = (holds (suc i) after.0 (omega arith) (omega arith) after.1, rest.kept);
      }

  -- from an occurrence to a later one a matched walk goes by the nodes between them
  pub run_matches : (P : ℕ → Type 0) (i j : ℕ) (o p : Occurrence Act) → i < j → slice_get run i ≡ Some o → slice_get run j ≡ Some p
      → ((k : ℕ) (q : Occurrence Act) → i < k → k < j → slice_get run k ≡ Some q → P (number q)) → Matches G K P (number o) (number p)
  run_matches P i j o p below at there holds =
      let w = walk_over P j p there (j - suc i) i o (omega arith) at holds [] tt in
      (w.inner, w.left, w.walk, w.kept)
