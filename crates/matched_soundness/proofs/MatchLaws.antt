-- Dependences are matched arrows, and slices over those list them.
use Rattle.std.proofs.Common.{◌≡◌, inl, inr, ⊎_elim, ℕ, zero, suc, ◌<◌, Bool, List, sym, ap, subst, ◌∙◌}
use Rattle.std.specs.Prelude.{Contains, slice_get, Some}
use Rattle.std.proofs.lemmas.Bool.{cases_eq}
use Rattle.std.proofs.lemmas.Option.{same_Some}
use Rattle.image_map.specs.declared.image.Image.{Image}
use Rattle.image_map.specs.declared.region.Settings.{Settings}
use Rattle.flow_graph.specs.declared.graph.FlowNode.{FlowNode}
use Rattle.flow_graph.specs.FlowGraph.{IsAt, MustDefine, esp_place}
use Rattle.flow_graph.specs.Marked.Marked.{seed, step}
use Rattle.ia32_semantics.specs.Dependence.{DirectDependence, Chain, Depends}
use Rattle.ia32_semantics.specs.Ia32.{machine}
use Rattle.ia32_semantics.specs.Machine.{Occurrence}
use Rattle.ia32_semantics.specs.Runs.{IsRun, stands_at}
use Rattle.ia32_semantics.specs.Step.{Act}
use Rattle.slicer.specs.Slicer.{ListedEdge}
use Rattle.chops.specs.Chops.{AreAddresses}
use Rattle.matched_calls.specs.Matched.{Matches, MatchedEdge, MatchedControl}
use Rattle.matched_calls.specs.Slices.{HasMatches, InSliceOver}
use Rattle.slice_soundness.specs.Laws.{StandsAtNumber}
use Rattle.slice_soundness.specs.Maps.{number_of}
use Rattle.slice_soundness.specs.Premises.{Describes}
use Rattle.slice_soundness.proofs.ControlLemmas.{branches_control}
use Rattle.slice_soundness.proofs.WalkLemmas.{runs_meet_nodes}
use Rattle.vsa.specs.Views.{told}
use Rattle.rounds.specs.declared.round.Round.{Round}
use Rattle.round_soundness.specs.Quiet.{IsQuietRound, map_in, nodes_in}
use Rattle.round_soundness.proofs.RoundLaws.{run_described}
use Rattle.matched_soundness.specs.Laws.{kinds_in, MatchedEdgeIn, MatchedArrow}
use Rattle.slice_soundness.proofs.PlaceLemmas.{place_lives}
use Rattle.matched_soundness.proofs.WalkLaws.{run_matches}

-- a matched edge is listed
edge_listed : (image : Image) (settings : Settings) (r : Round) (ordinary sp control : List (ℕ × ℕ)) (skip_sp : Bool) → HasMatches (nodes_in r) (kinds_in image settings r) ordinary sp control
    → (m n : ℕ) → MatchedEdgeIn image settings r skip_sp m n → ListedEdge ordinary sp skip_sp m n
edge_listed image settings r ordinary sp control skip_sp has m n edge =
    ⊎_elim
    (λ same. inr (λ skip. edge.1 skip same, (has.sp_edges.listed m n).1 (subst (λ place. MatchedEdge (nodes_in r) (kinds_in image settings r) place m n) same edge.2)))
    (λ other. inl ((has.ordinary_edges.listed m n).1 (edge.0, other, edge.2)))
    (cases_eq edge.0 esp_place)

module _ (image : Image) (settings : Settings) (r : Round) (quiet : IsQuietRound image settings r) (run : List (Occurrence Act)) (is_run : IsRun (machine image settings) run) (skip_sp : Bool) where
  described : Describes (machine image settings) (map_in image settings r)
  described = run_described image settings r quiet run is_run

  abbrev number : Occurrence Act → ℕ
  number o = number_of (map_in image settings r) o.before

  matches : (P : ℕ → Type 0) (i j : ℕ) (o p : Occurrence Act) → i < j → slice_get run i ≡ Some o → slice_get run j ≡ Some p
      → ((k : ℕ) (q : Occurrence Act) → i < k → k < j → slice_get run k ≡ Some q → P (number q)) → Matches (map_in image settings r).graph (kinds_in image settings r) P (number o) (number p)
  matches = run_matches image settings (told r.states) quiet.image_is quiet.settings_are described run is_run

  -- an arrow between the nodes of what depends and of its source
  pub record HasArrow (j i : ℕ) : Type 0 where
    pub source : Occurrence Act
    pub user : Occurrence Act
    pub source_is : slice_get run i ≡ Some source
    pub user_is : slice_get run j ≡ Some user
    pub arrow : MatchedArrow image settings r skip_sp (number source) (number user)

  arrow_of : (j i : ℕ) → DirectDependence (machine image settings) skip_sp run j i → HasArrow j i
  arrow_of j i (inl data_) =
      let by = data_.1 in
      let lives = place_lives (machine image settings) (map_in image settings r) described.follows described.covers run is_run skip_sp data_.0 j i by in
      record {
        source = by.writer;
        user = by.reader;
        source_is = by.writer_is;
        user_is = by.reader_is;
        arrow = inl (
          lives.place,
          lives.other,
          subst (λ (g : List FlowNode). MatchedEdge g (kinds_in image settings r) lives.place (number by.writer) (number by.reader)) (sym quiet.round_is.flow)
              (record {
                defines = lives.defines;
                uses = lives.uses;
                matches = matches (λ k. ¬ MustDefine (map_in image settings r).graph lives.place k) i j by.writer by.reader by.earlier by.writer_is by.reader_is lives.kept;
              }),
        );
      }
  arrow_of j i (inr control) =
      record {
        source = control.branch;
        user = control.later;
        source_is = control.branch_is;
        user_is = control.later_is;
        arrow = inr (subst (λ (g : List FlowNode). MatchedControl g (kinds_in image settings r) (number control.branch) (number control.later)) (sym quiet.round_is.flow)
            (record {
              controls = branches_control (machine image settings) (map_in image settings r) described.follows described.graph run is_run j i control;
              matches = matches (λ k. Unit {0}) i j control.branch control.later control.earlier control.branch_is control.later_is (λ k q above below there. tt);
            }));
      }

  -- the number of an occurrence's node is one
  number_at : (k at : ℕ) (o : Occurrence Act) → slice_get run k ≡ Some o → StandsAtNumber (machine image settings) (map_in image settings r) run k at → number o ≡ at
  number_at k at o there stands = ap number (same_Some o stands.occurrence (sym there ∙ stands.is_there)) ∙ sym stands.number_is

  pub arrow_there : (j i from to : ℕ) → DirectDependence (machine image settings) skip_sp run j i
      → StandsAtNumber (machine image settings) (map_in image settings r) run i from → StandsAtNumber (machine image settings) (map_in image settings r) run j to → MatchedArrow image settings r skip_sp from to
  arrow_there j i from to direct at there =
      let h = arrow_of j i direct in
      subst (λ n. MatchedArrow image settings r skip_sp n to) (number_at i from h.source h.source_is at)
      (subst (λ n. MatchedArrow image settings r skip_sp (number h.source) n) (number_at j to h.user h.user_is there) h.arrow)

  -- -- Slices

  stands : (k : ℕ) (o : Occurrence Act) → slice_get run k ≡ Some o → IsAt (nodes_in r) (stands_at o) (number o)
  stands k o at =
      subst (λ (g : List FlowNode). IsAt g (stands_at o) (number o)) (sym quiet.round_is.flow)
      (runs_meet_nodes (machine image settings) (map_in image settings r) described.follows described.graph run is_run k o at)

  module _ (ordinary sp control : List (ℕ × ℕ)) (has : HasMatches (nodes_in r) (kinds_in image settings r) ordinary sp control) (at : ℕ) where
    abbrev Sliced : ℕ → Type 0
    Sliced = InSliceOver (ListedEdge ordinary sp skip_sp) (λ b n. Contains control (b, n)) (nodes_in r) at

    -- the slice has the source of an arrow to a node of it
    back : (j i : ℕ) (later earlier : Occurrence Act) → slice_get run j ≡ Some later → slice_get run i ≡ Some earlier → DirectDependence (machine image settings) skip_sp run j i → Sliced (number later) → Sliced (number earlier)
    back j i later earlier there at_i direct sliced =
        let h = arrow_of j i direct in
        let source : h.source ≡ earlier = same_Some h.source earlier (sym h.source_is ∙ at_i) in
        let user : h.user ≡ later = same_Some h.user later (sym h.user_is ∙ there) in
        subst (λ (o : Occurrence Act). Sliced (number o)) source
        (step (⊎_elim (λ edge. inl (edge_listed image settings r ordinary sp control skip_sp has (number h.source) (number h.user) edge)) (λ controls. inr ((has.controls (number h.source) (number h.user)).1 controls)) h.arrow)
        (subst (λ (o : Occurrence Act). Sliced (number o)) (sym user) sliced))

    through : (n j i : ℕ) (later earlier : Occurrence Act) → slice_get run j ≡ Some later → slice_get run i ≡ Some earlier → Chain (DirectDependence (machine image settings) skip_sp run) n j i → Sliced (number later) → Sliced (number earlier)
    through zero j i later earlier there at_i chain sliced = back j i later earlier there at_i chain sliced
    through (suc n) j i later earlier there at_i chain sliced =
        let h = arrow_of j chain.0 chain.1 in
        through n chain.0 i h.source earlier h.source_is at_i chain.2 (back j chain.0 later h.source there h.source_is chain.1 sliced)

    pub matches_listed : (addresses : List ℕ) → AreAddresses (nodes_in r) Sliced addresses → (j i : ℕ) (criterion source : Occurrence Act)
        → slice_get run j ≡ Some criterion → stands_at criterion ≡ at → slice_get run i ≡ Some source → Depends (machine image settings) skip_sp run j i → Contains addresses (stands_at source)
    matches_listed addresses slice j i criterion source there is at_i depends =
        (slice.listed (stands_at source)).1
        (number source, stands i source at_i, through depends.0 j i criterion source there at_i depends.1 (seed (subst (λ a. IsAt (nodes_in r) a (number criterion)) is (stands j criterion there))))
