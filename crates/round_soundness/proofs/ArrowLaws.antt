-- Dependences are arrows of the round, and its slices and chops tell of them.
use Rattle.std.proofs.Common.{◌≡◌, ◌⊎◌, inl, inr, ⊎_elim, ℕ, Bool, List, [], ◌∷◌, reverse, refl, sym, ap, subst, ◌∙◌}
use Rattle.std.specs.Prelude.{Contains, slice_get, Some}
use Rattle.std.proofs.lemmas.Bool.{cases_eq}
use Rattle.std.proofs.lemmas.Option.{same_Some}
use Rattle.image_map.specs.declared.image.Image.{Image}
use Rattle.image_map.specs.declared.region.Settings.{Settings}
use Rattle.flow_graph.specs.declared.graph.FlowNode.{FlowNode}
use Rattle.flow_graph.specs.FlowGraph.{IsAt, esp_place}
use Rattle.flow_graph.specs.Marked.Marked.{seed, step}
use Rattle.dep_graph.specs.DepGraph.{DataEdge}
use Rattle.dep_graph.specs.Edges.{HasEdges}
use Rattle.ia32_semantics.specs.Dependence.{DirectDependence, Depends}
use Rattle.ia32_semantics.specs.Ia32.{machine}
use Rattle.ia32_semantics.specs.Machine.{Occurrence}
use Rattle.ia32_semantics.specs.Runs.{IsRun, stands_at}
use Rattle.ia32_semantics.specs.Step.{Act}
use Rattle.slicer.specs.Slicer.{FlowEdge, ListedEdge, Arrow, InSlice, IsSlice}
use Rattle.chops.specs.declared.hops.Hop.{Hop}
use Rattle.chops.specs.Chops.{InForward, InChop}
use Rattle.chops.specs.Hops.{AreHops, IsPath, IsWhy}
use Rattle.chops.specs.Paths.{IsTrace}
use Rattle.chops.proofs.ReachLemmas.{path_forward}
use Rattle.slice_soundness.specs.Arrows.{FlowArrow}
use Rattle.slice_soundness.specs.Laws.{StandsAtNumber}
use Rattle.slice_soundness.specs.Maps.{number_of}
use Rattle.slice_soundness.specs.Premises.{Describes}
use Rattle.slice_soundness.proofs.ArrowLemmas.{dependences_are_arrows, depends_in}
use Rattle.slice_soundness.proofs.WalkLemmas.{runs_meet_nodes}
use Rattle.rounds.specs.declared.round.Round.{Round}
use Rattle.round_soundness.specs.Quiet.{IsQuietRound, map_in, nodes_in, EdgeIn, DependsOn, LiesOnWay, TellsWay}
use Rattle.round_soundness.proofs.RoundLaws.{run_described}

-- an edge of the graph is listed
edge_listed : (g : List FlowNode) (ordinary sp : List (ℕ × ℕ)) (skip_sp : Bool) → HasEdges g ordinary sp → (m n : ℕ) → FlowEdge g skip_sp m n → ListedEdge ordinary sp skip_sp m n
edge_listed g ordinary sp skip_sp has m n edge =
    ⊎_elim
    (λ same. inr (λ skip. edge.1 skip same, (has.sp_edges.listed m n).1 (subst (λ place. DataEdge g place m n) same edge.2)))
    (λ other. inl ((has.ordinary_edges.listed m n).1 (edge.0, other, edge.2)))
    (cases_eq edge.0 esp_place)

-- a list that is empty when it is reversed is empty
none_reversed : {A : Type 0} (xs : List A) → xs ≡ [] → reverse xs ≡ []
none_reversed xs e = ap reverse e

module _ (image : Image) (settings : Settings) (r : Round) (quiet : IsQuietRound image settings r) (run : List (Occurrence Act)) (is_run : IsRun (machine image settings) run) (skip_sp : Bool) where
  described : Describes (machine image settings) (map_in image settings r)
  described = run_described image settings r quiet run is_run

  listed_arrow : (from to : ℕ) → FlowArrow (map_in image settings r).graph skip_sp from to → Arrow (EdgeIn r skip_sp) (nodes_in r) from to
  listed_arrow from to arrow =
      ⊎_elim (λ edge. inl (edge_listed (nodes_in r) r.graph.edges.ordinary r.graph.edges.sp skip_sp quiet.round_is.edges from to edge)) (λ controls. inr controls)
      (subst (λ (g : List FlowNode). FlowArrow g skip_sp from to) (sym quiet.round_is.flow) arrow)

  pub arrow_there : (j i from to : ℕ) → DirectDependence (machine image settings) skip_sp run j i
      → StandsAtNumber (machine image settings) (map_in image settings r) run i from → StandsAtNumber (machine image settings) (map_in image settings r) run j to → Arrow (EdgeIn r skip_sp) (nodes_in r) from to
  arrow_there j i from to direct at there =
      listed_arrow from to (dependences_are_arrows (machine image settings) (map_in image settings r) described run is_run skip_sp j i from to direct at there)

  -- the node of an occurrence
  abbrev number : Occurrence Act → ℕ
  number o = number_of (map_in image settings r) o.before

  stands : (k : ℕ) (o : Occurrence Act) → slice_get run k ≡ Some o → IsAt (nodes_in r) (stands_at o) (number o)
  stands k o at =
      subst (λ (g : List FlowNode). IsAt g (stands_at o) (number o)) (sym quiet.round_is.flow)
      (runs_meet_nodes (machine image settings) (map_in image settings r) described.follows described.graph run is_run k o at)

  -- the node of whatever an occurrence depends on is in each set that has the occurrence's node and the sources of arrows
  back : (P : ℕ → Type 0) → ((from to : ℕ) → Arrow (EdgeIn r skip_sp) (nodes_in r) from to → P to → P from)
      → (j i : ℕ) (later earlier : Occurrence Act) → slice_get run j ≡ Some later → slice_get run i ≡ Some earlier → Depends (machine image settings) skip_sp run j i → P (number later) → P (number earlier)
  back P closed j i later earlier there at depends has =
      depends_in (machine image settings) (map_in image settings r) described skip_sp P
      (λ from to arrow held. closed from to (listed_arrow from to arrow) held) run is_run j i later earlier there at depends has

  -- -- Slices

  sliced : (at j i : ℕ) (later earlier : Occurrence Act) → slice_get run j ≡ Some later → stands_at later ≡ at → slice_get run i ≡ Some earlier → Depends (machine image settings) skip_sp run j i
      → InSlice (EdgeIn r skip_sp) (nodes_in r) at (number earlier)
  sliced at j i later earlier there is at_i depends =
      back (InSlice (EdgeIn r skip_sp) (nodes_in r) at) (λ from to arrow held. step arrow held) j i later earlier there at_i depends
      (seed (subst (λ a. IsAt (nodes_in r) a (number later)) is (stands j later there)))

  pub round_lists : (at : ℕ) (addresses : List ℕ) → IsSlice (EdgeIn r skip_sp) (nodes_in r) at addresses → (j i : ℕ) (criterion source : Occurrence Act)
      → slice_get run j ≡ Some criterion → stands_at criterion ≡ at → slice_get run i ≡ Some source → Depends (machine image settings) skip_sp run j i → Contains addresses (stands_at source)
  round_lists at addresses slice j i criterion source there is at_i depends =
      (slice.listed (stands_at source)).1 (number source, stands i source at_i, sliced at j i criterion source there is at_i depends)

  -- -- Forward slices, paths and chops

  module _ (from to j i : ℕ) (d : DependsOn (machine image settings) skip_sp run from to j i) where
    begins : IsAt (nodes_in r) from (number d.earlier)
    begins = subst (λ a. IsAt (nodes_in r) a (number d.earlier)) d.begins (stands i d.earlier d.earlier_is)

    ends : IsAt (nodes_in r) to (number d.later)
    ends = subst (λ a. IsAt (nodes_in r) a (number d.later)) d.ends (stands j d.later d.later_is)

    -- what depends on the earlier one is in its forward slice
    forward_of : (k : ℕ) (o : Occurrence Act) → slice_get run k ≡ Some o → Depends (machine image settings) skip_sp run k i → InForward (EdgeIn r skip_sp) (nodes_in r) from (number o)
    forward_of k o at depends =
        back (λ n. InForward (EdgeIn r skip_sp) (nodes_in r) from n → InForward (EdgeIn r skip_sp) (nodes_in r) from (number o)) (λ m n arrow onward here. onward (step arrow here)) k i o d.earlier at d.earlier_is depends
        (λ here. here) (seed begins)

    reached : InForward (EdgeIn r skip_sp) (nodes_in r) from (number d.later)
    reached = forward_of j d.later d.later_is d.depends

    way : (trace : List ℕ) × IsTrace (Arrow (EdgeIn r skip_sp) (nodes_in r)) (IsAt (nodes_in r) from) (IsAt (nodes_in r) to) trace
    way = (path_forward (EdgeIn r skip_sp) (nodes_in r) from to).0 (number d.later, ends, reached)

    no_trace : (nodes : List ℕ) → reverse nodes ≡ [] → IsPath (EdgeIn r skip_sp) (nodes_in r) from to nodes → ⊥
    no_trace nodes none (inl shortest) = subst (IsTrace (Arrow (EdgeIn r skip_sp) (nodes_in r)) (IsAt (nodes_in r) from) (IsAt (nodes_in r) to)) none shortest.path
    no_trace nodes none (inr never) = never.1 way.0 way.1

    no_nodes : (ns : List ℕ) → AreHops (EdgeIn r skip_sp) (nodes_in r) ns [] → ns ≡ []
    no_nodes [] are = refl
    no_nodes (n ∷ ns) are = absurd are

    some_hop : (hops : List Hop) → IsWhy (EdgeIn r skip_sp) (nodes_in r) from to hops → ¬ (hops ≡ [])
    some_hop hops why none =
        no_trace why.0 (no_nodes (reverse why.0) (subst (AreHops (EdgeIn r skip_sp) (nodes_in r) (reverse why.0)) (none_reversed hops none) why.2)) why.1

    on_way : (k : ℕ) (w : LiesOnWay (machine image settings) skip_sp run j i k) → InChop (EdgeIn r skip_sp) (nodes_in r) from to (number w.occurrence)
    on_way k w = (below w.below, above w.above)
      where
        below : (k ≡ i) ⊎ Depends (machine image settings) skip_sp run k i → InForward (EdgeIn r skip_sp) (nodes_in r) from (number w.occurrence)
        below (inl e) =
            let same = same_Some d.earlier w.occurrence (sym d.earlier_is ∙ ap (slice_get run) (sym e) ∙ w.is_there) in
            subst (λ (o : Occurrence Act). InForward (EdgeIn r skip_sp) (nodes_in r) from (number o)) same (seed begins)
        below (inr depends) = forward_of k w.occurrence w.is_there depends

        above : (j ≡ k) ⊎ Depends (machine image settings) skip_sp run j k → InSlice (EdgeIn r skip_sp) (nodes_in r) to (number w.occurrence)
        above (inl e) =
            let same = same_Some d.later w.occurrence (sym d.later_is ∙ ap (slice_get run) e ∙ w.is_there) in
            subst (λ (o : Occurrence Act). InSlice (EdgeIn r skip_sp) (nodes_in r) to (number o)) same (seed ends)
        above (inr depends) = sliced to j k d.later w.occurrence d.later_is d.ends w.is_there depends

    pub way_told : TellsWay (machine image settings) r skip_sp run from to j i
    way_told =
        record {
          forward = λ addresses are. (are.listed to).1 (number d.later, ends, reached);
          why = some_hop;
          chop = λ addresses are k w. (are.listed (stands_at w.occurrence)).1 (number w.occurrence, stands k w.occurrence w.is_there, on_way k w);
        }
