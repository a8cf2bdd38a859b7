-- Dependences are arrows of the graph, and slices list them.
use Rattle.std.proofs.Common.{◌≡◌, inl, inr, ℕ, zero, suc, List, refl, sym, ap, subst, ◌∙◌}
use Rattle.std.specs.Prelude.{Bool, Some, slice_get}
use Rattle.std.proofs.lemmas.Option.{same_Some}
use Rattle.flow_graph.specs.FlowGraph.{IsAt}
use Rattle.flow_graph.specs.Marked.Marked.{seed, step}
use Rattle.control_walks.specs.ControlWalks.{Controls}
use Rattle.ia32_semantics.specs.Machine.{Machine}
use Rattle.ia32_semantics.specs.Runs.{OccurrenceOf, stands_at, IsRun}
use Rattle.ia32_semantics.specs.Dependence.{DirectDependence, Chain, Depends}
use Rattle.slice_soundness.specs.Maps.{Map, number_of}
use Rattle.slice_soundness.specs.Premises.{Describes}
use Rattle.slicer.specs.Slicer.{FlowEdge, InSlice}
use Rattle.slice_soundness.specs.Arrows.{FlowArrow}
use Rattle.slice_soundness.specs.Laws.{StandsAtNumber, DependencesAreArrows, DependencesAreChains, SlicesListDependences}
use Rattle.slice_soundness.proofs.RunLemmas.{comes_at}
use Rattle.slice_soundness.proofs.WalkLemmas.{meets_node}
use Rattle.slice_soundness.proofs.DataLemmas.{data_has_edges}
use Rattle.slice_soundness.proofs.ControlLemmas.{branches_control}

-- a chain of what holds also of other numbers
pub chain_as : (D E : ℕ → ℕ → Type 0) (to : (k n : ℕ) → Type 0)
    → ((j i n : ℕ) → D j i → to j n → (o : ℕ) × to i o × E n o)
    → ((j i n o : ℕ) → D j i → to j n → to i o → E n o)
    → (length j i n o : ℕ) → Chain D length j i → to j n → to i o → Chain E length n o
chain_as D E to next last zero j i n o chain from there = last j i n o chain from there
chain_as D E to next last (suc length) j i n o chain from there =
    let first = next j chain.0 n chain.1 from in
    (first.0, first.2, chain_as D E to next last length chain.0 i first.0 o chain.2 first.1 there)

module _ (m : Machine) (v : Map) (d : Describes m v) where
  -- the number of an occurrence's node is one
  number_at : (run : List (OccurrenceOf m)) (k number : ℕ) (o : OccurrenceOf m) → slice_get run k ≡ Some o → StandsAtNumber m v run k number → number_of v o.before ≡ number
  number_at run k number o is at = ap (λ p. number_of v p.before) (same_Some o at.occurrence (sym is ∙ at.is_there)) ∙ sym at.number_is

  pub dependences_are_arrows : DependencesAreArrows m v
  dependences_are_arrows run is skip_sp j i from to (inl by) at there =
      let edge = data_has_edges m v d.follows d.graph d.covers run is skip_sp by.0 j i by.1 in
      inl (subst (λ n. FlowEdge v.graph skip_sp n to) (number_at run i from by.1.writer by.1.writer_is at)
      (subst (λ n. FlowEdge v.graph skip_sp (number_of v by.1.writer.before) n) (number_at run j to by.1.reader by.1.reader_is there) edge))
  dependences_are_arrows run is skip_sp j i from to (inr control) at there =
      let controls = branches_control m v d.follows d.graph run is j i control in
      inr (subst (λ n. Controls v.graph n to) (number_at run i from control.branch control.branch_is at)
      (subst (λ n. Controls v.graph (number_of v control.branch.before) n) (number_at run j to control.later control.later_is there) controls))

  -- the occurrence on which another depends directly
  source_of : (run : List (OccurrenceOf m)) (skip_sp : Bool) (j i : ℕ) → DirectDependence m skip_sp run j i → (o : OccurrenceOf m) × (slice_get run i ≡ Some o)
  source_of run skip_sp j i (inl by) = (by.1.writer, by.1.writer_is)
  source_of run skip_sp j i (inr control) = (control.branch, control.branch_is)

  pub dependences_are_chains : DependencesAreChains m v
  dependences_are_chains run is skip_sp j i n later earlier there at chain =
      chain_as (DirectDependence m skip_sp run) (λ to from. FlowArrow v.graph skip_sp from to) (StandsAtNumber m v run)
      (λ k l number direct from.
      let source = source_of run skip_sp k l direct in
      let lands : StandsAtNumber m v run l (number_of v source.0.before) = record { occurrence = source.0; is_there = source.1; number_is = refl } in
      (number_of v source.0.before, lands, dependences_are_arrows run is skip_sp k l (number_of v source.0.before) number direct lands from))
      (λ k l number other direct from lands. dependences_are_arrows run is skip_sp k l other number direct lands from)
      n j i (number_of v later.before) (number_of v earlier.before) chain
      (record { occurrence = later; is_there = there; number_is = refl })
      (record { occurrence = earlier; is_there = at; number_is = refl })

  -- what has the sources of arrows has the source of a chain
  pub chain_in : (skip_sp : Bool) (P : ℕ → Type 0) → ((from to : ℕ) → FlowArrow v.graph skip_sp from to → P to → P from) → (length n o : ℕ) → Chain (λ to from. FlowArrow v.graph skip_sp from to) length n o → P n → P o
  chain_in skip_sp P back zero n o chain has = back o n chain has
  chain_in skip_sp P back (suc length) n o chain has = chain_in skip_sp P back length chain.0 o chain.2 (back chain.0 n chain.1 has)

  -- The node of whatever an occurrence depends on is in each set that has the occurrence's node and the sources of arrows.
  pub depends_in : (skip_sp : Bool) (P : ℕ → Type 0) → ((from to : ℕ) → FlowArrow v.graph skip_sp from to → P to → P from)
      → (run : List (OccurrenceOf m)) → IsRun m run → (j i : ℕ) (later earlier : OccurrenceOf m) → slice_get run j ≡ Some later → slice_get run i ≡ Some earlier
      → Depends m skip_sp run j i → P (number_of v later.before) → P (number_of v earlier.before)
  depends_in skip_sp P back run is j i later earlier there at depends has =
      chain_in skip_sp P back depends.0 (number_of v later.before) (number_of v earlier.before)
      (dependences_are_chains run is skip_sp j i depends.0 later earlier there at depends.1) has

  stands_there : (run : List (OccurrenceOf m)) → IsRun m run → (k : ℕ) (o : OccurrenceOf m) → slice_get run k ≡ Some o → IsAt v.graph (stands_at o) (number_of v o.before)
  stands_there run is k o at = meets_node m v d.follows d.graph o (comes_at m v d.follows run is k o at)

  pub slices_list_dependences : SlicesListDependences m v
  slices_list_dependences skip_sp at addresses lists run is j i criterion source criterion_is here source_is depends =
      lists (stands_at source) (number_of v source.before) (stands_there run is i source source_is)
      (depends_in skip_sp (InSlice (FlowEdge v.graph skip_sp) v.graph at) (λ from to arrow sliced. step arrow sliced) run is j i criterion source criterion_is source_is depends
      (seed (subst (λ a. IsAt v.graph a (number_of v criterion.before)) here (stands_there run is j criterion criterion_is))))
