-- What replies tell of a round is settled by its number and the number of call sites that its nodes keep.
use Rattle.std.proofs.Common.{◌≡◌, ℕ, List, [], ◌∷◌, length, map, refl, sym, subst, ap, ◌∙◌}
use Rattle.image_map.specs.declared.image.Image.{Image}
use Rattle.image_map.specs.declared.region.Settings.{Settings}
use Rattle.alocs.specs.Cells.{Division}
use Rattle.flow_graph.specs.declared.graph.FlowNode.{FlowNode}
use Rattle.dep_graph.specs.DepGraph.{DataEdge}
use Rattle.dep_graph.specs.Edges.{HasEdges, OrdinaryEdge}
use Rattle.call_strings.specs.declared.context.Node.{Node}
use Rattle.abs_state.specs.declared.state.AbsState.{AbsState as Held}
use Rattle.abs_steps.specs.Successors.{Placed, States}
use Rattle.vsa.specs.declared.warning.Warning.{Warning}
use Rattle.vsa.specs.Views.{placed_with, told}
use Rattle.rounds.specs.declared.round.Round.{Round}
use Rattle.rounds.specs.Rounds.{HasCells, IsRound}
use Rattle.rounds.proofs.RoundLemmas.{one_cells, one_flow, one_map, one_warnings}
use Rattle.round_answers.proofs.RisingLemmas.{one_pairs}

-- what replies tell of a round
pub record Face : Type 0 where
  pub number : ℕ
  pub lane : ℕ
  pub cells : Division
  pub map : States
  pub nodes : List Node
  pub graph : List FlowNode
  pub ordinary : List (ℕ × ℕ)
  pub sp : List (ℕ × ℕ)
  pub warnings : List Warning

abbrev pub face_of : Round → Face
face_of r = record {
  number = r.number;
  lane = r.lane;
  cells = r.cells;
  map = told r.states;
  nodes = r.states.nodes.items;
  graph = r.graph.flow.nodes;
  ordinary = r.graph.edges.ordinary;
  sp = r.graph.edges.sp;
  warnings = r.warnings.items;
}

nodes_placed : (ns : List Node) (vs : List Held) → length ns ≡ length vs → map (λ (p : Placed). p.node) (placed_with ns vs) ≡ ns
nodes_placed [] vs many = refl
nodes_placed (n ∷ ns) [] many = absurd (cc many)
nodes_placed (n ∷ ns) (v ∷ vs) many = ap (λ (ms : List Node). n ∷ ms) (nodes_placed ns vs (cc many))

pub one_face : (image : Image) (settings : Settings) (r q : Round) → IsRound image settings r → IsRound image settings q → r.number ≡ q.number → r.lane ≡ q.lane → face_of r ≡ face_of q
one_face image settings r q a b number lane =
    let there : HasCells image settings q.lane q.number r.cells = subst (λ k. HasCells image settings k q.number r.cells) lane (subst (λ k. HasCells image settings r.lane k r.cells) number a.cells) in
    let cells : r.cells ≡ q.cells = one_cells image settings q.lane q.number r.cells q.cells there b.cells in
    let states : told r.states ≡ told q.states = one_map image settings r q a b number lane in
    let nodes : r.states.nodes.items ≡ q.states.nodes.items =
    sym (nodes_placed r.states.nodes.items r.states.values.items a.form.as_many)
    ∙ ap (λ (s : States). map (λ (p : Placed). p.node) s.placed) states
    ∙ nodes_placed q.states.nodes.items q.states.values.items b.form.as_many in
    let graph : r.graph.flow.nodes ≡ q.graph.flow.nodes = one_flow image settings r q a b number lane in
    let edges : HasEdges r.graph.flow.nodes q.graph.edges.ordinary q.graph.edges.sp = subst (λ (g : List FlowNode). HasEdges g q.graph.edges.ordinary q.graph.edges.sp) (sym graph) b.edges in
    let ordinary : r.graph.edges.ordinary ≡ q.graph.edges.ordinary = one_pairs (OrdinaryEdge r.graph.flow.nodes) r.graph.edges.ordinary q.graph.edges.ordinary a.edges.ordinary_edges edges.ordinary_edges in
    let sp : r.graph.edges.sp ≡ q.graph.edges.sp = one_pairs (DataEdge r.graph.flow.nodes 4) r.graph.edges.sp q.graph.edges.sp a.edges.sp_edges edges.sp_edges in
    let warnings : r.warnings.items ≡ q.warnings.items = one_warnings image settings r q a b number lane in
    λ i. record {
      number = number i;
      lane = lane i;
      cells = cells i;
      map = states i;
      nodes = nodes i;
      graph = graph i;
      ordinary = ordinary i;
      sp = sp i;
      warnings = warnings i;
    }
