-- What a session is told. The project's own.
use Rattle.std.specs.Prelude.{◌≡◌, ◌⊎◌, ℕ, Bool, List, length}
use Rattle.flow_graph.specs.FlowGraph.{IsAt}
use Rattle.slicer.specs.Slicer.{FlowEdge, IsSlice}
use Rattle.requests.specs.Texts.{slice_text, absent_text}
use Rattle.rounds.specs.declared.round.Round.{Round}

-- no node of the round has the address
abbrev pub IsAbsent : Round → ℕ → Type 0
IsAbsent r at = (n : ℕ) → ¬ IsAt r.graph.flow.nodes at n

-- the reply that lists the slice of the round's graph
pub record ListsSlice (r : Round) (at : ℕ) (skip_sp : Bool) (text : List ℕ) : Type 0 where
  pub is_there : ¬ IsAbsent r at
  pub addresses : List ℕ
  pub slice : IsSlice (FlowEdge r.graph.flow.nodes skip_sp) r.graph.flow.nodes at addresses
  pub text_is : text ≡ slice_text at r.number r.lane addresses (length r.warnings.items)

-- the reply that the address is absent
pub record TellsAbsent (r : Round) (at : ℕ) (text : List ℕ) : Type 0 where
  pub is_absent : IsAbsent r at
  pub text_is : text ≡ absent_text at r.number r.lane

abbrev pub IsSliceReply : Round → ℕ → Bool → List ℕ → Type 0
IsSliceReply r at skip_sp text = ListsSlice r at skip_sp text ⊎ TellsAbsent r at text
