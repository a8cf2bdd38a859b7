-- When a text is the reply to a slice.
use Rattle.std.proofs.Common.{◌≡◌, ℕ, Bool, List, length, inl, ◌∙◌}
use Rattle.dep_graph.specs.Edges.{HasEdges}
use Rattle.requests.specs.Texts.{slice_text}
use Rattle.rounds.specs.declared.round.Round.{Round}
use Rattle.slicer.specs.Slicer.{ListedEdge, IsSlice}
use Rattle.slicer.proofs.SliceLaws.{slice-of_edges}
use Rattle.service.specs.Replies.{IsAbsent, IsSliceReply}

pub lists_slice : (r : Round) (at : ℕ) (skip_sp : Bool) (addresses listed : List ℕ) (count : ℕ) (text : List ℕ) → HasEdges r.graph.flow.nodes r.graph.edges.ordinary r.graph.edges.sp → ¬ IsAbsent r at
    → IsSlice (ListedEdge r.graph.edges.ordinary r.graph.edges.sp skip_sp) r.graph.flow.nodes at addresses
    → listed ≡ addresses → count ≡ length r.warnings.items → text ≡ slice_text at r.number r.lane listed count → IsSliceReply r at skip_sp text
lists_slice r at skip_sp addresses listed count text edges there slice same counted is = inl (record {
  is_there = there;
  addresses = addresses;
  slice = (slice-of_edges r.graph.flow.nodes r.graph.edges.ordinary r.graph.edges.sp skip_sp at addresses edges).0 slice;
  text_is = is ∙ (λ i. slice_text at r.number r.lane (same i) (counted i));
})
