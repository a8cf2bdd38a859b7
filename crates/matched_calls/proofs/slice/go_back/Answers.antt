use Rattle.std.proofs.Common.{◌∙◌, ℕ, List, refl, sym, subst}
use Rattle.slicer.specs.Slicer.{ListedEdge}
use Rattle.slicer.specs.Search as search
use Rattle.slicer.specs.Search.{Follows, Grows}
use Rattle.slicer.proofs.GrowLemmas.{grows-none}
use Rattle.matched_calls.specs.Slices.{IsBefore}
use Rattle.matched_calls.proofs.SliceLemmas.{passes_end, passes_more}
use Rattle.matched_calls.proofs.slice.go_back.Goals as goal

pub loop-skip_sp-init : goal.loop-skip_sp-init
loop-skip_sp-init c = record {
  size = refl;
  grows = grows-none (IsBefore (ListedEdge c.args.m.now.edges.ordinary c.args.m.now.edges.sp c.args.skip_sp) c.args.m.now.control) c.args.queue.now.nodes;
}

pub loop-skip_sp-preserved : goal.loop-skip_sp-preserved
loop-skip_sp-preserved c = record {
  size = c.sweep.ensures.size ∙ c.follow_edges.ensures.size ∙ c.loop-skip_sp.invariant.size;
  grows = passes_more (ListedEdge c.args.m.now.edges.ordinary c.args.m.now.edges.sp c.args.skip_sp) c.args.m.now.control c.args.queue.now.nodes c.loop-skip_sp.queue.nodes c.follow_edges.new.queue.nodes c.sweep.new.queue.nodes c.loop-skip_sp.invariant.grows c.follow_edges.ensures.grows
      (subst (λ (xs : List (ℕ × ℕ)). Grows (search.IsBefore xs) c.follow_edges.new.queue.nodes c.sweep.new.queue.nodes) c.as_slice.ensures c.sweep.ensures.grows);
}

pub returns-then-len-before-clause-closed : goal.returns-then-len-before-clause-closed
returns-then-len-before-clause-closed c =
    passes_end (ListedEdge c.args.m.now.edges.ordinary c.args.m.now.edges.sp c.args.skip_sp) c.args.m.now.control c.loop-skip_sp.queue.nodes c.follow_edges.new.queue.nodes c.sweep.new.queue.nodes c.follow_edges.ensures.grows
    (subst (λ (xs : List (ℕ × ℕ)). Grows (search.IsBefore xs) c.follow_edges.new.queue.nodes c.sweep.new.queue.nodes) c.as_slice.ensures c.sweep.ensures.grows) c.follow_edges.ensures.follows
    (subst (λ (xs : List (ℕ × ℕ)). Follows (search.IsBefore xs) c.follow_edges.new.queue.nodes c.sweep.new.queue.nodes) c.as_slice.ensures c.sweep.ensures.follows) (sym c.len.ensures.nodes ∙ c.if-len-before.true ∙ c.len-before.ensures.nodes)
