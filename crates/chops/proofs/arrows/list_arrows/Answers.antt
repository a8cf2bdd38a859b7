use Rattle.std.proofs.Common.{◌∙◌, ap, List, ℕ, ◌++◌}
use Rattle.chops.proofs.PairSetLemmas.{arrows_all}
use Rattle.chops.proofs.arrows.list_arrows.Goals as goal

pub returns : goal.returns
returns c =
    arrows_all c.args.graph.now.flow.nodes c.args.graph.now.edges.ordinary c.args.graph.now.edges.sp c.in_ok-arrows.arrows.items c.as_slice.result.now c.sp_edges.result.now c.extend_from_slice-2.new.self.items c.args.skip_sp
    c.in_ok-arrows.ensures c.as_slice.ensures c.sp_edges.ensures
    (c.in_ok-extend_from_slice-2.ensures.items ∙ ap (λ (xs : List (ℕ × ℕ)). xs ++ c.sp_edges.result.now) c.in_ok-extend_from_slice.ensures.items)
