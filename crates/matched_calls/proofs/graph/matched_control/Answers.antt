use Rattle.std.proofs.Common.{◌≡◌, ◌∙◌, Bool, List, ap, length, sym}
use Rattle.std.proofs.lemmas.List.{with_items_is}
use Rattle.matched_calls.proofs.GraphLemmas.{control_by}
use Rattle.matched_calls.proofs.graph.matched_control.Goals as goal

pub returns : goal.returns
returns c =
    let len : length c.mark_walks.new.marks ≡ c.in_ok-marks.marks.len = c.mark_walks.auto.marks ∙ ap (λ (ps : List (List Bool)). length ps) c.as_mut_slice.ensures.value ∙ sym c.in_ok-marks.marks.ok.0 in
    control_by c.args.graph.now.nodes c.args.ground.now.nodes.now c.args.ground.now.kinds.now (length c.args.ground.now.nodes.now) c.in_ok-pairs.pairs.items c.as_slice.result.now c.in_ok-control.control.items c.as_mut_slice.result.now c.mark_walks.new.marks c.as_slice-2.result.now c.requires.same
    (c.as_mut_slice.ensures.value ∙ c.in_ok-marks.ensures) c.as_slice.ensures.value (c.as_slice-2.ensures.value ∙ with_items_is c.in_ok-marks.marks c.mark_walks.new.marks len) c.in_ok-pairs.ensures c.in_ok-mark_walks.ensures.adds c.in_ok-control.ensures
