use Rattle.std.proofs.Common.{◌≡◌, ◌∙◌, ◌<◌, Bool, List, ℕ, ap, length, subst, sym}
use Rattle.std.specs.Prelude.{◌↔◌}
use Rattle.std.proofs.lemmas.List.{with_items_is}
use Rattle.flow_graph.specs.FlowGraph.{MustDefine}
use Rattle.flow_graph.specs.Walks as walks
use Rattle.dep_graph.proofs.WalkedLemmas.{walked-edge}
use Rattle.dep_graph.proofs.laws.add_walk.Goals as goal

pub returns-clause-marks : goal.returns-clause-marks
returns-clause-marks c =
    let len : length c.mark_free.new.free ≡ c.in_ok-free.free.len = c.mark_free.auto.free ∙ ap (λ (ms : List Bool). length ms) c.deref_mut.ensures.value ∙ sym c.in_ok-free.free.ok.0 in
    let free : c.deref.result.now ≡ c.mark_free.new.free = c.deref.ensures.value ∙ with_items_is c.in_ok-free.free c.mark_free.new.free len in
    walked-edge c.args.nodes.now c.args.place c.args.from c.deref.result.now c.deref-2.result.now c.args.row.now c.add_users.new.row c.requires.defines
    (subst (λ (ms : List Bool). (m : ℕ) → m < length c.args.nodes.now → walks.IsOn ms m ↔ (¬ MustDefine c.args.nodes.now c.args.place m)) (sym free) c.mark_free.ensures)
    (subst (λ (ms : List Bool). (n : ℕ) → n < length c.args.nodes.now → walks.IsOn ms n ↔ walks.Arrives c.args.nodes.now c.deref.result.now c.args.from n) (sym c.deref-2.ensures.value) c.in_ok-marks.ensures.arrives)
    c.add_users.ensures.marks
