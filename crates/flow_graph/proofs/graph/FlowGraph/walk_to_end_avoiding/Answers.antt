use Rattle.std.proofs.Common.{◌∙◌, refl, sym, subst, ℕ, ◌<◌, List, length, Bool}
use Rattle.std.specs.Prelude.{◌↔◌}
use Rattle.flow_graph.specs.Walks.{IsOn, Arrives}
use Rattle.flow_graph.proofs.WalkLaws.{escapes-not, escapes-here, escapes-met}
use Rattle.flow_graph.proofs.graph.FlowGraph.walk_to_end_avoiding.Goals as goal

pub returns-then-not-is_on : goal.returns-then-not-is_on
returns-then-not-is_on c =
    escapes-not c.args.self.now.nodes c.as_slice-nodes.result.now c.as_slice-kept.result.now c.args.at c.args.from c.as_slice-nodes.ensures (c.as_slice-kept.ensures.value ∙ c.in_ok-elsewhere.ensures)
    (λ on. let is = c.is_on.ensures.1 on in absurd (cc))

pub returns-then-is_end : goal.returns-then-is_end
returns-then-is_end c =
    escapes-here c.args.self.now.nodes c.as_slice-nodes.result.now c.as_slice-kept.result.now c.args.at c.args.from c.as_slice-nodes.ensures (c.as_slice-kept.ensures.value ∙ c.in_ok-elsewhere.ensures)
    (c.if-not-is_on.ensures.0 refl) (c.if-is_end.ensures.0 refl)

pub returns : goal.returns
returns c =
    escapes-met c.args.self.now.nodes c.as_slice-nodes.result.now c.as_slice-kept.result.now c.as_slice.result.now c.args.at c.args.from c.meets_end.result c.as_slice-nodes.ensures (c.as_slice-kept.ensures.value ∙ c.in_ok-elsewhere.ensures)
    (c.if-not-is_on.ensures.0 refl) (λ end. let is = c.is_end.ensures.1 end in absurd (cc))
    (subst (λ (marks : List Bool). (n : ℕ) → n < length c.as_slice-nodes.result.now → IsOn marks n ↔ Arrives c.as_slice-nodes.result.now c.as_slice-kept.result.now c.args.from n) (sym c.as_slice.ensures.value) c.in_ok-marks.ensures.arrives)
    c.meets_end.ensures
