use Rattle.std.proofs.Common.{◌≡◌, ◌∙◌, ℕ, List, ap, length, subst, sym}
use Rattle.std.proofs.lemmas.List.{with_items_is}
use Rattle.flow_graph.specs.FlowGraph.{IsAt}
use Rattle.chops.specs.Following.{IsAfter}
use Rattle.chops.specs.Counts.{AreFewest, AreWays}
use Rattle.chops.proofs.CountLemmas.{first_ways}
use Rattle.chops.proofs.counts.count_arrows.Goals as goal

pub returns-clause-fewest : goal.returns-clause-fewest
returns-clause-fewest c =
    let len : length c.settle.new.counts ≡ c.in_ok-counts.counts.len = c.settle.ensures.many ∙ ap (λ (xs : List ℕ). length xs) c.as_mut_slice.ensures.value ∙ sym c.in_ok-counts.counts.ok.0 in
    subst (λ (xs : List ℕ). AreFewest (IsAfter c.args.arrows.now) (IsAt c.args.nodes.now c.args.at) xs) (sym (with_items_is c.in_ok-counts.counts c.settle.new.counts len))
    (record {
      ways = c.settle.ensures.ways c.args.nodes.now c.args.at
          (subst (λ (xs : List ℕ). AreWays (IsAfter c.args.arrows.now) (IsAt c.args.nodes.now c.args.at) xs) (sym (c.as_mut_slice.ensures.value ∙ c.in_ok-counts.ensures)) (first_ways (IsAfter c.args.arrows.now) c.args.at c.args.nodes.now));
      short = c.settle.ensures.short;
    })
