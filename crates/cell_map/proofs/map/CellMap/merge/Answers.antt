use Rattle.std.proofs.Common.{sym, ◌∙◌, ap, subst}
use Rattle.cell_map.specs.Lists.{AreRising}
use Rattle.cell_map.specs.Merges.{value_of_both, merged}
use Rattle.cell_map.proofs.StepLemmas.{nothing_alone}
use Rattle.cell_map.proofs.MergeLemmas.{merged_rising, merged_rebuilt}
use Rattle.cell_map.proofs.map.CellMap.merge.Goals as goal

pub invariant_of-result : goal.invariant_of-result
invariant_of-result c =
    let rule = c.args.rule.now in
    subst AreRising (sym c.in_ok-entries.ensures)
    (merged_rising (value_of_both rule.both rule.first rule.second) (nothing_alone rule.both rule.first rule.second) c.entries.result.now c.entries-2.result.now c.entries.ensures.rising c.entries-2.ensures.rising)

pub returns : goal.returns
returns c =
    let rule = c.args.rule.now in
    let f = value_of_both rule.both rule.first rule.second in
    c.in_ok-entries.ensures
    ∙ ap (λ xs. merged f xs c.entries-2.result.now) c.entries.ensures.value ∙ ap (merged f c.args.self.now) c.entries-2.ensures.value
    ∙ merged_rebuilt f (nothing_alone rule.both rule.first rule.second) c.args.self.now c.args.other.now (subst AreRising c.entries.ensures.value c.entries.ensures.rising) (subst AreRising c.entries-2.ensures.value c.entries-2.ensures.rising)
