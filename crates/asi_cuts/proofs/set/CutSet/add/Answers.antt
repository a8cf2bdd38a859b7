use Rattle.std.proofs.Common.{◌≡◌, ◌≤◌, List, length, true, false, subst, sym, ◌∙◌}
use Rattle.std.specs.List.Sorted.{IsPartitionPoint}
use Rattle.asi_cuts.specs.declared.set.Cut.{Cut}
use Rattle.asi_cuts.specs.Closed.{cut_before}
use Rattle.asi_cuts.proofs.AddLemmas.{grows_none}
use Rattle.asi_cuts.proofs.OrderLemmas.{both_kept, there_already}
use Rattle.asi_cuts.proofs.set.CutSet.add.Goals as goal

pub returns-then-is_at : goal.returns-then-is_at
returns-then-is_at c = (
  grows_none _ c.args.self.now,
  there_already c.args.self.now c.self.inside.found.items c.self.inside.sorted.items c.as_slice-2.result.now c.args.cut c.place_of-place.result c.is_at.result c.self.view_is c.as_slice-2.ensures.value c.self.invariant.1 c.is_at.ensures c.if-is_at.true,
  c.requires,
)

pub invariant_of-self : goal.invariant_of-self
invariant_of-self c =
    let seen : c.as_slice.result.now ≡ c.as_slice-2.result.now = c.as_slice.ensures.value ∙ sym c.as_slice-2.ensures.value in
    both_kept c.self.inside.found.items c.put.new.found.items c.self.inside.sorted.items c.put.new.sorted.items c.as_slice-2.result.now c.args.cut c.place_of-place.result c.is_at.result c.put.result
    c.put.ensures.found c.put.ensures.sorted c.put.ensures.err_found c.put.ensures.err_sorted c.as_slice-2.ensures.value c.self.invariant.0 c.self.invariant.1
    (subst (λ (l : List Cut). c.place_of-place.result ≤ length l) seen c.place_of-place.ensures.within)
    (subst (λ (l : List Cut). IsPartitionPoint (λ (x : Cut). cut_before x c.args.cut ≡ true) (λ x. cut_before x c.args.cut ≡ false) l c.place_of-place.result) seen c.place_of-place.ensures.point)
    c.is_at.ensures c.if-is_at.false
