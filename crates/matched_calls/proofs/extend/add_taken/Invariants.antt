use Rattle.matched_calls.specs.Adding.{AddsItems}
use Rattle.matched_calls.proofs.ExtendLemmas.{ByTurns, IsTakenAt}
use Rattle.matched_calls.proofs.extend.add_taken.Given as goal

abbrev pub invariant-loop-to : goal.invariant-loop-to
invariant-loop-to l = AddsItems (ByTurns (IsTakenAt l.kinds l.phase l.count l.node l.next) l.to-index) l.initial.list.items l.list.items
