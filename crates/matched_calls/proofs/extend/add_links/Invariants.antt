use Rattle.matched_calls.specs.Adding.{AddsItems}
use Rattle.matched_calls.proofs.ExtendLemmas.{ByTurns, IsLinkAt}
use Rattle.matched_calls.proofs.extend.add_links.Given as goal

abbrev pub invariant-loop-j : goal.invariant-loop-j
invariant-loop-j l = AddsItems (ByTurns (IsLinkAt l.count l.after l.node) l.j) l.initial.list.items l.list.items
