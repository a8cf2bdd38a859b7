use Rattle.matched_calls.specs.Extended.{AreSites}
use Rattle.matched_calls.proofs.sites.list_sites.Given as goal

abbrev pub invariant-loop-pair : goal.invariant-loop-pair
invariant-loop-pair l = AreSites l.nodes l.kinds l.pair-index l.sites.items
