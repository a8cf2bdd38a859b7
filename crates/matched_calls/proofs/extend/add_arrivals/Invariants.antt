use Rattle.matched_calls.proofs.ExtendLemmas.{Arriving}
use Rattle.matched_calls.proofs.extend.add_arrivals.Given as goal

abbrev pub invariant-loop-pair : goal.invariant-loop-pair
invariant-loop-pair l = Arriving l.count l.after l.pair-index l.initial.extended.items l.extended.items
