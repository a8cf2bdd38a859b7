use Rattle.access_facts.proofs.NumberLemmas.{last_put, none_left}
use Rattle.access_facts.proofs.numbers.rising.Goals as goal

pub loop-number-preserved : goal.loop-number-preserved
loop-number-preserved c = last_put c.loop-number.rest.now c.in-Some.before.now c.in-Some.number.now c.loop-number.found.items _ _ c.in-Some.ensures.cases.0 c.in_ok-put_number.ensures c.loop-number.invariant

pub returns : goal.returns
returns c = none_left c.loop-number.rest.now c.loop-number.found.items _ c.in_default.ensures.cases c.loop-number.invariant
