use Rattle.access_facts.proofs.LoopLemmas.{parts_step, parts_end}
use Rattle.access_facts.proofs.facts.push_parts.Goals as goal

pub loop-part-preserved : goal.loop-part-preserved
loop-part-preserved c =
    parts_step c.args.len c.loop-part.rest.now c.in-Some.behind.now c.in-Some.part.now c.loop-part.facts.items c.push_part.new.facts.items c.push_next.new.facts.items _ c.in-Some.ensures.cases.0 c.in_ok-push_part.ensures c.in_ok-push_next.ensures
    c.loop-part.invariant

pub returns : goal.returns
returns c = parts_end c.args.len c.loop-part.rest.now c.loop-part.facts.items _ c.in_default.ensures.cases c.loop-part.invariant
