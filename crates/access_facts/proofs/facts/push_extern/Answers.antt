use Rattle.access_facts.proofs.NodeLemmas.{extern_facts}
use Rattle.access_facts.proofs.facts.push_extern.Goals as goal

pub returns : goal.returns
returns c = λ v k read written. extern_facts v k c.args.reads.now c.args.writes.now c.args.facts.now.items c.push_reaches.new.facts.items c.push_reaches-2.new.facts.items read written c.in_ok-push_reaches.ensures c.in_ok-push_reaches-2.ensures
