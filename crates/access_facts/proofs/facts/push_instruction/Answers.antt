use Rattle.abs_state.specs.Views.{seen}
use Rattle.access_facts.proofs.NodeLemmas.{instruction_facts}
use Rattle.access_facts.proofs.facts.push_instruction.Goals as goal

pub returns : goal.returns
returns c = λ v same read written.
    instruction_facts v (seen c.args.state.now) c.args.instr.now c.copies-copied.result c.args.reads.now c.args.writes.now c.args.facts.now.items c.push_reaches.new.facts.items c.push_reaches-2.new.facts.items c.push_copies_if.new.facts.items
    same read written c.in_ok-push_reaches.ensures c.in_ok-push_reaches-2.ensures c.copies-copied.ensures c.in_ok-push_copies_if.ensures
