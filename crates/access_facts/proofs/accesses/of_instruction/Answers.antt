use Rattle.std.proofs.Common.{◌∙◌, sym}
use Rattle.access_facts.proofs.accesses.of_instruction.Goals as goal

pub returns-then-goes_to_callees : goal.returns-then-goes_to_callees
returns-then-goes_to_callees c = c.of_call.ensures c.args.goes_on (sym c.goes_to_callees.ensures ∙ c.if-goes_to_callees.true)

pub returns-else-goes_to_callees : goal.returns-else-goes_to_callees
returns-else-goes_to_callees c = c.of_plain.ensures c.args.image.now c.args.goes_on (sym c.goes_to_callees.ensures ∙ c.if-goes_to_callees.false)
