use Rattle.std.proofs.Common.{◌∙◌}
use Rattle.call_strings.proofs.OrderLaws.{before_in_one, before_in_others}
use Rattle.call_strings.proofs.context.Node.is_before.Goals as goal

pub returns-then-self-other : goal.returns-then-self-other
returns-then-self-other c = c.is_place_before.ensures ∙ before_in_one c.args.self.now c.args.other.now c.if-self-other.true

pub returns-else-self-other : goal.returns-else-self-other
returns-else-self-other c = before_in_others c.args.self.now c.args.other.now c.if-self-other.false
