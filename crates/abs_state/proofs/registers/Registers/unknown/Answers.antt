use Rattle.abs_state.proofs.RegisterLemmas.{one_top_more}
use Rattle.abs_state.proofs.registers.Registers.unknown.Goals as goal

pub loop-preserved : goal.loop-preserved
loop-preserved c = one_top_more c.loop.counter c.loop.values.items c.push.new.self.items c.top.result c.loop.invariant c.top.ensures c.in_ok-push.ensures.items
