use Rattle.std.proofs.Common.{refl}
use Rattle.std.specs.Borrow.{Bor}
use Rattle.call_strings.specs.declared.context.Node.{Node}
use Rattle.abs_state.specs.declared.state.AbsState.{AbsState}
use Rattle.transfer_flow.specs.Successors.{placed_of}
use Rattle.access_facts.proofs.LoopLemmas.{map_step, map_end}
use Rattle.access_facts.proofs.numbers.all_procedures.Goals as goal

pub loop-other-preserved : goal.loop-other-preserved
loop-other-preserved c =
    map_step (λ (o : Bor Node × Bor AbsState). (placed_of o).node.context.proc) c.args.placed.now c.loop-other.other-index c.other-item.result _ c.loop-other.found.items _ _ c.loop-other-test.true c.other-item.is refl c.in_ok-push.ensures.items
    c.loop-other.invariant

pub returns : goal.returns
returns c = map_end (λ (o : Bor Node × Bor AbsState). (placed_of o).node.context.proc) c.args.placed.now c.loop-other.other-index c.loop-other.found.items _ c.loop-other-test.false c.loop-other.invariant
