use Rattle.abs_state.specs.Views.{seen}
use Rattle.abs_state.proofs.ReadLemmas.{value_joined, values_end}
use Rattle.abs_state.proofs.state.AbsState.joined_onto.Goals as goal

pub loop-i-preserved : goal.loop-i-preserved
loop-i-preserved c =
    value_joined (seen c.args.self.now) c.args.cells.now c.loop-i.i c.element-cell.result c.loop-i.out c.in_ok-out.out c.in_ok-value.value _ c.loop-i-test.true c.element-cell.ensures c.in_ok-value.ensures c.in_ok-out.ensures.value c.loop-i.invariant

pub returns : goal.returns
returns c = values_end (seen c.args.self.now) c.args.cells.now c.loop-i.i c.loop-i.out _ c.loop-i-test.false c.loop-i.invariant
