use Rattle.std.proofs.Common.{◌<◌, length, arith}
use Rattle.abs_state.proofs.ViewLemmas.{registers_step, registers_end}
use Rattle.abs_state.proofs.registers.values_of.Goals as goal

pub loop-i-preserved : goal.loop-i-preserved
loop-i-preserved c =
    let lt : c.loop-i.i < length c.args.ys.now = omega (arith, c.requires, c.loop-i-test.true) in
    registers_step c.args.both c.args.xs.now c.args.ys.now c.loop-i.i c.index-xs-i.result c.index-ys-i.result c.in_ok-value.value c.loop-i.out.items _ _ c.loop-i-test.true lt c.index-xs-i.is c.index-ys-i.is c.in_ok-value.ensures c.in_ok-push.ensures.items c.loop-i.invariant

pub returns : goal.returns
returns c = registers_end c.args.both c.args.xs.now c.args.ys.now c.loop-i.i c.loop-i.out.items _ c.loop-i-test.false c.loop-i.invariant
