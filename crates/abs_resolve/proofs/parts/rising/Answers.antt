use Rattle.std.proofs.Common.{[]}
use Rattle.abs_semantics.specs.Resolve.{rising_onto}
use Rattle.abs_resolve.proofs.StepLemmas.{risen_item, risen_all}
use Rattle.abs_resolve.proofs.parts.rising.Goals as goal

pub loop-x-preserved : goal.loop-x-preserved
loop-x-preserved c = risen_item c.args.parts.now c.loop-x.x-index c.x-item.result c.loop-x.out.items c.put.new.parts.items (rising_onto [] c.args.parts.now) c.loop-x-test.true c.x-item.is c.in_ok-put.ensures c.loop-x.invariant

pub returns : goal.returns
returns c = risen_all c.args.parts.now c.loop-x.x-index c.loop-x.out.items (rising_onto [] c.args.parts.now) c.loop-x-test.false c.loop-x.invariant
