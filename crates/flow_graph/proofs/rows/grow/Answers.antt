use Rattle.std.proofs.Common.{refl}
use Rattle.flow_graph.proofs.RowLemmas.{grows-begun, grown}
use Rattle.flow_graph.proofs.rows.grow.Goals as goal

pub loop-init : goal.loop-init
loop-init c = grows-begun c.args.nodes.now c.args.kept.now c.args.rows.now

pub returns-then-not-sweep : goal.returns-then-not-sweep
returns-then-not-sweep c =
    grown c.args.nodes.now c.args.kept.now c.args.rows.now c.sweep.new.rows
    (c.if-not-sweep.ensures.grows.grows c.args.rows.now (c.sweep_in_order.ensures.grows c.args.rows.now c.loop.invariant))
    (c.if-not-sweep.ensures.settled refl)
