use Rattle.flow_graph.proofs.RowLemmas.{set_bit-sets, set_bit-past}
use Rattle.flow_graph.proofs.rows.set_bit.Goals as goal

pub returns-then-node-rows : goal.returns-then-node-rows
returns-then-node-rows c = set_bit-past c.args.rows.now c.args.node c.args.k c.if-node-rows.true

pub returns : goal.returns
returns c = set_bit-sets c.args.rows.now c.args.node c.args.k c.if-node-rows.false c.requires
