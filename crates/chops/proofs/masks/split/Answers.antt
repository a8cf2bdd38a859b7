use Rattle.std.proofs.Common.{sym}
use Rattle.chops.proofs.MaskLemmas.{split_gone, split_none, split_some}
use Rattle.chops.proofs.masks.split.Goals as goal

pub returns-then-not-node : goal.returns-then-not-node
returns-then-not-node c = split_none c.args.rows.now.nodes.now c.args.rows.now.reaching.now c.args.rows.now.escaping.now c.args.branch c.in-Some.node.now (sym c.in-Some.ensures) (λ on. let off = c.if-not-node.true in absurd (cc))

pub returns-in-None : goal.returns-in-None
returns-in-None c = split_gone c.args.rows.now.nodes.now c.args.rows.now.reaching.now c.args.rows.now.escaping.now c.args.branch (sym c.in-None.ensures)

pub returns-else-not-node : goal.returns-else-not-node
returns-else-not-node c = split_some c.args.rows.now.nodes.now c.args.rows.now.reaching.now c.args.rows.now.escaping.now c.args.branch c.in-Some.node.now c.as_slice.result.now c.shared_among.result (sym c.in-Some.ensures) c.as_slice.ensures c.if-not-node.false c.shared_among.ensures
