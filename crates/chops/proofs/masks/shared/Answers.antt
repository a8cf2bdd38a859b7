use Rattle.chops.proofs.MaskLemmas.{shared_gone_x, shared_gone_y}
use Rattle.chops.proofs.masks.shared.Goals as goal

pub returns-in-None : goal.returns-in-None
returns-in-None c = shared_gone_x c.args.rows.now.nodes.now c.args.rows.now.reaching.now c.args.rows.now.escaping.now c.args.x c.args.y c.in-None.ensures

pub returns-in-None-at_of : goal.returns-in-None-at_of
returns-in-None-at_of c = shared_gone_y c.args.rows.now.nodes.now c.args.rows.now.reaching.now c.args.rows.now.escaping.now c.args.x c.args.y c.in-None-at_of.ensures
