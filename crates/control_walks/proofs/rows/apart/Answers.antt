use Rattle.control_walks.proofs.FloodLemmas.{apart-none}
use Rattle.control_walks.proofs.rows.apart.Goals as goal

pub loop-k-init : goal.loop-k-init
loop-k-init c = apart-none c.args.nodes.now c.args.targets.now c.args.at
