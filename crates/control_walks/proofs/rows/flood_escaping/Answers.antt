use Rattle.control_walks.proofs.FloodLemmas.{shows-escapes}
use Rattle.control_walks.proofs.rows.flood_escaping.Goals as goal

pub returns : goal.returns
returns c =
    shows-escapes c.args.nodes.now c.args.targets.now c.seat_ends.new.kept c.seat_ends.new.rows c.grow.new.rows c.seat_ends.ensures.keeps c.seat_ends.ensures.ends c.grow.ensures
