use Rattle.control_walks.proofs.FloodLemmas.{shows-reaches}
use Rattle.control_walks.proofs.rows.flood_reaching.Goals as goal

pub returns : goal.returns
returns c =
    shows-reaches c.args.nodes.now c.args.targets.now c.fill.new.self c.begin.new.rows c.grow.new.rows _ _ (c.fill.ensures.after (λ y h. h)) c.requires.kept_room
    c.requires.rows_room c.requires.few c.requires.inside c.begin.ensures c.grow.ensures
