use Rattle.dep_graph.specs.Edges.{RowHit, ArrivesAt}
use Rattle.dep_graph.proofs.PairLemmas.{adds-like}
use Rattle.dep_graph.proofs.SpreadLemmas.{row_hit-arrives, arrives-by}
use Rattle.dep_graph.proofs.spread.add_chunk.Goals as goal

pub returns-clause-adds : goal.returns-clause-adds
returns-clause-adds c =
    adds-like (RowHit c.args.ground.now.nodes.now c.grow.new.rows c.args.ground.now.place c.args.targets.now) (ArrivesAt c.args.ground.now.nodes.now c.args.ground.now.place c.args.targets.now) c.args.pairs.now c.add_rows.new.pairs
    (row_hit-arrives c.args.ground.now.nodes.now c.args.ground.now.place c.grow.new.rows c.args.targets.now
    (λ m k. arrives-by c.args.ground.now.nodes.now c.args.ground.now.place c.args.kept.now c.begin.new.rows c.grow.new.rows c.args.targets.now _ m k c.requires.keeps c.requires.few c.requires.room c.requires.inside c.begin.ensures c.grow.ensures))
    c.add_rows.ensures.adds
