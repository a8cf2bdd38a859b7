use Rattle.std.proofs.Common.{length, ap, get_or, List, Bool, ◌≡◌, Some}
use Rattle.std.specs.Prelude.{slice_get}
use Rattle.flow_graph.proofs.GraphLaws.{slice_get-at}
use Rattle.dep_graph.specs.Edges.{RowHit}
use Rattle.dep_graph.proofs.PairLemmas.{adding-more, adding-all}
use Rattle.dep_graph.proofs.SpreadLemmas.{row_marks, row_hit-inside, row_hit-within}
use Rattle.dep_graph.proofs.spread.add_rows.Goals as goal

pub loop-m-preserved : goal.loop-m-preserved
loop-m-preserved c =
    let is : slice_get c.args.ground.now.nodes.now c.loop-m.m ≡ Some c.node-item.result = slice_get-at c.args.ground.now.nodes.now c.loop-m.m c.node-item.result c.loop-m-test.true c.node-item.is in
    adding-more (length c.args.ground.now.nodes.now) (RowHit c.args.ground.now.nodes.now c.args.rows.now c.args.ground.now.place c.args.targets.now) c.args.pairs.now c.loop-m.pairs c.loop-m.m (get_or c.loop-m.pairs c.loop-m.m c.index-pairs-m.result) c.add_row.new.row
    c.loop-m-test.true (ap (λ (row : List Bool). get_or c.loop-m.pairs c.loop-m.m row) c.index-pairs-m.is) c.add_row.ensures.len
    (λ n hit. row_hit-inside c.args.ground.now.nodes.now c.args.rows.now c.args.ground.now.place c.args.targets.now c.loop-m.m n c.requires.inside hit)
    (row_marks c.args.ground.now.nodes.now c.args.rows.now c.args.ground.now.place c.args.targets.now c.loop-m.m c.node-item.result (get_or c.loop-m.pairs c.loop-m.m c.index-pairs-m.result) c.add_row.new.row is c.add_row.ensures.marks) c.loop-m.invariant

pub returns-clause-adds : goal.returns-clause-adds
returns-clause-adds c =
    adding-all (length c.args.ground.now.nodes.now) (RowHit c.args.ground.now.nodes.now c.args.rows.now c.args.ground.now.place c.args.targets.now) c.args.pairs.now c.loop-m.pairs c.loop-m.m
    c.loop-m-test.false (λ m n hit. row_hit-within c.args.ground.now.nodes.now c.args.rows.now c.args.ground.now.place c.args.targets.now m n hit) c.loop-m.invariant
