use Rattle.dep_graph.specs.DepGraph.{DataEdge}
use Rattle.dep_graph.specs.Edges.{ArrivesAt}
use Rattle.dep_graph.proofs.PairLemmas.{adds-like}
use Rattle.dep_graph.proofs.SpreadLemmas.{users-inside, uses-like, arrives-edge}
use Rattle.dep_graph.proofs.edges.add_place.Goals as goal

pub add_targets-requires-clause-inside : goal.add_targets-requires-clause-inside
add_targets-requires-clause-inside c =
    users-inside c.args.ground.now.nodes.now c.args.ground.now.place c.as_slice.result.now
    (uses-like c.args.ground.now.nodes.now c.args.ground.now.place c.as_slice.result.now c.in_ok-targets.targets.items c.as_slice.ensures.value c.in_ok-targets.ensures)

pub returns-clause-adds : goal.returns-clause-adds
returns-clause-adds c =
    adds-like (ArrivesAt c.args.ground.now.nodes.now c.args.ground.now.place c.as_slice.result.now) (DataEdge c.args.ground.now.nodes.now c.args.ground.now.place) c.args.pairs.now c.add_targets.new.pairs
    (arrives-edge c.args.ground.now.nodes.now c.args.ground.now.place c.as_slice.result.now
    (uses-like c.args.ground.now.nodes.now c.args.ground.now.place c.as_slice.result.now c.in_ok-targets.targets.items c.as_slice.ensures.value c.in_ok-targets.ensures))
    c.in_ok-add_targets.ensures.adds
