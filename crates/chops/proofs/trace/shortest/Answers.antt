use Rattle.std.proofs.Common.{inl, inr, arith}
use Rattle.flow_graph.specs.FlowGraph.{IsAt}
use Rattle.chops.proofs.TraceLemmas.{falls_shortest, none_shortest}
use Rattle.chops.proofs.trace.shortest.Goals as goal

pub returns-then-end-nodes : goal.returns-then-end-nodes
returns-then-end-nodes c =
    inr (
      c.new.ensures.items,
      none_shortest c.args.nodes.now c.args.arrows.now (IsAt c.args.nodes.now c.args.from) c.args.counts.now c.args.to c.nearest-end.result c.nearest-end.ensures.0 c.requires.many c.requires.inside c.requires.fewest
          (omega arith) c.nearest-end.ensures.1,
    )

pub returns : goal.returns
returns c =
    inl (
    falls_shortest c.args.nodes.now c.args.arrows.now (IsAt c.args.nodes.now c.args.from) c.args.counts.now c.args.to c.nearest-end.result c.nearest-end.ensures.0 c.in_ok-trace.trace.items c.requires.many c.requires.inside c.requires.fewest
    (omega arith) c.nearest-end.ensures.1 c.in_ok-trace.ensures)
