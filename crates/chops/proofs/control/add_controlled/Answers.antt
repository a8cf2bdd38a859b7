use Rattle.chops.specs.Pairs.{ControlsAny, IsSplitFor}
use Rattle.chops.proofs.PairSetLemmas.{held_splits, pairs_like, splits_control}
use Rattle.chops.proofs.control.add_controlled.Goals as goal

pub returns-clause-adds : goal.returns-clause-adds
returns-clause-adds c =
    pairs_like (IsSplitFor c.args.graph.now.nodes c.flood_all.new.s.reaching c.flood_all.new.s.escaping c.args.targets.now) (ControlsAny c.args.graph.now.nodes c.args.targets.now) c.args.pairs.now.items c.add_splits.new.pairs.items
    (splits_control c.args.graph.now.nodes c.args.targets.now c.flood_all.new.s c.requires.inside c.flood_all.ensures.floods)
    (held_splits c.as_slice.result.now c.args.graph.now.nodes c.reaching.result.now c.flood_all.new.s.reaching c.escaping.result.now c.flood_all.new.s.escaping c.args.targets.now c.args.pairs.now.items c.add_splits.new.pairs.items
    c.as_slice.ensures c.reaching.ensures c.escaping.ensures c.in_ok-add_splits.ensures)
