use Rattle.control_walks.specs.ControlWalks.{Controls}
use Rattle.round_texts.proofs.PairLemmas.{rising_once}
use Rattle.round_texts.proofs.graph.control_of.Goals as goal

pub returns : goal.returns
returns c =
    rising_once (Controls c.args.flow.now.nodes) c.in_ok-pairs.pairs.items c.sort_unstable.new.self.items c.dedup.new.self.items c.in_ok-pairs.ensures c.sort_unstable.ensures.permutation c.sort_unstable.ensures.sorted c.dedup.ensures.filtered
