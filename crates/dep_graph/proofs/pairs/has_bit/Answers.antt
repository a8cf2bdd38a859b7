use Rattle.dep_graph.proofs.PairLemmas.{bit-test}
use Rattle.dep_graph.proofs.pairs.has_bit.Goals as goal

pub returns : goal.returns
returns c = bit-test c.args.word c.args.k
