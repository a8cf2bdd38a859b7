use Rattle.std.proofs.Common.{length, ap, get_or, List, Bool}
use Rattle.dep_graph.specs.Plain.{KindEdge}
use Rattle.dep_graph.proofs.PairLemmas.{adding-more, adding-all}
use Rattle.dep_graph.proofs.WalkedLemmas.{kind-within, kind-inside}
use Rattle.dep_graph.proofs.laws.add_all.Goals as goal

pub loop-m-preserved : goal.loop-m-preserved
loop-m-preserved c =
    adding-more (length c.args.nodes.now) (KindEdge c.args.nodes.now c.args.is_sp) c.args.pairs.now c.loop-m.pairs c.loop-m.m (get_or c.loop-m.pairs c.loop-m.m c.index-pairs-m.result) c.add_from.new.row
    c.loop-m-test.true (ap (λ (row : List Bool). get_or c.loop-m.pairs c.loop-m.m row) c.index-pairs-m.is) c.in_ok-add_from.ensures.len
    (λ n e. kind-inside c.args.nodes.now c.args.is_sp c.loop-m.m n e) c.in_ok-add_from.ensures.marks c.loop-m.invariant

pub returns-clause-adds : goal.returns-clause-adds
returns-clause-adds c =
    adding-all (length c.args.nodes.now) (KindEdge c.args.nodes.now c.args.is_sp) c.args.pairs.now c.loop-m.pairs c.loop-m.m
    c.loop-m-test.false (λ m n e. kind-within c.args.nodes.now c.args.is_sp m n e) c.loop-m.invariant
