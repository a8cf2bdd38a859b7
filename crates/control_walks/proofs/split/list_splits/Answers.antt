use Rattle.std.proofs.Common.{arith, take}
use Rattle.control_walks.specs.Floods.{Splits}
use Rattle.flow_graph.proofs.RisingLemmas.{lists-more}
use Rattle.control_walks.proofs.SplitLemmas.{splits-within}
use Rattle.control_walks.proofs.split.list_splits.Goals as goal

pub loop-branch-preserved : goal.loop-branch-preserved
loop-branch-preserved c = record {
  within = (let more = c.put_if-count.ensures.within in let before = c.loop-branch.invariant.within in omega (arith, more, before));
  lists = lists-more (Splits c.args.nodes.now c.args.reaching.now c.args.escaping.now) (take c.loop-branch.count c.loop-branch.list) (take c.put_if-count.result c.put_if-count.new.list) c.loop-branch.branch c.splits-is_listed.result
      c.splits-is_listed.ensures c.put_if-count.ensures.list c.loop-branch.invariant.lists;
}

pub returns-clause-listed : goal.returns-clause-listed
returns-clause-listed c = λ b.
    let listed = c.loop-branch.invariant.lists.listed b in (
      λ among. (listed.0 among).1,
      λ splits. listed.1 ((let within = splits-within c.args.nodes.now c.args.reaching.now c.args.escaping.now b splits in omega (arith, within)), splits),
    )
