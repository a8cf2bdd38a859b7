use Rattle.std.proofs.Common.{arith}
use Rattle.flow_graph.proofs.RisingLemmas.{lists-more}
use Rattle.control_walks.specs.ControlWalks.{Controls}
use Rattle.control_walks.proofs.SplitLemmas.{controls-within}
use Rattle.control_walks.proofs.laws.controls.Goals as goal

pub loop-branch-preserved : goal.loop-branch-preserved
loop-branch-preserved c =
    lists-more (λ b. Controls c.args.graph.now.nodes b c.args.node) c.loop-branch.branches.items c.push_if.new.list.items c.loop-branch.branch c.in_ok-is_listed.is_listed
    c.in_ok-is_listed.ensures c.in_ok-push_if.ensures c.loop-branch.invariant

pub returns-clause-listed : goal.returns-clause-listed
returns-clause-listed c = λ b.
    let listed = c.loop-branch.invariant.listed b in (
      λ among. (listed.0 among).1,
      λ controls. listed.1 ((let within = controls-within c.args.graph.now.nodes b c.args.node controls in omega (arith, within)), controls),
    )
