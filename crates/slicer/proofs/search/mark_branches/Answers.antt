use Rattle.std.proofs.Common.{◌∙◌, ◌<◌, arith}
use Rattle.control_walks.specs.Floods.{Splits}
use Rattle.control_walks.proofs.SplitLemmas.{splits-within}
use Rattle.slicer.proofs.FollowLemmas.{adds-more, adds-all}
use Rattle.slicer.proofs.search.mark_branches.Goals as goal

pub loop-branch-preserved : goal.loop-branch-preserved
loop-branch-preserved c =
    let size = c.loop-branch.invariant.size in
    let room : c.loop-branch.branch < c.loop-branch.queue.size = omega arith in
    record {
      size = c.mark_if.ensures.size ∙ c.loop-branch.invariant.size;
      adds = adds-more (Splits c.args.graph.now.nodes c.args.walks.now.reaching c.args.walks.now.escaping) c.loop-branch.branch c.loop-branch.queue.size c.splits-is_split.result
          c.args.queue.now.nodes c.loop-branch.queue.nodes c.mark_if.new.self.nodes room c.splits-is_split.ensures c.loop-branch.invariant.adds c.mark_if.ensures.adds;
    }

pub returns-clause-adds : goal.returns-clause-adds
returns-clause-adds c =
    adds-all (Splits c.args.graph.now.nodes c.args.walks.now.reaching c.args.walks.now.escaping) c.loop-branch.branch c.args.queue.now.nodes c.loop-branch.queue.nodes
    (λ b splits. let within = splits-within c.args.graph.now.nodes c.args.walks.now.reaching c.args.walks.now.escaping b splits in omega (arith, within))
    c.loop-branch.invariant.adds
