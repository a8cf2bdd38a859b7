use Rattle.std.proofs.Common.{◌+◌, ◌≤◌, ap, length, List, ℕ, arith}
use Rattle.std.specs.Prelude.{slice_range}
use Rattle.slicer.proofs.FollowLemmas.{part-inside, some-grows, some-follows}
use Rattle.slicer.proofs.search.follow_some.Goals as goal

pub returns-clause-grows : goal.returns-clause-grows
returns-clause-grows c =
    let end = c.args.done + c.min.result in
    let within : c.args.done + c.min.result ≤ length c.args.queue.now.nodes = omega arith in
    let is = ap (λ (xs : List ℕ). slice_range xs c.args.done end) c.nodes.ensures.nodes in
    some-grows c.args.graph.now.nodes c.flood_all.new.s c.args.queue.now.nodes (slice_range c.nodes.result.now c.args.done end) c.mark_branches.new.queue.nodes c.args.done end is within
    (part-inside c.args.graph.now.nodes c.args.queue.now.nodes (slice_range c.nodes.result.now c.args.done end) c.args.done end is within c.requires.inside)
    c.flood_all.ensures.floods c.mark_branches.ensures.adds

pub returns-clause-follows : goal.returns-clause-follows
returns-clause-follows c =
    let end = c.args.done + c.min.result in
    let within : c.args.done + c.min.result ≤ length c.args.queue.now.nodes = omega arith in
    let is = ap (λ (xs : List ℕ). slice_range xs c.args.done end) c.nodes.ensures.nodes in
    some-follows c.args.graph.now.nodes c.flood_all.new.s c.args.queue.now.nodes (slice_range c.nodes.result.now c.args.done end) c.mark_branches.new.queue.nodes c.args.done end is within
    (part-inside c.args.graph.now.nodes c.args.queue.now.nodes (slice_range c.nodes.result.now c.args.done end) c.args.done end is within c.requires.inside)
    c.flood_all.ensures.floods c.mark_branches.ensures.adds
