use Rattle.std.proofs.Common.{◌∙◌, ℕ, List, subst, sym}
use Rattle.std.specs.Prelude.{Contains}
use Rattle.slicer.specs.Slicer.{ListedEdge}
use Rattle.chops.specs.Chops.{AreAddresses}
use Rattle.chops.proofs.ChopLemmas.{addresses_of, held_inside, met_inside}
use Rattle.matched_calls.specs.Slices.{InSliceOver}
use Rattle.matched_calls.proofs.SliceLemmas.{back_step, goes_within, met_slice}
use Rattle.matched_calls.proofs.slice.list_back.Goals as goal

pub list-requires-clause-inside : goal.list-requires-clause-inside
list-requires-clause-inside c =
    held_inside c.as_slice-nodes.result.now c.args.g.now.flow.nodes c.nodes.result.now c.go_back.new.queue.nodes c.as_slice-nodes.ensures c.nodes.ensures.nodes
    (met_inside c.args.g.now.flow.nodes (back_step (ListedEdge c.args.m.now.edges.ordinary c.args.m.now.edges.sp c.args.skip_sp) c.args.m.now.control) c.args.at c.go_back.new.queue.nodes (goes_within c.args.g.now.flow.nodes c.args.m.now.edges.ordinary c.args.m.now.edges.sp c.args.m.now.control c.args.skip_sp c.requires)
    (met_slice (ListedEdge c.args.m.now.edges.ordinary c.args.m.now.edges.sp c.args.skip_sp) c.args.m.now.control c.as_slice-nodes.result.now c.args.g.now.flow.nodes c.args.at c.begin.new.queue.nodes c.go_back.new.queue.nodes c.as_slice-nodes.ensures c.begin.ensures.nodes c.go_back.ensures.grows c.go_back.ensures.closed))

pub returns : goal.returns
returns c =
    subst (λ (xs : List ℕ). AreAddresses c.args.g.now.flow.nodes (InSliceOver (ListedEdge c.args.m.now.edges.ordinary c.args.m.now.edges.sp c.args.skip_sp) (λ b n. Contains c.args.m.now.control (b, n)) c.args.g.now.flow.nodes c.args.at) xs)
    (sym (c.in_ok-list.ensures.items ∙ c.addresses.ensures))
    (addresses_of c.as_slice-nodes.result.now c.args.g.now.flow.nodes c.nodes.result.now c.go_back.new.queue.nodes (InSliceOver (ListedEdge c.args.m.now.edges.ordinary c.args.m.now.edges.sp c.args.skip_sp) (λ b n. Contains c.args.m.now.control (b, n)) c.args.g.now.flow.nodes c.args.at) c.list.new.self.addresses
    c.as_slice-nodes.ensures c.nodes.ensures.nodes
    (met_slice (ListedEdge c.args.m.now.edges.ordinary c.args.m.now.edges.sp c.args.skip_sp) c.args.m.now.control c.as_slice-nodes.result.now c.args.g.now.flow.nodes c.args.at c.begin.new.queue.nodes c.go_back.new.queue.nodes c.as_slice-nodes.ensures c.begin.ensures.nodes c.go_back.ensures.grows c.go_back.ensures.closed)
    c.list.ensures.listed)
