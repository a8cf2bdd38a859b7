use Rattle.std.proofs.Common.{◌≡◌, ◌∙◌, ◌<◌, ℕ, List, ap, arith, length, subst, sym, take}
use Rattle.std.specs.Prelude.{All}
use Rattle.std.proofs.lemmas.List.{with_items_is}
use Rattle.flow_graph.specs.declared.graph.FlowNode.{FlowNode}
use Rattle.slicer.specs.Slicer.{ListedEdge, IsSlice}
use Rattle.slicer.proofs.FollowLemmas.{begin-inside, following-inside}
use Rattle.slicer.proofs.SliceLaws.{slice-made}
use Rattle.slicer.proofs.scratch.make_slice.Goals as goal

pub follow-requires-clause-inside : goal.follow-requires-clause-inside
follow-requires-clause-inside c = begin-inside c.as_slice-nodes.result.now c.args.graph.now.flow.nodes c.args.at c.begin.new.queue.nodes c.as_slice-nodes.ensures c.begin.ensures.nodes

pub list_slice-s-inside-requires-clause-inside : goal.list_slice-s-inside-requires-clause-inside
list_slice-s-inside-requires-clause-inside c =
    let g = c.args.graph.now.flow.nodes in
    let first = begin-inside c.as_slice-nodes.result.now g c.args.at c.begin.new.queue.nodes c.as_slice-nodes.ensures c.begin.ensures.nodes in
    let met = following-inside c.args.graph.now.edges.ordinary c.args.graph.now.edges.sp c.args.skip_sp g c.begin.new.queue.nodes c.follow.new.queue.nodes c.requires.nodes first c.follow.ensures.grows in
    subst (λ (ns : List FlowNode). All (λ n. n < length ns) c.nodes.result.now) (sym c.as_slice-nodes.ensures)
    (subst (λ (xs : List ℕ). All (λ n. n < length g) xs) (sym c.nodes.ensures.nodes) met)

pub list_slice-s-inside-requires-clause-found_room : goal.list_slice-s-inside-requires-clause-found_room
list_slice-s-inside-requires-clause-found_room c =
    let met = ap (λ (xs : List ℕ). length xs) c.nodes.ensures.nodes in
    let within = c.nodes.ensures.within in
    let size = c.follow.ensures.size ∙ c.begin.ensures.size in
    let room = c.s.invariant.found_room in
    let found = ap (λ (xs : List ℕ). length xs) c.deref_mut.ensures.value in
    omega (arith, met, within, size, room, found)

pub list_slice-s-inside-requires-clause-list_room : goal.list_slice-s-inside-requires-clause-list_room
list_slice-s-inside-requires-clause-list_room c =
    let met = ap (λ (xs : List ℕ). length xs) c.nodes.ensures.nodes in
    let within = c.nodes.ensures.within in
    let size = c.follow.ensures.size ∙ c.begin.ensures.size in
    let room = c.s.invariant.list_room in
    let list = ap (λ (xs : List ℕ). length xs) c.deref_mut-2.ensures.value in
    omega (arith, met, within, size, room, list)

pub invariant_of-s : goal.invariant_of-s
invariant_of-s c =
    let size = c.follow.ensures.size ∙ c.begin.ensures.size in
    let found : length c.list_slice-s-inside.new.found ≡ c.s.inside.found.len = c.list_slice-s-inside.auto.found ∙ ap (λ (xs : List ℕ). length xs) c.deref_mut.ensures.value ∙ sym c.s.inside.found.ok.0 in
    let list : length c.list_slice-s-inside.new.list ≡ c.s.inside.list.len = c.list_slice-s-inside.auto.list ∙ ap (λ (xs : List ℕ). length xs) c.deref_mut-2.ensures.value ∙ sym c.s.inside.list.ok.0 in
    record {
      walks_room = c.follow.ensures.walks ∙ c.s.invariant.walks_room ∙ sym size;
      found_room = ap (λ (xs : List ℕ). length xs) (with_items_is c.s.inside.found c.list_slice-s-inside.new.found found) ∙ found ∙ c.s.inside.found.ok.0 ∙ c.s.invariant.found_room ∙ sym size;
      list_room = ap (λ (xs : List ℕ). length xs) (with_items_is c.s.inside.list c.list_slice-s-inside.new.list list) ∙ list ∙ c.s.inside.list.ok.0 ∙ c.s.invariant.list_room ∙ sym size;
      part =
          let met = ap (λ (xs : List ℕ). length xs) c.nodes.ensures.nodes in
          let within = c.nodes.ensures.within in
          let part = c.list_slice-s-inside.ensures.within in
          omega (arith, met, within, part);
      numbers = let numbers = c.s.invariant.numbers in omega (arith, numbers, size);
    }

pub returns-clause-slice : goal.returns-clause-slice
returns-clause-slice c =
    let g = c.args.graph.now.flow.nodes in
    let list : length c.list_slice-s-inside.new.list ≡ c.s.inside.list.len = c.list_slice-s-inside.auto.list ∙ ap (λ (xs : List ℕ). length xs) c.deref_mut-2.ensures.value ∙ sym c.s.inside.list.ok.0 in
    subst (λ (xs : List ℕ). IsSlice (ListedEdge c.args.graph.now.edges.ordinary c.args.graph.now.edges.sp c.args.skip_sp) g c.args.at (take c.list_slice-s-inside.result xs))
    (sym (with_items_is c.s.inside.list c.list_slice-s-inside.new.list list))
    (slice-made (ListedEdge c.args.graph.now.edges.ordinary c.args.graph.now.edges.sp c.args.skip_sp) g c.as_slice-nodes.result.now c.args.at c.begin.new.queue.nodes c.follow.new.queue.nodes c.nodes.result.now
    (take c.list_slice-s-inside.result c.list_slice-s-inside.new.list) c.as_slice-nodes.ensures c.nodes.ensures.nodes c.begin.ensures.nodes c.follow.ensures.grows c.follow.ensures.closed
    c.list_slice-s-inside.ensures.rising c.list_slice-s-inside.ensures.listed)
