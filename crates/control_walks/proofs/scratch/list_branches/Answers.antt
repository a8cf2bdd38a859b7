use Rattle.std.proofs.Common.{◌∙◌, ap, sym, length, ◌≡◌, List, ℕ}
use Rattle.std.proofs.lemmas.List.{with_items_is}
use Rattle.control_walks.specs.Floods.{Flooded}
use Rattle.control_walks.proofs.SplitLemmas.{listed-made}
use Rattle.control_walks.proofs.scratch.list_branches.Goals as goal

pub returns-clause-listed : goal.returns-clause-listed
returns-clause-listed c = λ b.
    let len : length c.list_splits-s-inside.new.list ≡ c.s.inside.list.len = c.list_splits-s-inside.auto.list ∙ ap (λ (xs : List ℕ). length xs) c.deref_mut.ensures.value ∙ sym c.s.inside.list.ok.0 in
    listed-made c.args.graph.now.nodes c.as_slice.result.now c.args.s.now.reaching c.args.s.now.escaping c.deref.result.now c.deref-2.result.now c.list_splits-s-inside.new.list _ c.list_splits-s-inside.result b
    c.as_slice.ensures (c.deref.ensures.value ∙ ap (λ (v : Flooded). v.reaching) c.s.view_is) (c.deref-2.ensures.value ∙ ap (λ (v : Flooded). v.escaping) c.s.view_is)
    (with_items_is c.s.inside.list c.list_splits-s-inside.new.list len) (c.list_splits-s-inside.ensures.listed b)
