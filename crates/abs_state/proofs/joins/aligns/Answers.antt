use Rattle.std.proofs.Common.{◌++◌, sym, ◌∙◌, ap, []}
use Rattle.abs_semantics.specs.Joins.{joined_align}
use Rattle.abs_state.specs.Puts.{folded, known_by}
use Rattle.abs_state.specs.Views.{seen}
use Rattle.abs_state.proofs.FoldLemmas.{folded_both, aligns_are}
use Rattle.abs_state.proofs.joins.aligns.Goals as goal

pub returns : goal.returns
returns c =
    let a = c.args.a.now in
    let b = c.args.b.now in
    let f = joined_align (seen a) (seen b) in
    c.from_vec.ensures ∙ c.in_ok-all.ensures
    ∙ ap (λ xs. folded (known_by f) xs c.in_ok-second.second.items) c.as_slice-2.ensures
    ∙ ap (folded (known_by f) a.aligns) (c.in_ok-second.ensures ∙ ap (λ xs. folded (known_by f) xs c.new.result.items) c.as_slice.ensures ∙ ap (folded (known_by f) b.aligns) c.new.ensures.items)
    ∙ sym (folded_both (known_by f) a.aligns b.aligns []) ∙ aligns_are f (a.aligns ++ b.aligns)
