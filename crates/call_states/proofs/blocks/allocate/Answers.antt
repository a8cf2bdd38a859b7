use Rattle.std.proofs.Common.{◌≡◌, ◌∙◌, ap}
use Rattle.image_map.specs.declared.region.RegionId.TheVariants.{Heap, OldHeap}
use Rattle.vset.specs.Operations.{age}
use Rattle.abs_semantics.specs.States.{AbsState}
use Rattle.abs_steps.specs.Calls.{with_values, with_older_block, cleared, is_in, size_of, sizes_after, allocated}
use Rattle.abs_state.specs.Views.{seen}
use Rattle.call_states.proofs.blocks.allocate.Goals as goal

pub returns : goal.returns
unfolding allocated
returns c =
    let key = c.args.key in
    let s : AbsState = seen c.args.a.now in
    let cleared_is : seen c.clear.new.a ≡ cleared (is_in (Heap key)) (with_older_block key (with_values (age (Heap key) (OldHeap key)) s)) =
    c.in_ok-clear.ensures ∙ ap (cleared (is_in (Heap key))) (c.in_ok-grow_old.ensures ∙ ap (with_older_block key) c.in_ok-rename.ensures) in
    let blocks = c.from_vec.ensures ∙ c.in_ok-blocks.ensures ∙ (λ i. sizes_after key ((c.size_of.ensures ∙ ap size_of c.only_number.ensures) i) (c.as_slice.ensures i)) in
    λ i. record (cleared_is i) { blocks = blocks i }
