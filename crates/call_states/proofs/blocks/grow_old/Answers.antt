use Rattle.std.proofs.Common.{◌∙◌, ap}
use Rattle.image_map.specs.declared.region.RegionId.TheVariants.{Heap, OldHeap}
use Rattle.abs_semantics.specs.States.{known_of}
use Rattle.abs_state.specs.Views.{seen}
use Rattle.call_states.specs.Lists.{taken_by_blocks}
use Rattle.call_states.proofs.LifeLemmas.{older_blocks}
use Rattle.call_states.proofs.blocks.grow_old.Goals as goal

pub returns : goal.returns
returns c =
    let key = c.args.key in
    let young = c.known_number.ensures ∙ ap (known_of (Heap key)) c.as_slice-blocks.ensures in
    let old = c.known_number-2.ensures ∙ ap (known_of (OldHeap key)) c.as_slice-blocks.ensures in
    c.in_ok-move_cells.ensures
    ∙ older_blocks key (seen c.args.a.now) c.taking.result (c.taking.ensures ∙ (λ i. taken_by_blocks (young i) (old i)))
