use Rattle.std.proofs.Common.{max, subst, sym, ap, ◌∙◌}
use Rattle.image_map.specs.Shapes.{shapes}
use Rattle.ia32_memory.specs.Mapped.{bytes_of, AreWithin, IsClear}
use Rattle.ia32_memory.proofs.ClearLemmas.{all_cleared, all_cleared_bytes, all_cleared_shapes, all_cleared_within, all_cleared_clear, cleared_first}
use Rattle.ia32_memory.proofs.memory.clear_below.Goals as goal

pub returns-clause-bytes : goal.returns-clause-bytes
returns-clause-bytes c =
    ap bytes_of (cleared_first c.args.segments.now c.args.clear c.args.below c.index-segments-0.result _ _ c.bytes_under-end.ensures.value c.zero_part.ensures)
    ∙ all_cleared_bytes c.args.segments.now c.args.clear c.args.below c.index-segments-0.result c.requires

pub returns-clause-shapes : goal.returns-clause-shapes
returns-clause-shapes c =
    ap shapes (cleared_first c.args.segments.now c.args.clear c.args.below c.index-segments-0.result _ _ c.bytes_under-end.ensures.value c.zero_part.ensures)
    ∙ all_cleared_shapes c.args.segments.now c.args.clear c.args.below c.index-segments-0.result

pub returns-clause-within : goal.returns-clause-within
returns-clause-within c = λ within.
    subst AreWithin (sym (cleared_first c.args.segments.now c.args.clear c.args.below c.index-segments-0.result _ _ c.bytes_under-end.ensures.value c.zero_part.ensures))
    (all_cleared_within c.args.segments.now c.args.clear c.args.below c.index-segments-0.result within)

pub returns-clause-clear : goal.returns-clause-clear
returns-clause-clear c =
    subst (IsClear c.max.result) (sym (cleared_first c.args.segments.now c.args.clear c.args.below c.index-segments-0.result _ _ c.bytes_under-end.ensures.value c.zero_part.ensures))
    (subst (λ n. IsClear n (all_cleared c.args.segments.now c.args.clear c.args.below c.index-segments-0.result))
    (sym (c.max.ensures ∙ ap (λ e. max c.args.clear e) c.bytes_under-end.ensures.value))
    (all_cleared_clear c.args.segments.now c.args.clear c.args.below c.index-segments-0.result c.requires))
