use Rattle.std.proofs.Common.{◌≡◌, length, ap, sym, ◌∙◌}
use Rattle.std.specs.Prelude.{List, ◌&&◌, nat_lt}
use Rattle.std.proofs.lemmas.List.{with_items_is}
use Rattle.image_map.specs.declared.image.Segment.{Segment}
use Rattle.ia32_memory.specs.Mapped.{bytes_of, is_in_first}
use Rattle.ia32_memory.specs.Changes.{cleared}
use Rattle.ia32_memory.proofs.memory.Memory.forget.Goals as goal

pub returns-clause-bytes : goal.returns-clause-bytes
returns-clause-bytes c =
    let len : length c.clear_below-self-inside.new.segments ≡ c.self.inside.segments.len =
    c.clear_below-self-inside.auto.segments ∙ ap (λ (ss : List Segment). length ss) c.deref_mut.ensures.value ∙ sym c.self.inside.segments.ok.0 in
    ap bytes_of (with_items_is c.self.inside.segments c.clear_below-self-inside.new.segments len)
    ∙ c.clear_below-self-inside.ensures.bytes
    ∙ ap (λ (ss : List Segment). cleared (λ a. is_in_first ss a && nat_lt a c.args.below) (bytes_of ss)) (c.deref_mut.ensures.value ∙ c.self.view_is)
