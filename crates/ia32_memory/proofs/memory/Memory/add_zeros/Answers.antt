use Rattle.std.proofs.Common.{◌+◌, cond, subst, sym, ap, ◌∙◌}
use Rattle.std.specs.Prelude.{List, is_some}
use Rattle.image_map.specs.declared.image.Segment.{Segment}
use Rattle.item_list.specs.Ranges.{within}
use Rattle.ia32_memory.specs.Mapped.{bytes_of, is_open_at, AreWithin, IsClear, zeros_from}
use Rattle.ia32_memory.specs.Changes.{with_zeros}
use Rattle.ia32_memory.proofs.MakeLemmas.{zeros_within, added_within, added_clear, added_zeros, added_zeros_open}
use Rattle.ia32_memory.proofs.memory.Memory.add_zeros.Goals as goal

pub invariant_of-self-2 : goal.invariant_of-self-2
invariant_of-self-2 c = (
  subst AreWithin (sym c.in_ok-push_zeros.ensures.ok) (added_within c.self.inside.segments.items (zeros_from c.args.start c.args.size) c.self.invariant.0 (zeros_within c.args.start c.args.size c.requires)),
  subst (IsClear c.self.inside.clear) (sym c.in_ok-push_zeros.ensures.ok) (added_clear c.self.inside.segments.items (zeros_from c.args.start c.args.size) c.self.inside.clear c.self.invariant.1),
)

pub returns-clause-bytes : goal.returns-clause-bytes
returns-clause-bytes c =
    ap (λ (ss : List Segment). bytes_of ss) c.in_ok-push_zeros.ensures.ok
    ∙ added_zeros c.self.inside.segments.items c.args.start c.args.size
    ∙ ap (λ (ss : List Segment). with_zeros (bytes_of ss) c.args.start c.args.size) c.self.view_is

pub returns-clause-open : goal.returns-clause-open
returns-clause-open c = λ a.
    ap (λ (ss : List Segment). is_open_at ss a) c.in_ok-push_zeros.ensures.ok
    ∙ added_zeros_open c.self.inside.segments.items c.args.start c.args.size a
    ∙ ap (λ (ss : List Segment). cond (is_some (bytes_of ss a)) (is_open_at ss a) (within c.args.start (c.args.start + c.args.size) a)) c.self.view_is
