use Rattle.std.proofs.Common.{◌==◌, not, ◌∙◌, ap, rules}
use Rattle.std.specs.Prelude.{filter}
use Rattle.std.proofs.lemmas.Fn.{filter_same}
use Rattle.abs_semantics.specs.declared.parts.Link.{Link}
use Rattle.call_states.proofs.lists.without_child.Goals as goal

pub returns : goal.returns
returns c =
    filter_same _ (λ (l : Link). not (l.child == c.args.child)) _ (λ x b q h. search rules) _ _ c.retain.ensures.filtered
    ∙ ap (filter (λ (l : Link). not (l.child == c.args.child))) c.in_ok-out.ensures.items
