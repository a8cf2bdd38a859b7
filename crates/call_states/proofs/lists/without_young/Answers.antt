use Rattle.std.proofs.Common.{false, not, ◌∙◌, ap, rules}
use Rattle.std.proofs.lemmas.Fn.{filter_same}
use Rattle.abs_semantics.specs.declared.parts.Link.{Link}
use Rattle.abs_steps.specs.Calls.{is_of_age, without_young}
use Rattle.call_states.proofs.lists.without_young.Goals as goal

pub returns : goal.returns
returns c =
    filter_same _ (λ (l : Link). not (is_of_age c.args.child false l)) _ (λ x b q h. search rules) _ _ c.retain.ensures.filtered
    ∙ ap (without_young c.args.child) c.in_ok-out.ensures.items
