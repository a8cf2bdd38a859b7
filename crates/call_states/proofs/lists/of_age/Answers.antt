use Rattle.std.proofs.Common.{◌∙◌, ap, rules}
use Rattle.std.specs.Prelude.{filter}
use Rattle.std.proofs.lemmas.Fn.{filter_same}
use Rattle.abs_steps.specs.Calls.{is_of_age}
use Rattle.call_states.proofs.lists.of_age.Goals as goal

pub returns : goal.returns
returns c =
    filter_same _ (is_of_age c.args.child c.args.aged) _ (λ x b q h. search rules) _ _ c.retain.ensures.filtered
    ∙ ap (filter (is_of_age c.args.child c.args.aged)) c.in_ok-out.ensures.items
