use Rattle.std.proofs.Common.{◌==◌, not, ◌∙◌, ap, rules}
use Rattle.std.specs.Prelude.{filter}
use Rattle.std.proofs.lemmas.Fn.{filter_same}
use Rattle.call_states.proofs.lists.without_number.Goals as goal

pub returns : goal.returns
returns c =
    filter_same _ (λ t. not (t == c.args.n)) _ (λ x b q h. search rules) _ _ c.retain.ensures.filtered
    ∙ ap (filter (λ t. not (t == c.args.n))) c.in_ok-out.ensures.items
