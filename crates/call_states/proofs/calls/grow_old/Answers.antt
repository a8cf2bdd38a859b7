use Rattle.std.proofs.Common.{◌∙◌}
use Rattle.call_states.specs.Lists.{with_aged_lists}
use Rattle.call_states.proofs.calls.grow_old.Goals as goal

pub returns : goal.returns
returns c =
    let t = c.args.callee in
    c.in_ok-age_lists.ensures
    ∙ (λ i. with_aged_lists t (c.older_align-align.ensures i) (c.in_ok-age_values.ensures i))
