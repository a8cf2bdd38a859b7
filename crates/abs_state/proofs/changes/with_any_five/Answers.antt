use Rattle.abs_state.proofs.FlagLemmas.{any_five_are}
use Rattle.abs_state.proofs.changes.with_any_five.Goals as goal

pub returns : goal.returns
returns c =
    any_five_are (record { zero = c.with.result; one = c.with-2.result }) c.args.others.now c.arithmetic.result c.direction.result c.arithmetic-2.result c.direction-2.result
    c.arithmetic.ensures.members c.arithmetic-2.ensures.members c.with.ensures.members c.direction.ensures c.with-2.ensures.members c.direction-2.ensures
