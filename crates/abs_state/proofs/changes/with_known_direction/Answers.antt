use Rattle.abs_state.proofs.FlagLemmas.{direction_is}
use Rattle.abs_state.proofs.changes.with_known_direction.Goals as goal

pub returns : goal.returns
returns c =
    direction_is (record { zero = c.with.result; one = c.with-2.result }) c.args.others.now c.args.set c.five.result c.only_if.result c.five-2.result c.only_if-2.result
    c.with.ensures.members c.five.ensures c.only_if.ensures.members c.with-2.ensures.members c.five-2.ensures c.only_if-2.ensures.members
