use Rattle.std.proofs.Common.{sym, ◌∙◌}
use Rattle.abs_state.proofs.RangeLemmas.{length_told}
use Rattle.abs_state.proofs.ranges.Within.held.Goals as goal

pub held_bytes-requires-clause-length : goal.held_bytes-requires-clause-length
held_bytes-requires-clause-length c = length_told c.args.cell.now c.in-Some.bytes (sym c.number_length.ensures.value ∙ c.in-Some.is)
