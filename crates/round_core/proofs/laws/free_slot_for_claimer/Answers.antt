use Rattle.round_core.proofs.LawLemmas.{free_slot_for_claimer_is}
use Rattle.round_core.proofs.laws.free_slot_for_claimer.Goals as goal

pub returns : goal.returns
returns c = record { free_slot = free_slot_for_claimer_is }
