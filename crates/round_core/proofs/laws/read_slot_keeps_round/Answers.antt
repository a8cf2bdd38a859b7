use Rattle.round_core.proofs.LawLemmas.{read_slot_keeps_round_is}
use Rattle.round_core.proofs.laws.read_slot_keeps_round.Goals as goal

pub returns : goal.returns
returns c = record { keeps_round = read_slot_keeps_round_is }
