use Rattle.round_soundness.proofs.ArrowLaws.{arrow_there}
use Rattle.round_soundness.proofs.laws.rounds_have_arrows.Goals as goal

pub returns : goal.returns
returns c = λ image settings r quiet run is_run skip_sp. arrow_there image settings r quiet run is_run skip_sp
