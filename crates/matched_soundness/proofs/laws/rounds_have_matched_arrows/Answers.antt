use Rattle.matched_soundness.proofs.MatchLaws.{arrow_there}
use Rattle.matched_soundness.proofs.laws.rounds_have_matched_arrows.Goals as goal

pub returns : goal.returns
returns c = λ image settings r quiet run is_run skip_sp. arrow_there image settings r quiet run is_run skip_sp
