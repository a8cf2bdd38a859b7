use Rattle.round_soundness.proofs.ArrowLaws.{round_lists}
use Rattle.round_soundness.proofs.laws.rounds_list_dependences.Goals as goal

pub returns : goal.returns
returns c = λ image settings r quiet skip_sp at addresses slice run is_run. round_lists image settings r quiet run is_run skip_sp at addresses slice
