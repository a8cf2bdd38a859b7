use Rattle.round_soundness.proofs.ArrowLaws.{way_told}
use Rattle.round_soundness.proofs.laws.rounds_tell_ways.Goals as goal

pub returns : goal.returns
returns c = λ image settings r quiet run is_run skip_sp from to j i d. way_told image settings r quiet run is_run skip_sp from to j i d
