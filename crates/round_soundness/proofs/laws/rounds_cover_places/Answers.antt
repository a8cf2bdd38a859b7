use Rattle.round_soundness.proofs.RoundLaws.{round_describes}
use Rattle.round_soundness.proofs.laws.rounds_cover_places.Goals as goal

pub returns : goal.returns
returns c = λ image settings r quiet bytes. (round_describes image settings r quiet bytes).covers
