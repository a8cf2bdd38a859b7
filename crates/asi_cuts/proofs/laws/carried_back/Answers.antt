use Rattle.asi_cuts.proofs.FollowingLemmas.{back}
use Rattle.asi_cuts.proofs.laws.carried_back.Goals as goal

pub returns : goal.returns
returns c = back
