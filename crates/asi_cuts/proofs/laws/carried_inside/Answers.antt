use Rattle.asi_cuts.proofs.FollowingLemmas.{inside}
use Rattle.asi_cuts.proofs.laws.carried_inside.Goals as goal

pub returns : goal.returns
returns c = inside
