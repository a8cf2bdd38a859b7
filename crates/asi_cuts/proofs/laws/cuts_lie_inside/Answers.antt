use Rattle.asi_cuts.proofs.FollowingLemmas.{lies_inside}
use Rattle.asi_cuts.proofs.laws.cuts_lie_inside.Goals as goal

pub returns : goal.returns
returns c = lies_inside
