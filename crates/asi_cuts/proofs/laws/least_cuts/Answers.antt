use Rattle.std.proofs.Common.{◌≡◌, true}
use Rattle.asi_cuts.proofs.FollowingLemmas.{cuts_follow, fewest_cuts}
use Rattle.asi_cuts.proofs.laws.least_cuts.Goals as goal

pub returns-clause-follow : goal.returns-clause-follow
returns-clause-follow c = cuts_follow

pub returns-clause-fewest : goal.returns-clause-fewest
returns-clause-fewest c = λ kept facts segments holds. fewest_cuts kept facts segments (λ r offset. holds r offset ≡ true)
