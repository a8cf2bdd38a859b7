use Rattle.std.proofs.Common.{◌-◌, ◌≤◌}
use Rattle.surf_prog.proofs.ListingLaws.{Told}
use Rattle.surf_prog.proofs.list.listing.Given as goal

abbrev pub invariant-places : goal.invariant-places
invariant-places l = record {
  told : Told l.fn.image l.fn.at l.fn.steps l.place l.count l.text.items;
  within : l.count ≤ l.fn.steps;
}

abbrev pub decreases-places : goal.decreases-places
decreases-places l = l.fn.steps - l.count
