use Rattle.std.proofs.Common.{length}
use Rattle.requests.proofs.FilledLemmas.{Listed}
use Rattle.requests.proofs.text.put_addresses.Given as goal

abbrev pub invariant-addresses : goal.invariant-addresses
invariant-addresses l = Listed l.fn.into l.into l.fn.at l.end l.fn.addresses l.rest

abbrev pub decreases-addresses : goal.decreases-addresses
decreases-addresses l = length l.rest
