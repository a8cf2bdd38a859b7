use Rattle.std.proofs.Common.{length}
use Rattle.requests.proofs.DigitLemmas.{Reads}
use Rattle.requests.proofs.digits.address.Given as goal

abbrev pub invariant-digits : goal.invariant-digits
invariant-digits l = Reads l.digits l.rest l.value

abbrev pub decreases-digits : goal.decreases-digits
decreases-digits l = length l.rest
