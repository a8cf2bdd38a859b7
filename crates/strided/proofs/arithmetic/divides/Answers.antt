-- A number is a multiple exactly where the remainder is 0.
use Rattle.strided.proofs.MemberLemmas.{divides_tells}
use Rattle.strided.proofs.arithmetic.divides.Goals as goal

pub returns-clause-multiple : goal.returns-clause-multiple
returns-clause-multiple c = rw c.remainder.ensures (divides_tells c.args.divisor c.args.number)
