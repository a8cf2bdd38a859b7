use Rattle.std.proofs.Common.{arith}
use Rattle.surf_prog.proofs.list.standing.Goals as goal

pub returns-then-at-clause-stands : goal.returns-then-at-clause-stands
returns-then-at-clause-stands c = λ i. (λ e. (omega arith, (c.fetched.ensures.exact i).0 e), λ stands. (c.fetched.ensures.exact i).1 stands.1)
