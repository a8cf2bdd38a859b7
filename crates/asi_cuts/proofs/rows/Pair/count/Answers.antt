use Rattle.std.proofs.Common.{arith}
use Rattle.asi_cuts.proofs.MoveLemmas.{other_region, counted}
use Rattle.asi_cuts.proofs.rows.Pair.count.Goals as goal

pub returns-then-ne-clause-some : goal.returns-then-ne-clause-some
returns-then-ne-clause-some c = λ e _ _. absurd (other_region c.args.region c.args.self.now.a c.if-ne.ensures e)

pub returns-clause-only : goal.returns-clause-only
returns-clause-only c = counted c.args.region c.args.self.now.a c.args.shift c.args.self.now.len c.from.result c.if-ne.ensures (omega arith) c.from.ensures
