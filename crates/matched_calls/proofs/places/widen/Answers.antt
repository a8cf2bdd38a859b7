use Rattle.std.proofs.Common.{◌∙◌, arith}
use Rattle.matched_calls.proofs.PlaceLemmas.{widening_all}
use Rattle.matched_calls.proofs.places.widen.Goals as goal

pub returns-clause-len : goal.returns-clause-len
returns-clause-len c = c.loop-n.invariant.len ∙ c.requires.room

pub returns-clause-bits : goal.returns-clause-bits
returns-clause-bits c = widening_all c.args.kept.now c.args.wide.now c.loop-n.wide c.args.k c.loop-n.n (omega arith) c.requires.room c.loop-n.invariant
