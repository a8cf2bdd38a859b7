use Rattle.chops.proofs.MaskLemmas.{both_none, both_some}
use Rattle.chops.proofs.masks.both_if.Goals as goal

pub returns-then-not-is_wished : goal.returns-then-not-is_wished
returns-then-not-is_wished c = λ k. both_none c.args.a c.args.b k c.args.is_wished (λ on. let off = c.if-not-is_wished.true in absurd (cc))

pub returns : goal.returns
returns c = λ k. both_some c.args.a c.args.b k c.args.is_wished c.if-not-is_wished.false
