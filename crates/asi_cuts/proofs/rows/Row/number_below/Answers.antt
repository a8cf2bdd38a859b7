use Rattle.std.proofs.Common.{arith}
use Rattle.std.proofs.lemmas.Int.{ints}
use Rattle.asi_cuts.proofs.rows.Row.number_below.Goals as goal

pub steps-requires-clause-low : goal.steps-requires-clause-low
steps-requires-clause-low c = omega (arith, ints)

pub returns : goal.returns
returns c = λ k. (λ h. (c.steps.ensures k).0 (omega (arith, ints)), λ h. let q = (c.steps.ensures k).1 h in omega (arith, ints))
