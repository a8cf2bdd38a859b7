use Rattle.std.proofs.Common.{arith}
use Rattle.std.proofs.lemmas.Int.{ints}
use Rattle.asi_cuts.proofs.rows.Row.number_up_to.Goals as goal

pub steps-requires-clause-low : goal.steps-requires-clause-low
steps-requires-clause-low c = omega (arith, ints)

pub returns : goal.returns
returns c = λ k. (λ h. let few = h.0 in let le = h.1 in let q = (c.steps.ensures k).0 (omega (arith, ints)) in omega arith, λ h. (omega arith, let q = (c.steps.ensures k).1 (omega arith) in omega (arith, ints)))
