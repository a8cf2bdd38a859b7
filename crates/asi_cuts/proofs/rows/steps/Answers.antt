use Rattle.std.proofs.Common.{◌/◌, ◌+◌, ap, arith}
use Rattle.std.proofs.lemmas.Int.{ints}
use Rattle.asi_cuts.proofs.RowLemmas.{steps_some}
use Rattle.asi_cuts.proofs.rows.steps.Goals as goal

pub returns : goal.returns
returns c = λ k. steps_some c.args.from c.args.to c.rise.result c.args.stride _ k c.requires.some (omega (arith, ints)) (ap (λ s. c.rise.result / s + 1) c.from.ensures)
