-- What is left of the distance from the least word.
use Rattle.std.proofs.Common.{◌≡◌, ℕ, ◌%◌, sym, ap, ◌∙◌, arith}
use Rattle.std.specs.Int.{int_gap}
use Rattle.std.proofs.lemmas.Int.{ints}
use Rattle.strided.specs.Interval.{least}
use Rattle.strided.specs.Operations.{lowest}
use Rattle.strided.proofs.SpacedLemmas.{gap_from}
use Rattle.strided.proofs.joins.lowest.Goals as goal

pub returns : goal.returns
unfolding lowest
returns c =
    let e : int_gap least c.args.value ≡ c.gap.result = gap_from least c.args.value c.gap.result (omega (arith, ints)) in
    let r : c.remainder.result ≡ int_gap least c.args.value % c.args.stride = c.remainder.ensures ∙ ap (λ (n : ℕ). n % c.args.stride) (sym e) in
    omega (arith, ints)
