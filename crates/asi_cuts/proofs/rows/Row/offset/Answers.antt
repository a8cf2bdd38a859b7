use Rattle.std.proofs.Common.{◌≡◌, ◌*◌, ap, arith}
use Rattle.std.proofs.lemmas.Int.{ints}
use Rattle.asi_cuts.proofs.rows.Row.offset.Goals as goal

pub overflow_cast-result : goal.overflow_cast-result
overflow_cast-result c =
    let e : c.args.number * c.from.result ≡ c.args.number * c.args.self.now.stride = ap (λ s. c.args.number * s) c.from.ensures in
    omega (arith, ints)

pub overflow_add-result : goal.overflow_add-result
overflow_add-result c =
    let e : c.args.number * c.from.result ≡ c.args.number * c.args.self.now.stride = ap (λ s. c.args.number * s) c.from.ensures in
    omega (arith, ints)
