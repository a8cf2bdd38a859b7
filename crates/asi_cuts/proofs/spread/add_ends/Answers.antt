use Rattle.std.proofs.Common.{arith}
use Rattle.std.proofs.lemmas.Int.{ints}
use Rattle.asi_cuts.proofs.FactLemmas.{ends_like}
use Rattle.asi_cuts.proofs.spread.add_ends.Goals as goal

pub returns : goal.returns
returns c =
    ends_like c.args.segments.now c.one.result c.one-2.result c.args.region _ c.args.start c.args.len c.args.set.now c.add_rows.new.set c.add_rows.result c.one.ensures c.one-2.ensures (omega (arith, ints)) c.requires.few c.add_rows.ensures
