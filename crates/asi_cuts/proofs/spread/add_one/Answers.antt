use Rattle.std.proofs.Common.{arith}
use Rattle.std.proofs.lemmas.Int.{ints}
use Rattle.asi_cuts.proofs.RegionLemmas.{adds_one}
use Rattle.asi_cuts.proofs.spread.add_one.Goals as goal

pub returns : goal.returns
returns c = adds_one c.args.segments.now c.one.result c.args.region _ 0 c.args.offset.now c.args.set.now c.add_row.new.set c.add_row.result c.one.ensures (omega (arith, ints)) c.requires.few c.add_row.ensures
