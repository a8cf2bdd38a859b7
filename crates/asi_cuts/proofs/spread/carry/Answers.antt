use Rattle.std.proofs.Common.{arith}
use Rattle.std.proofs.lemmas.Int.{ints}
use Rattle.asi_cuts.proofs.FactLemmas.{carry_elements, carry_elsewhere, carry_same}
use Rattle.asi_cuts.proofs.MoveLemmas.{alike, other_region}
use Rattle.asi_cuts.proofs.spread.carry.Goals as goal

pub returns-then-ne : goal.returns-then-ne
returns-then-ne c = let h = c.in-Elements in
    carry_elsewhere c.args.segments.now c.args.fact.now c.args.cut.now h.region h.start h.stride h.count h.len c.args.set.now h.is (other_region c.args.cut.now.region h.region c.if-ne.ensures) c.requires.few

pub returns-else-ne : goal.returns-else-ne
returns-else-ne c = let h = c.in-Elements in let e = c.repeated.ensures in
    carry_elements c.args.segments.now c.args.fact.now c.args.cut.now c.repeated.result c.elements-starts.result h.region _ h.start _ h.stride h.count h.len c.args.set.now c.add_row.new.set c.add_row.result h.is c.elements-starts.ensures (omega (arith, ints))
    (alike c.args.cut.now.region h.region c.if-ne.ensures) (omega (arith, ints)) (e.region, e.carried, e.all) c.requires.there c.requires.few c.add_row.ensures

pub returns-in-Same : goal.returns-in-Same
returns-in-Same c = let h = c.in-Same in
    carry_same c.args.segments.now c.args.fact.now c.args.cut.now c.moved.result c.moved-in-Same.result c.turned.result h.a h.b _ h.a_start _ h.b_start h.len c.args.set.now c.add_rows.new.set c.add_rows.result h.is (omega (arith, ints)) (omega (arith, ints))
    c.turned.ensures c.moved.ensures c.moved-in-Same.ensures c.requires.few c.add_rows.ensures
