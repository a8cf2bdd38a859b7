use Rattle.std.proofs.Common.{arith}
use Rattle.std.proofs.lemmas.Int.{ints}
use Rattle.asi_cuts.proofs.FactLemmas.{made_bounds, made_elements, made_same, same_stops, shifted_starts}
use Rattle.asi_cuts.proofs.spread.add_made.Goals as goal

pub returns-in-Err : goal.returns-in-Err
returns-in-Err c = let h = c.in-Same in
    same_stops c.args.segments.now c.args.fact.now h.a h.b _ h.a_start h.b_start h.len c.args.set.now c.add_ends.new.set c.in-Err.halt h.is (omega (arith, ints)) c.requires.few c.in-Err.ensures

pub returns-in-Bounds : goal.returns-in-Bounds
returns-in-Bounds c = let h = c.in-Bounds in
    made_bounds c.args.segments.now c.args.fact.now c.one.result c.one-in-Bounds.result h.region _ h.start _ h.end c.args.set.now c.add_rows.new.set c.add_rows.result h.is c.one.ensures c.one-in-Bounds.ensures (omega (arith, ints)) (omega (arith, ints)) c.requires.few c.add_rows.ensures

pub returns-in-Elements : goal.returns-in-Elements
returns-in-Elements c = let h = c.in-Elements in
    made_elements c.args.segments.now c.args.fact.now c.elements-starts.result c.shifted.result h.region _ h.start h.stride h.count h.len c.args.set.now c.add_rows-in-Elements.new.set c.add_rows-in-Elements.result h.is c.elements-starts.ensures
    (shifted_starts c.elements-starts.result c.shifted.result h.region _ h.stride h.count h.len c.elements-starts.ensures c.shifted.ensures) (omega (arith, ints)) c.requires.few c.add_rows-in-Elements.ensures

pub returns-in-Ok : goal.returns-in-Ok
returns-in-Ok c = let h = c.in-Same in
    made_same c.args.segments.now c.args.fact.now h.a h.b _ h.a_start _ h.b_start h.len c.args.set.now c.add_ends.new.set c.add_ends-in-Same.new.set c.add_ends-in-Same.result h.is (omega (arith, ints)) (omega (arith, ints)) c.requires.few c.in-Ok.ensures
    c.add_ends-in-Same.ensures
