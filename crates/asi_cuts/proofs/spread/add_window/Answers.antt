use Rattle.std.proofs.Common.{refl, arith}
use Rattle.std.specs.Int.{w32}
use Rattle.std.specs.declared.result.Result.TheVariants.{Ok, Err}
use Rattle.std.proofs.lemmas.Int.{ints, to_z-of_z}
use Rattle.asi_cuts.proofs.FactLemmas.{same_window}
use Rattle.asi_cuts.proofs.WindowLemmas.{window_above, window_begin, window_end, window_more, window_stop}
use Rattle.asi_cuts.proofs.spread.add_window.Goals as goal

pub loop-number-init : goal.loop-number-init
loop-number-init c = record {
  behind = omega arith;
  reached = window_begin c.args.row.now _ _ c.number_below-number.result c.args.set.now c.requires.few;
}

pub overflow_cast-cut : goal.overflow_cast-cut
overflow_cast-cut c =
    let up = ((c.number_up_to-within.ensures c.loop-number.number).1 c.loop-number-test.true).1 in
    let above = window_above c.args.row.now _ c.number_below-number.result c.loop-number.number c.number_below-number.ensures c.loop-number.invariant.behind in
    omega (arith, ints)

pub add-requires : goal.add-requires
add-requires c = c.loop-number.invariant.reached.few

pub returns-in-Err : goal.returns-in-Err
returns-in-Err c =
    let up = ((c.number_up_to-within.ensures c.loop-number.number).1 c.loop-number-test.true).1 in
    let above = window_above c.args.row.now _ c.number_below-number.result c.loop-number.number c.number_below-number.ensures c.loop-number.invariant.behind in
    same_window c.args.row.now _ _ _ _ c.args.set.now c.add.new.self (Err c.in-Err.halt) (to_z-of_z w32 c.args.low c.ranges.low) (to_z-of_z w32 c.args.high c.ranges.high)
    (window_stop c.args.row.now _ _ c.number_below-number.result c.number_up_to-within.result c.loop-number.number _ c.args.set.now c.loop-number.set c.add.new.self c.in-Err.halt c.number_below-number.ensures c.number_up_to-within.ensures
    c.loop-number.invariant.behind c.loop-number-test.true refl (omega (arith, ints)) c.loop-number.invariant.reached c.in-Err.ensures)

pub loop-number-preserved : goal.loop-number-preserved
loop-number-preserved c =
    let up = ((c.number_up_to-within.ensures c.loop-number.number).1 c.loop-number-test.true).1 in
    let above = window_above c.args.row.now _ c.number_below-number.result c.loop-number.number c.number_below-number.ensures c.loop-number.invariant.behind in
    record {
      behind = let b = c.loop-number.invariant.behind in omega arith;
      reached = window_more c.args.row.now _ _ c.number_below-number.result c.number_up_to-within.result c.loop-number.number _ c.args.set.now c.loop-number.set c.add.new.self c.number_below-number.ensures c.number_up_to-within.ensures
          c.loop-number.invariant.behind c.loop-number-test.true refl (omega (arith, ints)) c.loop-number.invariant.reached c.in-Ok.ensures;
    }

pub returns : goal.returns
returns c =
    same_window c.args.row.now _ _ _ _ c.args.set.now c.loop-number.set (Ok tt) (to_z-of_z w32 c.args.low c.ranges.low) (to_z-of_z w32 c.args.high c.ranges.high)
    (window_end c.args.row.now _ _ c.number_below-number.result c.number_up_to-within.result c.loop-number.number c.args.set.now c.loop-number.set c.number_below-number.ensures c.number_up_to-within.ensures (omega arith) c.loop-number.invariant.reached)
