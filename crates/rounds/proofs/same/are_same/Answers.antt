use Rattle.std.proofs.Common.{◌<◌, ◌≤◌, length, sym, ◌∙◌, arith}
use Rattle.cell_map.specs.Lists.{same_lists}
use Rattle.cell_map.proofs.SameLemmas.{shorter, same_step, same_not, same_all}
use Rattle.rounds.specs.Same.{same_cuts}
use Rattle.rounds.proofs.same.are_same.Goals as goal

pub returns-then-xs-ys : goal.returns-then-xs-ys
returns-then-xs-ys c = sym (shorter same_cuts c.args.xs.now c.args.ys.now c.if-xs-ys.true)

pub returns-then-not-is_same : goal.returns-then-not-is_same
returns-then-not-is_same c =
    let lt : c.loop-i.i < length c.args.ys.now = omega arith in
    same_not same_cuts c.args.xs.now c.args.ys.now c.loop-i.i c.index-xs-i.result c.index-ys-i.result (same_lists same_cuts c.args.xs.now c.args.ys.now) c.loop-i-test.true lt c.index-xs-i.is c.index-ys-i.is (sym c.is_same.ensures ∙ c.if-not-is_same.true) c.loop-i.invariant

pub loop-i-preserved : goal.loop-i-preserved
loop-i-preserved c =
    let lt : c.loop-i.i < length c.args.ys.now = omega arith in
    same_step same_cuts c.args.xs.now c.args.ys.now c.loop-i.i c.index-xs-i.result c.index-ys-i.result (same_lists same_cuts c.args.xs.now c.args.ys.now) c.loop-i-test.true lt c.index-xs-i.is c.index-ys-i.is (sym c.is_same.ensures ∙ c.if-not-is_same.false) c.loop-i.invariant

pub returns : goal.returns
returns c =
    let few : length c.args.ys.now ≤ c.loop-i.i = omega arith in
    same_all same_cuts c.args.xs.now c.args.ys.now c.loop-i.i (same_lists same_cuts c.args.xs.now c.args.ys.now) c.loop-i-test.false few c.loop-i.invariant
