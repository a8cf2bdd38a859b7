use Rattle.std.proofs.Common.{◌<◌, ◌≤◌, length, sym, ◌∙◌, arith}
use Rattle.vset.specs.Operations.{same_parts}
use Rattle.vset.proofs.SameLemmas.{shorter, same_step, same_not, same_all}
use Rattle.vset.proofs.joins.are_same.Goals as goal

pub returns-then-xs-ys : goal.returns-then-xs-ys
returns-then-xs-ys c = sym (shorter c.args.xs.now c.args.ys.now c.if-xs-ys.true)

pub returns-then-not-is_same_part : goal.returns-then-not-is_same_part
returns-then-not-is_same_part c =
    let lt : c.loop-i.i < length c.args.ys.now = omega arith in
    same_not c.args.xs.now c.args.ys.now c.loop-i.i c.index-xs-i.result c.index-ys-i.result (same_parts c.args.xs.now c.args.ys.now) c.loop-i-test.true lt c.index-xs-i.is c.index-ys-i.is (sym c.is_same_part.ensures ∙ c.if-not-is_same_part.true) c.loop-i.invariant

pub loop-i-preserved : goal.loop-i-preserved
loop-i-preserved c =
    let lt : c.loop-i.i < length c.args.ys.now = omega arith in
    same_step c.args.xs.now c.args.ys.now c.loop-i.i c.index-xs-i.result c.index-ys-i.result (same_parts c.args.xs.now c.args.ys.now) c.loop-i-test.true lt c.index-xs-i.is c.index-ys-i.is (sym c.is_same_part.ensures ∙ c.if-not-is_same_part.false) c.loop-i.invariant

pub returns : goal.returns
returns c =
    let few : length c.args.ys.now ≤ c.loop-i.i = omega arith in
    same_all c.args.xs.now c.args.ys.now c.loop-i.i (same_parts c.args.xs.now c.args.ys.now) c.loop-i-test.false few c.loop-i.invariant
