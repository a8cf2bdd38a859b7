use Rattle.std.proofs.Common.{negsuc, sym, ◌∙◌, arith}
use Rattle.std.specs.Int.{int_max}
use Rattle.std.proofs.lemmas.Int.{ints, clamps}
use Rattle.alocs.proofs.CellLemmas.{after_none, after_some, cell_is}
use Rattle.alocs.proofs.ExtentLemmas.{extent_is, none_is}
use Rattle.alocs.proofs.touching.Plan.cell_after.Goals as goal

pub cell_at-requires-clause-above : goal.cell_at-requires-clause-above
cell_at-requires-clause-above c = omega (arith, ints, clamps)

pub cell_at-requires-clause-below : goal.cell_at-requires-clause-below
cell_at-requires-clause-below c =
    let plan = c.args.self.now in
    let at = c.args.offset in
    let some = after_some plan.region (negsuc 2147483647) at plan.extents.now plan.cuts.now c.in_ok-extent.extent c.requires.rise
    (extent_is plan.extents.now c.in_ok-extent.extent c.in_ok-extent.ensures at (omega (arith, ints))) in
    let below = some.0 in let full = some.1 in
    omega (arith, ints, clamps)

pub returns-in_err-extent : goal.returns-in_err-extent
returns-in_err-extent c =
    let plan = c.args.self.now in
    let at = c.args.offset in
    c.from_residual.ensures ∙ sym (after_none plan.region (negsuc 2147483647) at plan.extents.now plan.cuts.now (none_is plan.extents.now c.in_err-extent.ensures at (omega (arith, ints))))

pub returns : goal.returns
returns c =
    let plan = c.args.self.now in
    let at = c.args.offset in
    let x = c.in_ok-extent.extent in
    let some = after_some plan.region (negsuc 2147483647) at plan.extents.now plan.cuts.now x c.requires.rise
    (extent_is plan.extents.now x c.in_ok-extent.ensures at (omega (arith, ints))) in
    sym (some.2 c.cell_at.result (cell_is plan.region plan.cuts.now c.cell_at.result c.cell_at.ensures (int_max at x.start) x.start x.end (omega (arith, ints, clamps)) (omega (arith, ints)) (omega (arith, ints))))
