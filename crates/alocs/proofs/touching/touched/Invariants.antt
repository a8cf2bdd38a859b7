use Rattle.std.proofs.Common.{pos, ◌-ℤ◌}
use Rattle.std.specs.Prelude.{unsigned_abs, ◌≤ℤ◌}
use Rattle.alocs.specs.Cells.{cells_in}
use Rattle.alocs.proofs.TouchLemmas.{TouchedUpTo}
use Rattle.alocs.proofs.touching.touched.Given as goal

abbrev pub invariant-loop-cell : goal.invariant-loop-cell
invariant-loop-cell l = record {
  near : l.passed ≤ℤ pos 4294967296;
  touched : TouchedUpTo (cells_in l.plan.region l.plan.extents.now l.plan.cuts.now) l.offsets l.len l.passed l.cells.items;
}

abbrev pub decreases-loop-cell : goal.decreases-loop-cell
decreases-loop-cell l = unsigned_abs (pos 4294967296 -ℤ l.passed)
