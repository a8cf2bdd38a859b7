use Rattle.std.proofs.Common.{◌≡◌, false, length}
use Rattle.image_map.specs.declared.region.Cell.{Cell}
use Rattle.image_map.specs.Regions.{cell_before}
use Rattle.abs_semantics.specs.States.{value_in}
use Rattle.cell_map.specs.Lists.{AreRising}
use Rattle.cell_map.proofs.below.passed.Given as goal

abbrev pub invariant-loop-x : goal.invariant-loop-x
invariant-loop-x l =
    ((c : Cell) → cell_before c l.cell ≡ false → value_in c l.left ≡ value_in c l.xs)
    × (AreRising l.xs → AreRising l.left)

abbrev pub decreases-loop-x : goal.decreases-loop-x
decreases-loop-x l = length l.left
