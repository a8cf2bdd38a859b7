use Rattle.std.proofs.Common.{◌≡◌, ℕ, ◌+◌, ◌<◌, ◌≤◌, true, get_or}
use Rattle.image_map.specs.Regions.{region_before}
use Rattle.alocs.specs.declared.cells.CutList.{CutList}
use Rattle.alocs.proofs.cells.are_by_region.Given as goal

abbrev pub invariant-loop-place : goal.invariant-loop-place
invariant-loop-place l = record {
  some : 1 ≤ l.place;
  before : (k : ℕ) (e : CutList) → k + 1 < l.place → region_before (get_or l.lists k e).region (get_or l.lists (k + 1) e).region ≡ true;
}
