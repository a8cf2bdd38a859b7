-- Lists of cuts that are compared. The project's own.
use Rattle.std.specs.Prelude.{◌&&◌, Bool}
use Rattle.std.specs.Cmp.Lexicographic.{pointwise}
use Rattle.std.specs.Ordering.{int_eq}
use Rattle.image_map.specs.Regions.{same_region}
use Rattle.alocs.specs.declared.cells.CutList.{CutList}

-- of one region, with the same cuts
abbrev pub same_cuts : CutList → CutList → Bool
same_cuts l m = same_region l.region m.region && pointwise int_eq l.cuts m.cuts
