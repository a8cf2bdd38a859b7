use Rattle.std.proofs.Common.{◌≡◌, ◌++◌, length}
use Rattle.std.specs.List.{flat_map}
use Rattle.alocs.specs.declared.cells.CutList.{CutList}
use Rattle.alocs.specs.Cells.{cells_of}
use Rattle.round_texts.proofs.locations.listed.Given as goal

abbrev pub invariant-lists_left : goal.invariant-lists_left
invariant-lists_left l = l.all.items ++ flat_map (λ (x : CutList). cells_of l.fn.cells x.region) l.rest ≡ flat_map (λ (x : CutList). cells_of l.fn.cells x.region) l.fn.lists

abbrev pub decreases-lists_left : goal.decreases-lists_left
decreases-lists_left l = length l.rest
