-- What is asked of a program and of a map of it from nodes to abstract states. The project's own.
use Rattle.std.specs.Prelude.{List, length, map}
use Rattle.std.specs.Borrow.{Bor}
use Rattle.image_map.specs.CallModel.{AreSettings}
use Rattle.image_map.specs.Whole.{IsImage}
use Rattle.alocs.specs.Extents.{AreOfImage}
use Rattle.call_strings.specs.declared.context.Node.{Node}
use Rattle.abs_state.specs.declared.state.AbsState.{AbsState}
use Rattle.abs_steps.specs.Successors.{Placed}
use Rattle.transfer_flow.specs.declared.site.Program.{Program}
use Rattle.transfer_flow.specs.Successors.{placed_of}

-- an image with settings for it, and a division of its memory
pub record IsOfImage (p : Program) : Type 0 where
  pub image : IsImage p.image.now
  pub settings : AreSettings (length p.image.now.externs) p.settings.now
  pub cells : AreOfImage p.image.now.segments p.cells.now.image

abbrev pub all_of : List (Bor Node × Bor AbsState) → List Placed
all_of placed = map placed_of placed
