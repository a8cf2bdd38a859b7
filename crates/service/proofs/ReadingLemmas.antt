-- Whose cells can be read.
use Rattle.std.proofs.Common.{refl}
use Rattle.image_map.specs.declared.image.Image.{Image}
use Rattle.image_map.specs.declared.region.Settings.{Settings}
use Rattle.image_map.specs.Whole.{IsImage}
use Rattle.access_facts.specs.Rows.{AreInside}
use Rattle.access_facts.proofs.RowLemmas.{image_is_inside}
use Rattle.rounds.specs.declared.round.Round.{Round}
use Rattle.rounds.specs.Rounds.{IsRound}
use Rattle.rounds.proofs.RoundLemmas.{of_image}

pub readable : (image : Image) (settings : Settings) (r : Round) → IsImage image → IsRound image settings r → AreInside r.cells.image
readable image settings r whole h = image_is_inside image.segments r.cells.image whole.segments (of_image image settings r.lane r.number r.cells r.cells h.cells refl)
