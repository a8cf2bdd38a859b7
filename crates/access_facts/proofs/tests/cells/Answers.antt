use Rattle.access_facts.proofs.RowLemmas.{image_is_inside}
use Rattle.access_facts.proofs.tests.cells.Goals as goal

pub returns : goal.returns
returns c = image_is_inside c.args.image.now.segments c.in_ok-cells.cells.image c.requires.segments c.in_ok-cells.ensures.image
