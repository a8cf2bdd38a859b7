use Rattle.rounds.proofs.OneLemmas.{one_image, one_least}
use Rattle.rounds.proofs.laws.cells_are_settled.Goals as goal

pub returns-clause-extents : goal.returns-clause-extents
returns-clause-extents c = one_image

pub returns-clause-cuts : goal.returns-clause-cuts
returns-clause-cuts c = one_least
