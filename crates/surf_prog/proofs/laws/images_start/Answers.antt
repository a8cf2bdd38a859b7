use Rattle.surf_prog.proofs.StartLemmas as start
use Rattle.surf_prog.proofs.laws.images_start.Goals as goal

pub returns : goal.returns
returns c = start.images_start
