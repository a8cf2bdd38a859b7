use Rattle.surf_base.proofs.FileLists.{stands_from_position}
use Rattle.surf_base.proofs.memory_shelf.place_of.Goals as goal

pub returns : goal.returns
returns c = stands_from_position c.args.files.now c.args.name.now _ c.position_of.ensures
