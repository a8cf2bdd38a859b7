use Rattle.vsa.specs.Lawful.{is_lawful}
use Rattle.vsa.proofs.laws.nodes_are_places.Goals as goal

pub returns : goal.returns
returns c = record { lawful = is_lawful }
