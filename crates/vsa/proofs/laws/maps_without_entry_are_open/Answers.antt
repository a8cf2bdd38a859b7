use Rattle.vsa.proofs.CleanLemmas.{open_without_entry}
use Rattle.vsa.proofs.laws.maps_without_entry_are_open.Goals as goal

pub returns : goal.returns
returns c = record { entry = open_without_entry }
