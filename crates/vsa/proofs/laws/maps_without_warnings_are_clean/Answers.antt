use Rattle.vsa.proofs.CleanLemmas.{clean_without_warning}
use Rattle.vsa.proofs.laws.maps_without_warnings_are_clean.Goals as goal

pub returns : goal.returns
returns c = record { clean = clean_without_warning }
