use Rattle.round_soundness.proofs.BridgeLaws.{clean_unwarned}
use Rattle.round_soundness.proofs.laws.maps_without_warnings_are_clean.Goals as goal

pub returns : goal.returns
returns c = λ image settings states full none forms. clean_unwarned image settings states full none forms
