use Rattle.matched_soundness.proofs.MatchLaws.{matches_listed}
use Rattle.matched_soundness.proofs.laws.matched_slices_list_dependences.Goals as goal

pub returns : goal.returns
returns c = λ image settings r quiet ordinary sp control has skip_sp at addresses slice run is_run. matches_listed image settings r quiet run is_run skip_sp ordinary sp control has at addresses slice
