use Rattle.asi_cuts.proofs.FitLemmas.{lists_fit}
use Rattle.asi_cuts.proofs.laws.closed_lists_fit.Goals as goal

pub returns : goal.returns
returns c = lists_fit
