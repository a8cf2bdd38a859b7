use Rattle.first_cuts.proofs.RiseLemmas.{first_rise, first_few}
use Rattle.first_cuts.proofs.laws.first_lists_are_cut_lists.Goals as goal

pub returns-clause-rise : goal.returns-clause-rise
returns-clause-rise c = first_rise

pub returns-clause-few : goal.returns-clause-few
returns-clause-few c = first_few
