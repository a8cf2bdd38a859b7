use Rattle.round_answers.proofs.AskedLemmas.{none_behind, one_asked}
use Rattle.round_answers.proofs.laws.rounds_end.Goals as goal

pub returns-clause-none_behind : goal.returns-clause-none_behind
returns-clause-none_behind c = none_behind

pub returns-clause-one : goal.returns-clause-one
returns-clause-one c = one_asked
