use Rattle.round_core.proofs.LawLemmas.{one_claimer_is, claimer_is_marked_is, claimer_alone_changes_word_is}
use Rattle.round_core.proofs.laws.claimer_alone_changes_word.Goals as goal

pub returns-clause-one : goal.returns-clause-one
returns-clause-one c = one_claimer_is

pub returns-clause-marked : goal.returns-clause-marked
returns-clause-marked c = claimer_is_marked_is

pub returns-clause-alone : goal.returns-clause-alone
returns-clause-alone c = claimer_alone_changes_word_is
