use Rattle.round_answers.proofs.AskedLemmas.{fewer_left, none_asked, none_told}
use Rattle.round_answers.proofs.asked.asked_round.Goals as goal

pub rounds-smaller : goal.rounds-smaller
rounds-smaller c = fewer_left c.args.image.now c.args.settings.now _ c.rounds.round c.in_ok-round-2.round c.requires.settings c.in_ok-round-2.ensures.round c.in_ok-round-2.ensures.name.0

pub returns-clause-none : goal.returns-clause-none
returns-clause-none c = none_told c.found.result
    (λ none told. none_asked c.args.image.now c.args.settings.now c.args.choice.now c.rounds.round none c.rounds.invariant.round c.rounds.invariant.lane c.rounds.invariant.within (c.is_end.ensures.end c.rounds-test.false) told)
    c.found.ensures.none
