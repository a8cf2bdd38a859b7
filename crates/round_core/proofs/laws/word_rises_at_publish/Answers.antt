use Rattle.round_core.proofs.LawLemmas.{round_rises_at_publish_is, round_never_falls_is, named_slot_is_filled_is, word_fits_is}
use Rattle.round_core.proofs.laws.word_rises_at_publish.Goals as goal

pub returns-clause-rises : goal.returns-clause-rises
returns-clause-rises c = round_rises_at_publish_is

pub returns-clause-never_falls : goal.returns-clause-never_falls
returns-clause-never_falls c = round_never_falls_is

pub returns-clause-filled : goal.returns-clause-filled
returns-clause-filled c = named_slot_is_filled_is

pub returns-clause-fits : goal.returns-clause-fits
returns-clause-fits c = word_fits_is
