use Rattle.round_core.proofs.LawLemmas.{loaded_word_is_no_newer_is}
use Rattle.round_core.proofs.laws.loaded_word_is_no_newer.Goals as goal

pub returns : goal.returns
returns c = record { no_newer = loaded_word_is_no_newer_is }
