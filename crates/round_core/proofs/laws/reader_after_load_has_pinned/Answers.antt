use Rattle.round_core.proofs.LawLemmas.{entered_slot_is_pinned_is, loaded_slot_is_pinned_is}
use Rattle.round_core.proofs.laws.reader_after_load_has_pinned.Goals as goal

pub returns-clause-entered : goal.returns-clause-entered
returns-clause-entered c = entered_slot_is_pinned_is

pub returns-clause-loaded : goal.returns-clause-loaded
returns-clause-loaded c = loaded_slot_is_pinned_is
