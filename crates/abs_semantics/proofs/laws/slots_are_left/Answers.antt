use Rattle.abs_semantics.proofs.laws.slots_are_left.Goals as goal
use Rattle.abs_semantics.proofs.SlotLemmas as lemma

pub returns : goal.returns
returns c = lemma.slots_are_left
