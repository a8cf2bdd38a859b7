use Rattle.abs_semantics.proofs.laws.memory_operands_are_members.Goals as goal
use Rattle.abs_semantics.proofs.MemoryLemmas as lemma

pub returns : goal.returns
returns c = lemma.memory_operands
