use Rattle.ia32_semantics.proofs.laws.starts_are_whole.Goals as goal
use Rattle.ia32_semantics.proofs.RunLemmas.{starts_are_whole}

pub returns : goal.returns
returns c = starts_are_whole
