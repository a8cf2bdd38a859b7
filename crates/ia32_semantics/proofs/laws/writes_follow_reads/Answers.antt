use Rattle.ia32_semantics.proofs.laws.writes_follow_reads.Goals as goal
use Rattle.ia32_semantics.proofs.StepLemmas.{writes_follow_reads}

pub returns : goal.returns
returns c = writes_follow_reads
