use Rattle.ia32_semantics.proofs.laws.changes_only_writes.Goals as goal
use Rattle.ia32_semantics.proofs.StepLemmas.{changes_only_writes}

pub returns : goal.returns
returns c = changes_only_writes
