use Rattle.ia32_semantics.proofs.RowWithinLemmas.{steps_keep_to_tables}
use Rattle.ia32_semantics.proofs.laws.steps_keep_to_tables.Goals as goal

pub returns : goal.returns
returns c = steps_keep_to_tables
