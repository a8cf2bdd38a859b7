use Rattle.ia32_semantics.proofs.laws.depends_on_last_writers.Goals as goal
use Rattle.ia32_semantics.proofs.RunLemmas.{depends_on_last_writers}
use Rattle.ia32_semantics.specs.Ia32.{machine}

pub returns : goal.returns
returns c = λ image settings. depends_on_last_writers (machine image settings)
