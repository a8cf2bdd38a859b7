use Rattle.ia32_semantics.proofs.laws.beginnings_are_runs.Goals as goal
use Rattle.ia32_semantics.proofs.RunLemmas.{beginnings_are_runs}
use Rattle.ia32_semantics.specs.Ia32.{machine}

pub returns : goal.returns
returns c = λ image settings. beginnings_are_runs (machine image settings)
