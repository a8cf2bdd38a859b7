use Rattle.graph_soundness.proofs.StepReads.{read_covered}
use Rattle.graph_soundness.proofs.laws.reads_are_covered.Goals as goal

pub returns : goal.returns
returns c = λ image settings states drawn o is are comes byte spot read lies. read_covered image settings states drawn is are o comes byte read spot lies
