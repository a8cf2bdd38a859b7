use Rattle.graph_soundness.proofs.StepAlways.{always_covered}
use Rattle.graph_soundness.proofs.laws.sure_bytes_are_written.Goals as goal

pub returns : goal.returns
returns c = λ image settings states o is are clean goes byte spot lies must. always_covered image settings states is are o goes byte spot lies clean must
