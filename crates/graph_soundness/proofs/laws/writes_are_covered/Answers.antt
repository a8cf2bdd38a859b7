use Rattle.graph_soundness.proofs.StepWrites.{write_covered}
use Rattle.graph_soundness.proofs.laws.writes_are_covered.Goals as goal

pub returns : goal.returns
returns c = λ image settings states o is are clean goes byte written kept. let found = write_covered image settings states is are o goes clean byte written kept in (found.spot, found.lies, found.may)
