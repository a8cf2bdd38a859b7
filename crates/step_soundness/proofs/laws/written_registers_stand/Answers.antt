use Rattle.step_soundness.proofs.CoreLaws.{puts_stands}
use Rattle.step_soundness.proofs.laws.written_registers_stand.Goals as goal

pub returns : goal.returns
returns c = λ lane d image p a s part n m v stands form few word fits small has. puts_stands lane d image p a s stands part n m v form few word fits small has
