use Rattle.ia32_semantics.specs.Effects.{Low, High, sets}
use Rattle.ia32_plan.specs.Views.{state_of}
use Rattle.ia32_machine.proofs.PerformLemmas.{two_sets}
use Rattle.ia32_machine.proofs.apply.set_bytes.Goals as goal

pub returns-clause-state : goal.returns-clause-state
returns-clause-state c =
    two_sets (state_of c.args.core.now) (state_of c.set.new.core) (state_of c.set_high.new.core) (sets Low 0 c.args.quotient) (sets High 0 c.args.remainder)
    c.set.ensures.state c.set_high.ensures.state
