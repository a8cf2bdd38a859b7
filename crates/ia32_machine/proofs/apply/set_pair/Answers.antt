use Rattle.ia32_semantics.specs.Effects.{sets}
use Rattle.ia32_semantics.specs.Operands.{part_of}
use Rattle.ia32_plan.specs.Views.{state_of}
use Rattle.ia32_machine.proofs.PerformLemmas.{two_sets}
use Rattle.ia32_machine.proofs.apply.set_pair.Goals as goal

pub returns-clause-state : goal.returns-clause-state
returns-clause-state c =
    two_sets (state_of c.args.core.now) (state_of c.set.new.core) (state_of c.set-2.new.core) (sets (part_of c.args.width) 0 c.args.low) (sets (part_of c.args.width) 2 c.args.high)
    c.set.ensures.state c.set-2.ensures.state
