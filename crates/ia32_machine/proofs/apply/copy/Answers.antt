use Rattle.ia32_types.specs.Numbers.{size}
use Rattle.ia32_memory.specs.Mapped.{bytes_of}
use Rattle.ia32_plan.specs.Views.{state_of}
use Rattle.ia32_machine.proofs.PerformLemmas.{copy_state}
use Rattle.ia32_machine.proofs.apply.copy.Goals as goal

pub returns-clause-state : goal.returns-clause-state
returns-clause-state c = λ image fits.
    copy_state image c.args.elements.down (size c.args.elements.width) c.args.elements.count c.args.from c.args.to c.stepped-source.result c.stepped-target.result
    (state_of c.args.core.now) (state_of c.set.new.core) (state_of c.set-2.new.core) (bytes_of c.copy.new.self)
    c.copy.ensures.bytes c.stepped-source.ensures c.stepped-target.ensures c.set.ensures.state c.set-2.ensures.state fits
