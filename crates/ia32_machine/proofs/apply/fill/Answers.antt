use Rattle.ia32_types.specs.Numbers.{size}
use Rattle.ia32_memory.specs.Mapped.{bytes_of}
use Rattle.ia32_plan.specs.Views.{state_of}
use Rattle.ia32_machine.proofs.PerformLemmas.{fill_state}
use Rattle.ia32_machine.proofs.apply.fill.Goals as goal

pub returns-clause-state : goal.returns-clause-state
returns-clause-state c = λ image fits.
    fill_state image c.args.elements.down (size c.args.elements.width) c.args.value c.args.elements.count c.args.to c.stepped-target.result
    (state_of c.args.core.now) (state_of c.set.new.core) (bytes_of c.fill.new.self)
    c.fill.ensures.bytes c.stepped-target.ensures c.set.ensures.state fits
