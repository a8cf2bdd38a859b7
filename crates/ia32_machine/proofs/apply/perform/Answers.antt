use Rattle.ia32_memory.specs.Mapped.{bytes_of}
use Rattle.ia32_plan.specs.Views.{state_of}
use Rattle.ia32_machine.proofs.PerformLemmas.{store_entry}
use Rattle.ia32_machine.proofs.apply.perform.Goals as goal

pub returns-in-Store-clause-state : goal.returns-in-Store-clause-state
returns-in-Store-clause-state c = λ image fits.
    store_entry image c.args.entry.now _ _ _ (state_of c.args.core.now) (bytes_of c.write.new.self) c.in-Store.is c.write.ensures.bytes fits
