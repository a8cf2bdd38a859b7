use Rattle.ia32_plan.specs.Views.{state_of}
use Rattle.ia32_machine.proofs.PerformLemmas.{two_entries}
use Rattle.ia32_machine.proofs.apply.perform_all.Goals as goal

pub returns-in-Two-clause-state : goal.returns-in-Two-clause-state
returns-in-Two-clause-state c = λ image fits.
    two_entries image c.args.effects.now _ _ (state_of c.args.core.now) (state_of c.perform-in-Two.new.core) (state_of c.perform-in-Two-2.new.core) c.in-Two.is
    (c.perform-in-Two.ensures.state image) (c.perform-in-Two-2.ensures.state image) fits
