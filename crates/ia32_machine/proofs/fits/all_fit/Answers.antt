use Rattle.std.proofs.Common.{ap, sym, ◌∙◌}
use Rattle.std.specs.Prelude.{◌&&◌}
use Rattle.ia32_memory.specs.Mapped.{bytes_of}
use Rattle.ia32_machine.proofs.FitLemmas.{two_fit, two_fail}
use Rattle.ia32_machine.proofs.fits.all_fit.Goals as goal

pub returns-then-entry_fits : goal.returns-then-entry_fits
returns-then-entry_fits c = λ image knows.
    sym (ap (λ b. b && c.entry_fits-then-entry_fits.result) c.if-entry_fits.true)
    ∙ two_fit image (bytes_of c.args.memory.now) c.args.effects.now _ _ c.entry_fits-in-Two.result c.entry_fits-then-entry_fits.result c.in-Two.is
    (c.entry_fits-in-Two.ensures image knows) (c.entry_fits-then-entry_fits.ensures image knows)

pub returns-else-entry_fits : goal.returns-else-entry_fits
returns-else-entry_fits c = λ image knows.
    two_fail image (bytes_of c.args.memory.now) c.args.effects.now _ _ c.entry_fits-in-Two.result c.in-Two.is (c.entry_fits-in-Two.ensures image knows) c.if-entry_fits.false
