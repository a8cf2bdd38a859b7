use Rattle.std.proofs.Common.{ap, sym, ◌∙◌}
use Rattle.std.specs.Prelude.{◌&&◌}
use Rattle.ia32_machine.proofs.FitLemmas.{fill_entry, copy_entry, copy_entry_fails}
use Rattle.ia32_machine.proofs.fits.entry_fits.Goals as goal

pub returns-then-are_mapped : goal.returns-then-are_mapped
returns-then-are_mapped c = λ image knows.
    sym (ap (λ b. b && c.are_open.result) c.if-are_mapped.true)
    ∙ copy_entry image c.args.entry.now c.args.memory.now _ _ _ _ _ c.are_mapped.result c.are_open.result c.in-Copied.is knows c.are_mapped.ensures c.are_open.ensures

pub returns-else-are_mapped : goal.returns-else-are_mapped
returns-else-are_mapped c = λ image knows.
    copy_entry_fails image c.args.entry.now c.args.memory.now _ _ _ _ _ c.are_mapped.result c.in-Copied.is knows c.are_mapped.ensures c.if-are_mapped.false

pub returns-in-Filled : goal.returns-in-Filled
returns-in-Filled c = λ image knows.
    fill_entry image c.args.entry.now c.args.memory.now _ _ _ _ _ c.are_open-in-Filled.result c.in-Filled.is knows c.are_open-in-Filled.ensures
