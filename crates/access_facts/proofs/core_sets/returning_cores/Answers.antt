use Rattle.std.proofs.Common.{refl}
use Rattle.access_facts.proofs.core_sets.returning_cores.Goals as goal

pub returns : goal.returns
returns c = record { used = (c.stack_pointer.ensures, c.no_flag.ensures); defined = (c.extern_registers-registers.ensures, c.extern_flags-flags.ensures); always = (refl, refl) }
