use Rattle.abs_state.specs.Views.{seen}
use Rattle.access_facts.proofs.CoreLemmas.{cores_instruction}
use Rattle.access_facts.proofs.core_sets.instruction_cores.Goals as goal

pub returns : goal.returns
returns c =
    cores_instruction (seen c.args.state.now) c.args.instr.now _ c.reg_reads.ensures.members c.reg_writes.ensures.members c.registers_always_of.ensures c.flag_reads.ensures.members c.flag_writes.ensures.members c.flags_always_of.ensures
