use Rattle.ia32_machine.proofs.BlockLemmas.{block_open}
use Rattle.ia32_machine.proofs.machine.Machine.add_block.Goals as goal

pub returns-in-Ok-clause-open : goal.returns-in-Ok-clause-open
returns-in-Ok-clause-open c = λ image whole knows.
    block_open image c.args.self.now.core.memory c.add_zeros.new.self c.args.block c.args.self.now.slot c.args.self.now.blocks.items whole c.requires knows c.in-Ok.ensures.bytes c.in-Ok.ensures.open
