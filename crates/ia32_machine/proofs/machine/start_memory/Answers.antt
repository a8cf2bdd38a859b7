use Rattle.ia32_machine.proofs.StartLemmas.{start_memory}
use Rattle.ia32_machine.proofs.machine.start_memory.Goals as goal

pub returns : goal.returns
returns c =
    start_memory c.args.image.now c.in_ok-memory.memory c.write.new.self c.requires c.in_ok-memory.ensures.bytes c.in_ok-memory.ensures.open c.in_ok-memory.ensures.stack c.in_ok-memory.ensures.sized
    c.write.ensures.bytes c.write.ensures.shapes
