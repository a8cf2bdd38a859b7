use Rattle.std.proofs.Common.{arith}
use Rattle.elf32.proofs.Sound.{low_at}
use Rattle.elf32.proofs.load.segments.Goals as goal

pub segment-requires : goal.segment-requires
segment-requires c = omega (arith, low_at c.args.bias c.args.loads.now c.loop-h.h-index (record { index = 0; p_type = 0; p_offset = 0; p_vaddr = 0; p_filesz = 0; p_memsz = 0; p_flags = 0 }) c.requires c.loop-h-test.true)
