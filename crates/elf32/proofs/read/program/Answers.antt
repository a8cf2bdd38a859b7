use Rattle.std.proofs.Common.{length}
use Rattle.elf32.proofs.Sound.{segments_sound, sound_low, segments_shapes}
use Rattle.elf32.proofs.read.program.Goals as goal

pub segments-requires : goal.segments-requires
segments-requires c = sound_low (length c.args.bytes.now) c.args.bias c.args.loads.now (segments_sound (length c.args.bytes.now) c.args.bias c.args.loads.now c.requires)

pub relocate_all-requires-clause-low : goal.relocate_all-requires-clause-low
relocate_all-requires-clause-low c = sound_low (length c.args.bytes.now) c.args.bias c.args.loads.now (segments_sound (length c.args.bytes.now) c.args.bias c.args.loads.now c.requires)

pub relocate_all-requires-clause-fits : goal.relocate_all-requires-clause-fits
relocate_all-requires-clause-fits c =
    rw c.in_ok-segments.ensures (segments_shapes c.args.bytes.now c.args.bias c.args.loads.now (segments_sound (length c.args.bytes.now) c.args.bias c.args.loads.now c.requires))
