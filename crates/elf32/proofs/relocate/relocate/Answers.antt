use Rattle.std.proofs.Common.{sym}
use Rattle.elf32.specs.Relocating.{place_of}
use Rattle.elf32.proofs.Targets.{target_whole, target_inside, target_low}
use Rattle.elf32.proofs.relocate.relocate.Goals as goal

pub apply-requires-clause-whole : goal.apply-requires-clause-whole
apply-requires-clause-whole c = rw c.requires.fits (target_whole c.args.bias (place_of c.args.bias c.args.r.now) c.args.loads.now c.in-Some-target.load.now (sym c.in-Some-target.ensures))

pub apply-requires-clause-inside : goal.apply-requires-clause-inside
apply-requires-clause-inside c = target_inside c.args.bias (place_of c.args.bias c.args.r.now) c.args.loads.now c.in-Some-target.load.now (sym c.in-Some-target.ensures)

pub apply-requires-clause-low : goal.apply-requires-clause-low
apply-requires-clause-low c = target_low c.args.bias (place_of c.args.bias c.args.r.now) c.args.loads.now c.in-Some-target.load.now c.requires.low (sym c.in-Some-target.ensures)
