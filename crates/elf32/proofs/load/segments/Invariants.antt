use Rattle.std.proofs.Common.{◌≡◌, take, map}
use Rattle.elf32.specs.Loading.{segment}
use Rattle.elf32.proofs.load.segments.Given as goal

abbrev pub invariant-loop-h : goal.invariant-loop-h
invariant-loop-h l = l.segments.items ≡ map (segment l.bytes l.bias) (take l.h-index l.loads)
