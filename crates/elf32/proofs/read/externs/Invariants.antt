use Rattle.std.proofs.Common.{◌≡◌, map, take}
use Rattle.std.specs.Arc.{arc_value}
use Rattle.image_map.specs.declared.image.Extern.{Extern}
use Rattle.image_map.specs.Texts.{text_at}
use Rattle.elf32.proofs.read.externs.Given as goal

abbrev pub invariant-loop-start : goal.invariant-loop-start
invariant-loop-start l = map (λ (e : Extern). e.name) l.externs.items ≡ map (text_at (arc_value l.buffer).items) (take l.start-index l.starts)
