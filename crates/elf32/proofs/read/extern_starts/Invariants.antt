use Rattle.std.proofs.Common.{◌≡◌, map, take}
use Rattle.image_map.specs.Texts.{text_at}
use Rattle.elf32.specs.Loading.{extern_name}
use Rattle.elf32.proofs.read.extern_starts.Given as goal

abbrev pub invariant-loop-id : goal.invariant-loop-id
invariant-loop-id l = map (text_at l.strings.buffer.items) l.starts.items ≡ map (extern_name l.bytes l.sections) (take l.id-index l.ids)
