use Rattle.std.proofs.Common.{◌≡◌, length, arith, rules}
use Rattle.elf32.proofs.TableLemmas.{joined_next}
use Rattle.elf32.proofs.strings.joined.Goals as goal

pub loop-index-preserved : goal.loop-index-preserved
loop-index-preserved c =
    let buffer = c.loop-index.buffer.items in
    let few = c.loop-index.invariant.0 in
    let room = c.if-len-bytes.false in
    let all : c.len.result ≡ length buffer = search rules in
    let start : c.len-in-loop-index.result ≡ length buffer = search rules in
    joined_next c.args.bytes.now c.args.sections.now buffer c.linked_bytes-part.result.now c.extend_from_slice.new.self.items c.loop-index.tables.items c.push.new.self.items c.loop-index.index c.string_len-len.result c.len-in-loop-index.result
    c.in_ok-push.ensures.items c.in_ok-extend_from_slice.ensures.items start c.linked_bytes-part.ensures.part c.string_len-len.ensures few (omega (arith, room, all)) c.loop-index.invariant.1
