use Rattle.std.proofs.Common.{get_or, sym, ◌∙◌}
use Rattle.std.proofs.lemmas.List.Quantifiers.{position-Some}
use Rattle.image_map.specs.Memory.{holds}
use Rattle.image_map.proofs.SegmentLaws.{offset_within, set_shapes}
use Rattle.elf32.proofs.Bytes.{set_byte, not_none}
use Rattle.elf32.proofs.memory.store_byte.Goals as goal

pub set-requires : goal.set-requires
set-requires c =
    let p = position-Some (holds c.args.address) c.args.segments.now c.in-Some.at c.index-segments-at.result (sym c.in-Some.ensures) in
    rw c.saturating_sub-offset.ensures (offset_within (get_or c.args.segments.now c.in-Some.at c.index-segments-at.result) c.args.address p.1)

pub returns-in-Some-clause-byte : goal.returns-in-Some-clause-byte
returns-in-Some-clause-byte c = λ x.
    let p = position-Some (holds c.args.address) c.args.segments.now c.in-Some.at c.index-segments-at.result (sym c.in-Some.ensures) in
    rw (c.set.ensures, c.saturating_sub-offset.ensures) (set_byte c.args.segments.now c.in-Some.at c.index-segments-at.result c.args.address c.args.byte p.0 p.1 p.2 x)

pub returns-in-Some-clause-shapes : goal.returns-in-Some-clause-shapes
returns-in-Some-clause-shapes c =
    rw (c.set.ensures, c.saturating_sub-offset.ensures) (set_shapes c.args.segments.now c.in-Some.at c.index-segments-at.result c.args.address c.args.byte)

pub returns-in_default-clause-byte : goal.returns-in_default-clause-byte
returns-in_default-clause-byte c = absurd (not_none c.args.segments.now c.args.address c.requires (sym c.index_of.ensures ∙ c.in_default.is))
