use Rattle.std.proofs.Common.{get_or, sym}
use Rattle.std.proofs.lemmas.List.Quantifiers.{position-Some}
use Rattle.image_map.specs.Memory.{holds}
use Rattle.image_map.proofs.SegmentLaws.{offset_within, set_shapes}
use Rattle.ia32_memory.proofs.WriteLemmas.{put_here, put_nowhere, set_within}
use Rattle.ia32_memory.proofs.memory.store_byte.Goals as goal

pub set-requires : goal.set-requires
set-requires c =
    let p = position-Some (holds c.args.address) c.args.segments.now c.in-Some.at c.index-segments-at.result (sym c.in-Some.ensures) in
    rw c.saturating_sub-offset.ensures (offset_within (get_or c.args.segments.now c.in-Some.at c.index-segments-at.result) c.args.address p.1)

pub returns-in-None-clause-bytes : goal.returns-in-None-clause-bytes
returns-in-None-clause-bytes c = put_nowhere c.args.segments.now c.args.address c.args.byte (sym c.in-None.ensures)

pub returns-then-at-eq0-clause-bytes : goal.returns-then-at-eq0-clause-bytes
returns-then-at-eq0-clause-bytes c =
    let p = position-Some (holds c.args.address) c.args.segments.now c.in-Some.at c.index-segments-at.result (sym c.in-Some.ensures) in
    rw (c.set.ensures, c.saturating_sub-offset.ensures) (put_here c.args.segments.now c.in-Some.at c.index-segments-at.result c.args.address c.args.byte p.0 p.1 p.2)

pub returns-else-at-eq0-clause-bytes : goal.returns-else-at-eq0-clause-bytes
returns-else-at-eq0-clause-bytes c =
    let p = position-Some (holds c.args.address) c.args.segments.now c.in-Some.at c.index-segments-at.result (sym c.in-Some.ensures) in
    rw (c.set.ensures, c.saturating_sub-offset.ensures) (put_here c.args.segments.now c.in-Some.at c.index-segments-at.result c.args.address c.args.byte p.0 p.1 p.2)

pub returns-else-at-eq0-clause-shapes : goal.returns-else-at-eq0-clause-shapes
returns-else-at-eq0-clause-shapes c =
    rw (c.set.ensures, c.saturating_sub-offset.ensures) (set_shapes c.args.segments.now c.in-Some.at c.index-segments-at.result c.args.address c.args.byte)

pub returns-else-at-eq0-clause-within : goal.returns-else-at-eq0-clause-within
returns-else-at-eq0-clause-within c = λ within.
    rw (c.set.ensures, c.saturating_sub-offset.ensures) (set_within c.args.segments.now c.in-Some.at c.index-segments-at.result c.args.address c.args.byte within)
