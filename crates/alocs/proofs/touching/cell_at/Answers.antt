use Rattle.std.proofs.Common.{◌≡◌, ℤ, rules, arith}
use Rattle.std.specs.Prelude.{int_le, slice_get}
use Rattle.std.proofs.lemmas.Int.{ints}
use Rattle.std.proofs.lemmas.List.Sorted.{IsPartitionPoint-from_clause}
use Rattle.alocs.specs.Halves.{raised, lowered, before}
use Rattle.alocs.proofs.CellLemmas.{cell_from_point, cuts_parted, same_raised, same_lowered}
use Rattle.alocs.proofs.touching.cell_at.Goals as goal

pub returns : goal.returns
returns c =
    let cuts = c.args.cuts.now in
    let at = c.args.offset in
    let point = IsPartitionPoint-from_clause (λ (cut : ℤ). int_le cut at) cuts _ c.partition_point-passed.ensures.partitioned (cuts_parted at cuts c.requires.rising) (λ b r f k. search rules) in
    let first : c.cut_before.result ≡ raised c.args.extent.start (before cuts c.partition_point-passed.result) = same_raised _ c.cut_before.ensures c.args.extent.start (omega (arith, ints)) in
    let last : c.cut_behind.result ≡ lowered c.args.extent.end (slice_get cuts c.partition_point-passed.result) = same_lowered _ c.cut_behind.ensures c.args.extent.end (omega (arith, ints)) in
    cell_from_point c.args.region c.args.extent.start cuts c.args.extent.end at c.partition_point-passed.result c.requires.rising (omega (arith, ints)) (omega (arith, ints)) c.partition_point-passed.ensures.bound point
    _ _ (omega (arith, ints)) (omega (arith, ints))
