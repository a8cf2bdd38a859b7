use Rattle.std.proofs.Common.{leb, rules}
use Rattle.std.proofs.lemmas.List.Sorted.{IsPartitionedBy-leb, IsPartitionPoint-from_clause}
use Rattle.image_map.specs.declared.spans.Span.{Span}
use Rattle.image_map.proofs.Cut.{ends_rise, point_is}
use Rattle.image_map.proofs.spans.passed.Goals as goal

pub returns-clause-value : goal.returns-clause-value
returns-clause-value c =
    let ss = c.args.spans.now in
    let a = c.args.address in
    point_is a _ ss (record { start = 0; end = 0 }) c.partition_point.ensures.bound
    (IsPartitionPoint-from_clause (λ (s : Span). leb s.end a) ss _ c.partition_point.ensures.partitioned
    (IsPartitionedBy-leb (λ (s : Span). s.end) ss a (ends_rise 0 ss c.requires)) (λ b r f' k. search rules))
