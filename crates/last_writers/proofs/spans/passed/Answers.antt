use Rattle.std.proofs.Common.{leb, rules}
use Rattle.std.proofs.lemmas.List.Sorted.{IsPartitionedBy-leb, IsPartitionPoint-from_clause}
use Rattle.last_writers.specs.declared.spans.Written.{Written}
use Rattle.last_writers.proofs.CutLemmas.{ends_rise, point_is}
use Rattle.last_writers.proofs.spans.passed.Goals as goal

pub returns-clause-value : goal.returns-clause-value
returns-clause-value c =
    let ws = c.args.spans.now in
    let a = c.args.address in
    point_is a _ ws (record { start = 0; end = 0; step = 0 }) c.partition_point.ensures.bound
    (IsPartitionPoint-from_clause (λ (w : Written). leb w.end a) ws _ c.partition_point.ensures.partitioned
    (IsPartitionedBy-leb (λ (w : Written). w.end) ws a (ends_rise 0 ws c.requires)) (λ b r f' k. search rules))
