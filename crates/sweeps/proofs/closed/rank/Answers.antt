use Rattle.std.proofs.Common.{rules}
use Rattle.std.proofs.lemmas.List.Sorted.{IsPartitionPoint-from_clause}
use Rattle.sweeps.proofs.PlaceLemmas.{parted, rank_at_point}
use Rattle.sweeps.proofs.closed.rank.Goals as goal

pub returns : goal.returns
returns g c =
    let m = g.D.Domain.meaning c.args.domain.now in
    let xs = c.args.table.now in
    rank_at_point (λ e. m.before e.0.now c.args.place.now) xs _ c.partition_point.ensures.bound
    (IsPartitionPoint-from_clause (λ e. m.before e.0.now c.args.place.now) xs _ c.partition_point.ensures.partitioned (parted m (g.met.D.Domain.lawful c.args.domain.now) (λ e. e.0.now) c.args.place.now xs c.requires) (λ b r f k. search rules))
