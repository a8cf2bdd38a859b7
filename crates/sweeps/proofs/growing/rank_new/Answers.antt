use Rattle.std.proofs.Common.{rules}
use Rattle.std.proofs.lemmas.List.Sorted.{IsPartitionPoint-from_clause}
use Rattle.sweeps.proofs.PlaceLemmas.{parted, rank_at_point}
use Rattle.sweeps.proofs.growing.rank_new.Goals as goal

pub returns-clause-rank : goal.returns-clause-rank
returns-clause-rank g c =
    let m = g.D.Domain.meaning c.args.domain.now in
    let xs = c.args.rows.now in
    rank_at_point (λ r. m.before r.place c.args.place.now) xs _ c.partition_point.ensures.bound
    (IsPartitionPoint-from_clause (λ r. m.before r.place c.args.place.now) xs _ c.partition_point.ensures.partitioned (parted m (g.met.D.Domain.lawful c.args.domain.now) (λ r. r.place) c.args.place.now xs c.requires) (λ b r f k. search rules))
