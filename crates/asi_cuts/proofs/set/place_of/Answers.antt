use Rattle.std.proofs.Common.{rules}
use Rattle.std.proofs.lemmas.List.Sorted.{IsPartitionPoint-from_clause}
use Rattle.asi_cuts.specs.declared.set.Cut.{Cut}
use Rattle.asi_cuts.specs.Closed.{cut_before}
use Rattle.asi_cuts.proofs.OrderLemmas.{cuts_parted}
use Rattle.asi_cuts.proofs.set.place_of.Goals as goal

pub returns-clause-point : goal.returns-clause-point
returns-clause-point c =
    let xs = c.args.sorted.now in
    let cut = c.args.cut.now in
    IsPartitionPoint-from_clause (λ (x : Cut). cut_before x cut) xs _ c.partition_point.ensures.partitioned (cuts_parted cut xs c.requires) (λ b r f k. search rules)
