use Rattle.std.proofs.Common.{sym, ◌∙◌}
use Rattle.cell_map.proofs.SelfLemmas.{same_lone}
use Rattle.cell_map.proofs.merge.part_of_each.Goals as goal

pub returns-then-is_same_part : goal.returns-then-is_same_part
returns-then-is_same_part c =
    let first = c.in_ok-x.ensures in
    let second = c.in_ok-y.ensures in
    (first.0, same_lone c.in_ok-x.x c.in_ok-y.y c.args.w.now (sym c.is_same_part.ensures ∙ c.if-is_same_part.true) second.0, first.1)
