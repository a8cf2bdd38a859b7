use Rattle.std.proofs.Common.{sym, subst, ◌∙◌}
use Rattle.alocs.specs.Cells.{AreCutLists}
use Rattle.first_cuts.proofs.RiseLemmas.{first_rise}
use Rattle.rounds.proofs.making.first.Goals as goal

pub made-requires-clause-lists : goal.made-requires-clause-lists
made-requires-clause-lists c = subst AreCutLists (sym (c.as_slice.ensures.value ∙ c.in_ok-lists.ensures)) (first_rise c.args.image.now)
