use Rattle.std.proofs.Common.{ap, subst, ◌∙◌}
use Rattle.asi_cuts.specs.declared.lists.CutResult.{CutResult}
use Rattle.asi_cuts.specs.Closed.{Answers}
use Rattle.cell_map.specs.Lists.{same_lists}
use Rattle.rounds.specs.Same.{same_cuts}
use Rattle.rounds.proofs.EndLemmas.{ends_same}
use Rattle.rounds.proofs.next_cuts.ends.Goals as goal

pub returns-in-Cuts : goal.returns-in-Cuts
returns-in-Cuts c = λ kept facts segments a.
    ends_same kept facts segments c.args.lists.now c.in-Cuts.next c.are_same.result (c.are_same.ensures ∙ ap (same_lists same_cuts c.args.lists.now) c.as_slice.ensures)
    (subst (λ (r : CutResult). Answers kept facts segments r) c.in-Cuts.is a)
