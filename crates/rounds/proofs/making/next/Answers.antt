use Rattle.std.proofs.Common.{◌+◌, ◌≤◌, inl, refl, sym, subst, ◌∙◌, arith}
use Rattle.alocs.specs.Cells.{AreCutLists}
use Rattle.asi_cuts.proofs.FitLemmas.{lists_fit}
use Rattle.vsa.specs.Views.{told}
use Rattle.rounds.proofs.RoundLemmas.{within_rounds, one_more, cells_behind}
use Rattle.rounds.proofs.making.next.Goals as goal

pub overflow_add-name : goal.overflow_add-name
overflow_add-name c =
    let r = c.args.r.now in
    let few : r.number + 1 ≤ c.args.settings.now.rounds = within_rounds c.args.image.now c.args.settings.now _ r.lane r.number r.cells c.requires.settings c.requires.round.cells in
    let most : c.args.settings.now.rounds ≤ 8 = c.requires.settings.few_rounds in
    omega arith

pub made-requires-clause-lists : goal.made-requires-clause-lists
made-requires-clause-lists c = subst AreCutLists (sym c.as_slice.ensures) (lists_fit c.in_ok-lists.lists c.in_ok-lists.ensures.rise)

pub made-requires-clause-number : goal.made-requires-clause-number
made-requires-clause-number c =
    let r = c.args.r.now in
    one_more r.number c.args.settings.now.rounds (within_rounds c.args.image.now c.args.settings.now _ r.lane r.number r.cells c.requires.settings c.requires.round.cells) (λ e. c.requires.more (c.requires.round.last.1 (inl e)))

pub made-requires-clause-cells : goal.made-requires-clause-cells
made-requires-clause-cells c = λ d listed extents.
    let r = c.args.r.now in
    cells_behind c.args.image.now c.args.settings.now r.lane r.number _ r.cells d (told r.states) c.in_ok-lists.lists refl c.requires.round.states c.requires.round.cells (λ l. c.requires.more (c.requires.round.last.1 l)) c.in_ok-lists.ensures (listed ∙ c.as_slice.ensures) extents
