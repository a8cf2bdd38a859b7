use Rattle.std.proofs.Common.{List, ℤ, sym, subst, ap, ◌∙◌}
use Rattle.alocs.specs.Cells.{AreRising, Division}
use Rattle.alocs.proofs.ListLemmas.{cuts_some, cuts_none, found_rise, word_cuts_rise}
use Rattle.alocs.proofs.cells.Cells.cuts.Goals as goal

pub returns-in-Some-clause-value : goal.returns-in-Some-clause-value
returns-in-Some-clause-value c =
    cuts_some c.args.self.now.lists c.as_slice.result.now c.args.region c.in-Some.list.now c.as_slice-in-Some.result.now (c.as_slice.ensures.value ∙ ap (λ (d : Division). d.lists) c.self.view_is)
    c.home.ensures c.as_slice-in-Some.ensures c.in-Some.ensures

pub returns-in-Some-clause-rising : goal.returns-in-Some-clause-rising
returns-in-Some-clause-rising c =
    found_rise c.self.inside.lists.items c.as_slice.result.now _ c.in-Some.list.now c.as_slice-in-Some.result.now c.as_slice.ensures.value c.as_slice-in-Some.ensures c.self.invariant.0 c.in-Some.ensures

pub returns-in-None-clause-value : goal.returns-in-None-clause-value
returns-in-None-clause-value c =
    cuts_none c.args.self.now.lists c.as_slice.result.now c.args.region c.words.result.now (c.as_slice.ensures.value ∙ ap (λ (d : Division). d.lists) c.self.view_is) c.home.ensures c.words.ensures c.in-None.ensures

pub returns-in-None-clause-rising : goal.returns-in-None-clause-rising
returns-in-None-clause-rising c = subst (λ (cuts : List ℤ). AreRising cuts) (sym c.words.ensures) (word_cuts_rise c.args.region)
