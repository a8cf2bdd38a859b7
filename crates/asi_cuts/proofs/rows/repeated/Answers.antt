use Rattle.std.proofs.Common.{⊎_elim, inl, inr, subst, sym, arith}
use Rattle.std.proofs.lemmas.Int.{ints}
use Rattle.asi_cuts.specs.declared.rows.Row.{Row}
use Rattle.asi_cuts.specs.Adding.{IsOf}
use Rattle.asi_cuts.proofs.RowLemmas.{IsDistance, repeated_from, repeated_case, no_other}
use Rattle.asi_cuts.proofs.rows.repeated.Goals as goal

pub returns-then-shift-eq0-clause-all : goal.returns-then-shift-eq0-clause-all
returns-then-shift-eq0-clause-all c = λ x r m.
    let s = c.args.starts.now in
    let far : IsDistance s.start c.args.offset c.distance-inside.result = (λ h. let q = c.distance-inside.ensures.above (omega (arith, ints)) in omega (arith, ints), λ h. c.distance-inside.ensures.below (omega (arith, ints))) in
    inr (no_other s.start c.args.offset x.offset s.stride s.count c.args.len c.distance-inside.result c.reaching-reaching.result far (c.reaching-reaching.ensures.all, c.reaching-reaching.ensures.others) (λ h. let p = h.0 in omega arith) m)

pub returns-clause-carried : goal.returns-clause-carried
returns-clause-carried c = λ x h.
    let s = c.args.starts.now in
    let far : IsDistance s.start c.args.offset c.distance-inside.result = (λ h. let q = c.distance-inside.ensures.above (omega (arith, ints)) in omega (arith, ints), λ h. c.distance-inside.ensures.below (omega (arith, ints))) in
    let of = subst (λ (r : Row). IsOf r x) c.repeats-2.ensures h in
    repeated_from s.start c.args.offset x.offset s.stride s.count c.args.len c.distance-inside.result c.reaching-reaching.result of.1.0 (omega arith) far (omega arith) c.if-inside-starts.false (c.reaching-reaching.ensures.all, c.reaching-reaching.ensures.others)
    of.1.1 of.1.2

pub returns-clause-all : goal.returns-clause-all
returns-clause-all c = λ x r m.
    let s = c.args.starts.now in
    let far : IsDistance s.start c.args.offset c.distance-inside.result = (λ h. let q = c.distance-inside.ensures.above (omega (arith, ints)) in omega (arith, ints), λ h. c.distance-inside.ensures.below (omega (arith, ints))) in
    ⊎_elim (λ h. inl (subst (λ (q : Row). IsOf q x) (sym c.repeats-2.ensures) (r, h.2))) (λ e. inr e)
    (repeated_case s.start c.args.offset x.offset s.stride s.count c.args.len c.distance-inside.result c.reaching-reaching.result far (c.reaching-reaching.ensures.all, c.reaching-reaching.ensures.others) m)

pub returns-then-inside-starts-clause-all : goal.returns-then-inside-starts-clause-all
returns-then-inside-starts-clause-all c = λ x r m.
    let s = c.args.starts.now in
    let far : IsDistance s.start c.args.offset c.distance-inside.result = (λ h. let q = c.distance-inside.ensures.above (omega (arith, ints)) in omega (arith, ints), λ h. c.distance-inside.ensures.below (omega (arith, ints))) in
    inr (no_other s.start c.args.offset x.offset s.stride s.count c.args.len c.distance-inside.result c.reaching-reaching.result far (c.reaching-reaching.ensures.all, c.reaching-reaching.ensures.others) (λ h. let p = h.1 in omega arith) m)
