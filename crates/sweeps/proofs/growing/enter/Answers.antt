use Rattle.std.proofs.Common.{◌≡◌, [], map, sym, subst, rules}
use Rattle.std.specs.List.{AllByRecursion}
use Rattle.sweeps.specs.Sweeps.{AreRising, is_same_place}
use Rattle.sweeps.specs.Kept.{place_in}
use Rattle.std.proofs.Common.{false}
use Rattle.sweeps.proofs.EnterLemmas.{entered_rises}
use Rattle.sweeps.proofs.CodeLemmas.{enter_none, enter_more, enter_all, rising_rest, all_rest}
use Rattle.sweeps.proofs.growing.enter.Goals as goal

pub entering-init : goal.entering-init
entering-init g c = enter_none (g.D.Domain.meaning c.args.domain.now) c.args.kept.now.items c.args.rows.items

pub put-requires : goal.put-requires
put-requires g c =
    let m = g.D.Domain.meaning c.args.domain.now in
    let e = c.entering.invariant in
    subst (λ l. AreRising m (map place_in l)) (sym e.is)
    (entered_rises m (g.met.D.Domain.lawful c.args.domain.now) c.args.kept.now.items e.rest c.requires.kept (rising_rest m c.entering.left.items e.rest (subst (λ l. AreRising m (map (λ r. r.place) l)) e.split c.requires.rows))
    (all_rest (λ r. AllByRecursion (λ k. is_same_place m k.row.place r.place ≡ false) c.args.kept.now.items) c.entering.left.items e.rest
    (subst (AllByRecursion (λ r. AllByRecursion (λ k. is_same_place m k.row.place r.place ≡ false) c.args.kept.now.items)) e.split c.requires.apart)))

pub entering-preserved : goal.entering-preserved
entering-preserved g c =
    enter_more (g.D.Domain.meaning c.args.domain.now) c.args.kept.now.items c.args.rows.items c.entering.kept.items c.put.new.kept.items c.entering.left.items c.pop.new.self.items c.in-Some.row c.entering.invariant c.in-Some.ensures.items c.in_ok-put-in-Some.ensures

pub returns-in-None : goal.returns-in-None
returns-in-None g c =
    let none : c.entering.left.items ≡ [] = search rules in
    enter_all (g.D.Domain.meaning c.args.domain.now) c.args.kept.now.items c.args.rows.items c.entering.kept.items c.entering.left.items c.entering.invariant none
