use Rattle.std.proofs.Common.{◌≡◌, ◌∙◌, ◌-◌, length, map, take, ap, sym, subst}
use Rattle.std.specs.List.{AllByRecursion}
use Rattle.std.proofs.Common.{false}
use Rattle.sweeps.specs.Sweeps.{AreRising, is_same_place}
use Rattle.sweeps.specs.Kept.{place_in, met}
use Rattle.sweeps.proofs.SweepLemmas.{step_rises, step_enters, step_apart, step_is}
use Rattle.sweeps.proofs.growing.grow.Goals as goal

pub enter-requires-clause-kept : goal.enter-requires-clause-kept
enter-requires-clause-kept g c =
    let m = g.D.Domain.meaning c.args.domain.now in
    subst (λ l. AreRising m (map place_in l)) (sym c.in_ok-rows.ensures.kept) (step_rises m (g.met.D.Domain.lawful c.args.domain.now) c.args.most c.args.kept.now.items c.requires.sound)

pub enter-requires-clause-rows : goal.enter-requires-clause-rows
enter-requires-clause-rows g c =
    let m = g.D.Domain.meaning c.args.domain.now in
    let ks = c.args.kept.now.items in
    let new : c.truncate.new.self.items ≡ take (c.args.most - length ks) (met m ks) =
    c.truncate.ensures.items ∙ ap (λ n. take n c.in_ok-rows.rows.items) (c.saturating_sub-room.ensures ∙ ap (λ n. c.args.most - n) (c.len.ensures ∙ c.args.kept.now.ok.0)) ∙ ap (take (c.args.most - length ks)) c.in_ok-rows.ensures.rows in
    subst (λ l. AreRising m (map (λ r. r.place) l)) (sym new) (step_enters m (g.met.D.Domain.lawful c.args.domain.now) c.args.most ks c.requires.sound)

pub enter-requires-clause-apart : goal.enter-requires-clause-apart
enter-requires-clause-apart g c =
    let m = g.D.Domain.meaning c.args.domain.now in
    let ks = c.args.kept.now.items in
    let new : c.truncate.new.self.items ≡ take (c.args.most - length ks) (met m ks) =
    c.truncate.ensures.items ∙ ap (λ n. take n c.in_ok-rows.rows.items) (c.saturating_sub-room.ensures ∙ ap (λ n. c.args.most - n) (c.len.ensures ∙ c.args.kept.now.ok.0)) ∙ ap (take (c.args.most - length ks)) c.in_ok-rows.ensures.rows in
    subst (AllByRecursion (λ r. AllByRecursion (λ k. is_same_place m k.row.place r.place ≡ false) c.settle_all.new.kept.items)) (sym new)
    (subst (λ l. AllByRecursion (λ r. AllByRecursion (λ k. is_same_place m k.row.place r.place ≡ false) l) (take (c.args.most - length ks) (met m ks))) (sym c.in_ok-rows.ensures.kept) (step_apart m (g.met.D.Domain.lawful c.args.domain.now) c.args.most ks c.requires.sound))

pub returns-clause-kept : goal.returns-clause-kept
returns-clause-kept g c =
    let m = g.D.Domain.meaning c.args.domain.now in
    let ks = c.args.kept.now.items in
    let new : c.truncate.new.self.items ≡ take (c.args.most - length ks) (met m ks) =
    c.truncate.ensures.items ∙ ap (λ n. take n c.in_ok-rows.rows.items) (c.saturating_sub-room.ensures ∙ ap (λ n. c.args.most - n) (c.len.ensures ∙ c.args.kept.now.ok.0)) ∙ ap (take (c.args.most - length ks)) c.in_ok-rows.ensures.rows in
    step_is m (g.met.D.Domain.lawful c.args.domain.now) c.args.most ks c.requires.sound c.settle_all.new.kept.items c.enter.new.kept.items c.truncate.new.self.items c.in_ok-rows.ensures.kept new c.in_ok-enter.ensures
