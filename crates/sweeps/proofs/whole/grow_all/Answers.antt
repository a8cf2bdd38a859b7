use Rattle.std.proofs.Common.{◌≡◌, ◌∙◌, ap, sym, subst, arith}
use Rattle.std.specs.List.{list_any}
use Rattle.sweeps.proofs.WholeLemmas.{Reached, begins, goes_on, stops, few_reached}
use Rattle.sweeps.proofs.whole.grow_all.Goals as goal

pub loop-sweep-init : goal.loop-sweep-init
loop-sweep-init g c = begins (g.D.Domain.meaning c.args.domain.now) c.args.most c.args.entry.now c.args.initial.now c.in_ok-kept.kept.items c.in_ok-kept.ensures

pub grow-requires-clause-sound : goal.grow-requires-clause-sound
grow-requires-clause-sound g c = c.loop-sweep.invariant.sound

pub grow-requires-clause-few : goal.grow-requires-clause-few
grow-requires-clause-few g c =
    few_reached (g.D.Domain.meaning c.args.domain.now) c.args.most c.args.entry.now c.args.initial.now c.loop-sweep.sweep 4294967295 c.loop-sweep.kept.items c.loop-sweep.full (omega (arith, c.loop-sweep-test.true)) c.loop-sweep.invariant

pub loop-sweep-preserved : goal.loop-sweep-preserved
loop-sweep-preserved g c =
    let m = g.D.Domain.meaning c.args.domain.now in
    let r = goes_on m c.args.most c.args.entry.now c.args.initial.now (g.met.D.Domain.lawful c.args.domain.now) c.loop-sweep.sweep c.loop-sweep.kept.items c.grow.new.kept.items c.loop-sweep.full c.in_ok-more.more c.either-full.result c.loop-sweep.invariant c.in_ok-more.ensures.kept c.in_ok-more.ensures.full c.either-full.ensures in
    r

pub returns-then-not-any_changed : goal.returns-then-not-any_changed
returns-then-not-any_changed g c =
    let m = g.D.Domain.meaning c.args.domain.now in
    let r = goes_on m c.args.most c.args.entry.now c.args.initial.now (g.met.D.Domain.lawful c.args.domain.now) c.loop-sweep.sweep c.loop-sweep.kept.items c.grow.new.kept.items c.loop-sweep.full c.in_ok-more.more c.either-full.result c.loop-sweep.invariant c.in_ok-more.ensures.kept c.in_ok-more.ensures.full c.either-full.ensures in
    let end = stops m c.args.most c.args.entry.now c.args.initial.now (g.met.D.Domain.lawful c.args.domain.now) c.loop-sweep.sweep 4096 c.loop-sweep.kept.items c.grow.new.kept.items c.loop-sweep.full c.either-full.result c.loop-sweep-test.true c.loop-sweep.invariant r c.in_ok-more.ensures.kept
    (ap (list_any (λ k. k.changed)) (sym c.as_slice.ensures.value) ∙ sym c.any_changed.ensures ∙ c.if-not-any_changed.true) in
    record { rows = end.rows; full = end.is_full; rising = end.sound.rising }

pub returns : goal.returns
returns g c =
    let done : c.loop-sweep.sweep ≡ 4096 = omega (arith, c.loop-sweep-test.false, c.loop-sweep.auto.sweep-end) in
    let end = subst (λ n. Reached (g.D.Domain.meaning c.args.domain.now) c.args.most c.args.entry.now c.args.initial.now n c.loop-sweep.kept.items c.loop-sweep.full) done c.loop-sweep.invariant in
    record { rows = end.rows; full = end.is_full; rising = end.sound.rising }
