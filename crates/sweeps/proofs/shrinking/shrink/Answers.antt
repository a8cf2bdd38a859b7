use Rattle.std.proofs.Common.{◌≡◌, ◌∙◌, length, ap, map, sym, subst}
use Rattle.sweeps.specs.Sweeps.{AreRising}
use Rattle.sweeps.specs.Kept.{place_in, rows_of, aimed_all, renewed_all, shrink_slots}
use Rattle.sweeps.proofs.SoundLemmas.{fill_rising, fill_aimed}
use Rattle.sweeps.proofs.CodeLemmas.{due_are, refilled}
use Rattle.sweeps.proofs.ShrinkLemmas.{length_ready, shrink_is, shrink_rows, shrink_rising, stale_rising, made_rising}
use Rattle.sweeps.proofs.shrinking.shrink.Goals as goal

pub aim-requires : goal.aim-requires
aim-requires g c =
    let m = g.D.Domain.meaning c.args.domain.now in
    let h = g.met.D.Domain.lawful c.args.domain.now in
    let ks = c.args.kept.now.items in
    made_rising m h c.args.entry.now c.args.initial.now ks c.make_stale.new.kept.items c.renew.new.kept.items c.make_stale.ensures c.in_ok-renew.ensures c.requires

pub gather_all-requires-clause-rising : goal.gather_all-requires-clause-rising
gather_all-requires-clause-rising g c =
    let m = g.D.Domain.meaning c.args.domain.now in
    let h = g.met.D.Domain.lawful c.args.domain.now in
    let ks = c.args.kept.now.items in
    fill_rising m h c.make_stale.new.kept.items c.renew.new.kept.items c.aim.new.kept.items c.as_slice.result.now c.in_ok-renew.ensures c.aim.ensures c.as_slice.ensures.value
    (stale_rising m h c.args.entry.now c.args.initial.now ks c.make_stale.new.kept.items c.make_stale.ensures c.requires)

pub gather_all-requires-clause-aimed : goal.gather_all-requires-clause-aimed
gather_all-requires-clause-aimed g c = fill_aimed (g.D.Domain.meaning c.args.domain.now) (g.met.D.Domain.lawful c.args.domain.now) c.renew.new.kept.items c.aim.new.kept.items c.as_slice.result.now c.aim.ensures c.as_slice.ensures.value

pub returns-clause-rows : goal.returns-clause-rows
returns-clause-rows g c =
    let m = g.D.Domain.meaning c.args.domain.now in
    let h = g.met.D.Domain.lawful c.args.domain.now in
    let ks = c.args.kept.now.items in
    let ready = c.aim.ensures ∙ ap (aimed_all m) (c.in_ok-renew.ensures ∙ ap (renewed_all m) c.make_stale.ensures) in
    let count : c.len.result ≡ length ks = c.len.ensures ∙ c.aim.new.kept.ok.0 ∙ ap length ready ∙ length_ready m h c.args.entry.now c.args.initial.now ks in
    let start = c.as_mut_slice.ensures.value ∙ c.in_ok-slots.ensures ∙ due_are ks c.len.result count in
    let same : length c.gather_all.new.slots ≡ length c.in_ok-slots.slots.items = c.gather_all.auto.slots ∙ ap length c.as_mut_slice.ensures.value in
    let back = c.as_mut_slice-2.ensures.value ∙ refilled c.in_ok-slots.slots.len c.in_ok-slots.slots.items c.gather_all.new.slots (c.in_ok-slots.slots.ok.0 ∙ sym same) (sym same) in
    let is = shrink_is m h c.args.entry.now c.args.initial.now ks c.aim.new.kept.items c.settle.new.kept.items c.as_mut_slice.result.now c.as_mut_slice-2.result.now ready start
    (back ∙ c.in_ok-gather_all.ensures ∙ ap (λ l. shrink_slots m c.args.entry.now c.args.initial.now l c.as_mut_slice.result.now) c.as_slice.ensures.value) c.in_ok-settle.ensures in
    ap rows_of is ∙ shrink_rows m h c.args.entry.now c.args.initial.now ks

pub returns-clause-rising : goal.returns-clause-rising
returns-clause-rising g c =
    let m = g.D.Domain.meaning c.args.domain.now in
    let h = g.met.D.Domain.lawful c.args.domain.now in
    let ks = c.args.kept.now.items in
    let ready = c.aim.ensures ∙ ap (aimed_all m) (c.in_ok-renew.ensures ∙ ap (renewed_all m) c.make_stale.ensures) in
    let count : c.len.result ≡ length ks = c.len.ensures ∙ c.aim.new.kept.ok.0 ∙ ap length ready ∙ length_ready m h c.args.entry.now c.args.initial.now ks in
    let start = c.as_mut_slice.ensures.value ∙ c.in_ok-slots.ensures ∙ due_are ks c.len.result count in
    let same : length c.gather_all.new.slots ≡ length c.in_ok-slots.slots.items = c.gather_all.auto.slots ∙ ap length c.as_mut_slice.ensures.value in
    let back = c.as_mut_slice-2.ensures.value ∙ refilled c.in_ok-slots.slots.len c.in_ok-slots.slots.items c.gather_all.new.slots (c.in_ok-slots.slots.ok.0 ∙ sym same) (sym same) in
    let is = shrink_is m h c.args.entry.now c.args.initial.now ks c.aim.new.kept.items c.settle.new.kept.items c.as_mut_slice.result.now c.as_mut_slice-2.result.now ready start
    (back ∙ c.in_ok-gather_all.ensures ∙ ap (λ l. shrink_slots m c.args.entry.now c.args.initial.now l c.as_mut_slice.result.now) c.as_slice.ensures.value) c.in_ok-settle.ensures in
    subst (λ l. AreRising m (map place_in l)) (sym is) (shrink_rising m h c.args.entry.now c.args.initial.now ks c.requires)
