use Rattle.std.proofs.Common.{◌≡◌, length, ◌∙◌, ◌<◌, ◌^◌, ◌-◌, map, ap, sym, subst}
use Rattle.std.specs.List.{AllByRecursion}
use Rattle.sweeps.specs.Sweeps.{AreRising}
use Rattle.sweeps.specs.Kept.{place_in, aimed_all, renewed_all, staled, prepared, filled_slots, settled, with_stale, moved, zip_with}
use Rattle.std.proofs.lemmas.List.{length-map}
use Rattle.sweeps.proofs.SoundLemmas.{staled_places, few_ready}
use Rattle.sweeps.proofs.CodeLemmas.{idle_are, refilled}
use Rattle.sweeps.proofs.growing.settle_all.Goals as goal

pub fill-requires-clause-rising : goal.fill-requires-clause-rising
fill-requires-clause-rising g c =
    let m = g.D.Domain.meaning c.args.domain.now in
    subst (λ l. AreRising m (map place_in l)) (sym c.in_ok-note_stale.ensures) (subst (AreRising m) (sym (staled_places m (g.met.D.Domain.lawful c.args.domain.now) c.args.kept.now.items)) c.requires.sound.rising)

pub settle-requires-clause-few : goal.settle-requires-clause-few
settle-requires-clause-few g c =
    let m = g.D.Domain.meaning c.args.domain.now in
    λ grows. subst (AllByRecursion (λ k. k.row.changes < 2 ^ 32 - 1)) (sym (c.in_ok-fill.ensures.kept ∙ ap (λ l. aimed_all m (renewed_all m l)) c.in_ok-note_stale.ensures))
    (few_ready m (g.met.D.Domain.lawful c.args.domain.now) c.args.kept.now.items (λ r. r.changes < 2 ^ 32 - 1) c.requires.few)

pub returns-clause-kept : goal.returns-clause-kept
returns-clause-kept g c =
    let m = g.D.Domain.meaning c.args.domain.now in
    let ks = c.args.kept.now.items in
    let count : c.len.result ≡ length ks = c.len.ensures ∙ c.note_stale.new.kept.ok.0 ∙ ap length c.in_ok-note_stale.ensures ∙ length-map ks (with_stale m (moved ks)) in
    let start = c.as_mut_slice.ensures.value ∙ c.in_ok-slots.ensures ∙ idle_are ks c.len.result count in
    let fills = c.in_ok-fill.ensures.slots ∙ ap (λ l. filled_slots m l c.as_mut_slice.result.now) c.in_ok-note_stale.ensures ∙ ap (filled_slots m (staled m ks)) start in
    let same : length c.fill.new.slots ≡ length c.in_ok-slots.slots.items = c.fill.auto.slots ∙ ap length c.as_mut_slice.ensures.value in
    let back = c.as_mut_slice-2.ensures.value ∙ refilled c.in_ok-slots.slots.len c.in_ok-slots.slots.items c.fill.new.slots (c.in_ok-slots.slots.ok.0 ∙ sym same) (sym same) in
    c.in_ok-settle.ensures ∙ ap (λ l. zip_with (settled m) l c.as_mut_slice-2.result.now) (c.in_ok-fill.ensures.kept ∙ ap (λ l. aimed_all m (renewed_all m l)) c.in_ok-note_stale.ensures)
    ∙ ap (zip_with (settled m) (prepared m ks)) (back ∙ fills)
