use Rattle.std.proofs.Common.{◌∙◌, map, sym, subst}
use Rattle.sweeps.specs.Sweeps.{AreRising}
use Rattle.sweeps.specs.Kept.{place_in}
use Rattle.sweeps.proofs.SoundLemmas.{made_places, fill_rising, fill_aimed}
use Rattle.sweeps.proofs.growing.fill.Goals as goal

pub touch_all-requires-2-clause-rising : goal.touch_all-requires-2-clause-rising
touch_all-requires-2-clause-rising g c =
    let m = g.D.Domain.meaning c.args.domain.now in
    subst (λ l. AreRising m (map place_in l)) (sym (c.as_slice-2.ensures.value ∙ c.in_ok-renew.ensures)) (subst (AreRising m) (sym (made_places m (g.met.D.Domain.lawful c.args.domain.now) c.args.kept.now.items)) c.requires.rising)

pub aim-requires : goal.aim-requires
aim-requires g c =
    let m = g.D.Domain.meaning c.args.domain.now in
    subst (λ l. AreRising m (map place_in l)) (sym c.in_ok-renew.ensures) (subst (AreRising m) (sym (made_places m (g.met.D.Domain.lawful c.args.domain.now) c.args.kept.now.items)) c.requires.rising)

pub gather-requires-clause-rising : goal.gather-requires-clause-rising
gather-requires-clause-rising g c =
    fill_rising (g.D.Domain.meaning c.args.domain.now) (g.met.D.Domain.lawful c.args.domain.now) c.args.kept.now.items c.renew.new.kept.items c.aim.new.kept.items c.as_slice-3.result.now c.in_ok-renew.ensures c.aim.ensures c.as_slice-3.ensures.value c.requires.rising

pub gather-requires-clause-aimed : goal.gather-requires-clause-aimed
gather-requires-clause-aimed g c = fill_aimed (g.D.Domain.meaning c.args.domain.now) (g.met.D.Domain.lawful c.args.domain.now) c.renew.new.kept.items c.aim.new.kept.items c.as_slice-3.result.now c.aim.ensures c.as_slice-3.ensures.value
