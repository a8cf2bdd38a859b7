use Rattle.std.proofs.Common.{◌∙◌, ◌<◌, ◌^◌, ◌-◌, ap, set, sym, refl, arith}
use Rattle.sweeps.specs.Kept.{settled_by}
use Rattle.sweeps.proofs.StepLemmas.{zip_step, zip_end, zip_read, all_here}
use Rattle.sweeps.proofs.growing.settle.Goals as goal

pub returns-then-at-slots : goal.returns-then-at-slots
returns-then-at-slots g c = absurd (omega (arith, c.if-at-slots.true, c.loop-at-test.true, c.len-at-end.ensures, c.args.kept.now.ok.0, c.loop-at.auto.slots, c.requires.slots))

pub settle_row-requires : goal.settle_row-requires
settle_row-requires g c =
    let x = c.index_mut.result.now in
    λ grows. all_here (λ k. k.row.changes < 2 ^ 32 - 1) c.args.kept.now.items c.loop-at.at x (c.requires.few grows) (omega (arith, c.loop-at-test.true, c.len-at-end.ensures, c.args.kept.now.ok.0))
    (zip_read (settled_by (g.D.Domain.meaning c.args.domain.now) c.args.grows) c.args.kept.now.items c.args.slots.now c.loop-at.kept.items c.loop-at.slots c.loop-at.at x (omega (arith, c.loop-at-test.true, c.len-at-end.ensures, c.args.kept.now.ok.0)) c.requires.slots c.loop-at.invariant c.index_mut.ensures.value)

pub loop-at-preserved : goal.loop-at-preserved
loop-at-preserved g c =
    let m = g.D.Domain.meaning c.args.domain.now in
    let x = c.index_mut.result.now in
    zip_step (settled_by m c.args.grows) c.args.kept.now.items c.args.slots.now c.loop-at.kept.items _ c.loop-at.slots _ c.loop-at.at x c.index-slots-at.result c.replace-slot.new.dest (omega (arith, c.loop-at-test.true, c.len-at-end.ensures, c.args.kept.now.ok.0)) c.requires.slots c.loop-at.invariant c.index_mut.ensures.value
    c.index-slots-at.is (ap (set c.loop-at.kept.items c.loop-at.at) (c.in_ok-settle_row.ensures ∙ ap (settled_by m c.args.grows x) (c.replace-slot.ensures.value ∙ sym c.index-slots-at.is))) refl

pub returns : goal.returns
returns g c =
    zip_end (settled_by (g.D.Domain.meaning c.args.domain.now) c.args.grows) c.args.kept.now.items c.args.slots.now c.loop-at.kept.items c.loop-at.slots c.loop-at.at (omega (arith, c.loop-at-test.false, c.len-at-end.ensures, c.args.kept.now.ok.0)) c.requires.slots c.loop-at.invariant
