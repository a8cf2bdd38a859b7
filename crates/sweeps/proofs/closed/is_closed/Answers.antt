use Rattle.std.proofs.Common.{◌∙◌, ap, arith}
use Rattle.sweeps.specs.Kept.{table_of}
use Rattle.sweeps.proofs.ClosedLemmas.{not_entry, none_yet, one_more, not_all, all_above}
use Rattle.sweeps.proofs.closed.is_closed.Goals as goal

pub returns-then-not-has_above : goal.returns-then-not-has_above
returns-then-not-has_above g c = not_entry (g.D.Domain.meaning c.args.domain.now) c.args.entry.now c.args.initial.now c.args.table.now _ c.has_above.ensures c.if-not-has_above.true

pub loop-place-init : goal.loop-place-init
loop-place-init g c = none_yet (g.D.Domain.meaning c.args.domain.now) c.args.entry.now c.args.initial.now c.args.table.now _ c.has_above.ensures c.if-not-has_above.false

pub returns-then-not-are_above : goal.returns-then-not-are_above
returns-then-not-are_above g c =
    let m = g.D.Domain.meaning c.args.domain.now in
    let x = c.loop-place-item.result in
    not_all m c.args.entry.now c.args.initial.now c.args.table.now c.loop-place.place-index x c.as_slice-in-loop-place.result.now c.are_above.result c.loop-place-test.true c.loop-place-item.is
    (c.as_slice-in-loop-place.ensures.value ∙ c.in_ok-arrivals.ensures ∙ ap (m.successors x.0.now x.1.now) (ap table_of c.as_slice.ensures.value ∙ c.in_ok-others.ensures)) c.are_above.ensures c.if-not-are_above.true

pub loop-place-preserved : goal.loop-place-preserved
loop-place-preserved g c =
    let m = g.D.Domain.meaning c.args.domain.now in
    let x = c.loop-place-item.result in
    one_more m c.args.entry.now c.args.initial.now c.args.table.now c.loop-place.place-index x c.as_slice-in-loop-place.result.now c.are_above.result c.loop-place-test.true c.loop-place-item.is
    (c.as_slice-in-loop-place.ensures.value ∙ c.in_ok-arrivals.ensures ∙ ap (m.successors x.0.now x.1.now) (ap table_of c.as_slice.ensures.value ∙ c.in_ok-others.ensures)) c.are_above.ensures c.if-not-are_above.false c.loop-place.invariant

pub returns : goal.returns
returns g c = all_above (g.D.Domain.meaning c.args.domain.now) c.args.entry.now c.args.initial.now c.args.table.now c.loop-place.place-index (omega arith) c.loop-place.invariant
