use Rattle.std.proofs.Common.{refl, arith}
use Rattle.matched_calls.proofs.SummaryLemmas.{entries_back, entries_tight, grown_exits, raises_one, site_there}
use Rattle.matched_calls.proofs.summary.come_back.Goals as goal

pub returns-then-new-old-clause-tight : goal.returns-then-new-old-clause-tight
returns-then-new-old-clause-tight c = λ _.
    let many = c.requires.plan.sites.many in
    let within = c.requires.within in
    entries_tight c.args.ground.now.nodes.now c.args.ground.now.kinds.now c.args.ground.now.plan.now c.args.kept.now c.grow.new.rows c.as_slice-5.result.now c.index-as_slice-j.result c.args.j c.met.result
    (site_there c.as_slice.result.now c.args.ground.now.plan.now.sites c.args.j c.index-as_slice-j.result c.as_slice.ensures (omega (arith, many, within)) c.index-as_slice-j.is)
    c.as_slice-5.ensures
    (grown_exits c.args.ground.now.plan.now.level.nodes c.as_slice-3.result.now c.index-as_slice-j.result.exits c.as_slice-2.result.now c.args.kept.now c.seat_exits.new.rows c.grow.new.rows
    c.as_slice-3.ensures c.as_slice-2.ensures c.seat_exits.ensures.begins c.grow.ensures)
    c.met.ensures c.if-new-old.true

pub returns-clause-raises : goal.returns-clause-raises
returns-clause-raises c =
    let many = c.requires.plan.sites.many in
    let within = c.requires.within in
    raises_one c.args.ground.now.nodes.now c.args.ground.now.kinds.now c.args.kept.now c.args.j _ c.met.result c.requires.room c.requires.within refl c.if-new-old.false (omega arith) c.met.type_inv
    (entries_back c.args.ground.now.nodes.now c.args.ground.now.kinds.now c.args.ground.now.plan.now c.requires.plan c.args.kept.now c.grow.new.rows c.as_slice-5.result.now c.index-as_slice-j.result c.args.j c.met.result c.requires.within
    (site_there c.as_slice.result.now c.args.ground.now.plan.now.sites c.args.j c.index-as_slice-j.result c.as_slice.ensures (omega (arith, many, within)) c.index-as_slice-j.is)
    c.as_slice-5.ensures
    (grown_exits c.args.ground.now.plan.now.level.nodes c.as_slice-3.result.now c.index-as_slice-j.result.exits c.as_slice-2.result.now c.args.kept.now c.seat_exits.new.rows c.grow.new.rows
    c.as_slice-3.ensures c.as_slice-2.ensures c.seat_exits.ensures.begins c.grow.ensures)
    c.met.ensures)
