use Rattle.std.proofs.Common.{map}
use Rattle.abs_semantics.specs.Resolve.{met_after}
use Rattle.abs_resolve.specs.Forms.{verdict_of}
use Rattle.abs_resolve.specs.Owned.{state_of}
use Rattle.abs_resolve.specs.Search.{all_noted}
use Rattle.abs_resolve.proofs.StepLemmas.{noted_item, noted_all}
use Rattle.abs_resolve.proofs.search.Findings.note_level.Goals as goal

pub loop-x-preserved : goal.loop-x-preserved
loop-x-preserved c =
    let a = state_of c.args.owners.now in
    let p = c.args.access.now.procedure in
    let len = c.args.access.now.len in
    noted_item a p len c.args.followed c.args.level.now c.loop-x.x-index c.x-item.result (verdict_of c.verdict_at.result) c.loop-x.self c.note.new.self (all_noted a p len c.args.self.now (map (met_after c.args.followed) c.args.level.now))
    c.loop-x-test.true c.x-item.is c.verdict_at.ensures c.in_ok-note.ensures c.loop-x.invariant

pub returns : goal.returns
returns c =
    let a = state_of c.args.owners.now in
    noted_all a c.args.access.now.procedure c.args.access.now.len c.args.followed c.args.level.now c.loop-x.x-index c.loop-x.self
    (all_noted a c.args.access.now.procedure c.args.access.now.len c.args.self.now (map (met_after c.args.followed) c.args.level.now)) c.loop-x-test.false c.loop-x.invariant
