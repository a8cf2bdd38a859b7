use Rattle.std.proofs.Common.{◌≡◌, ◌+◌, ◌∙◌, sym, ap, true, drop, []}
use Rattle.std.specs.List.{flat_map}
use Rattle.abs_semantics.specs.Resolve.{next_of, rising_onto}
use Rattle.abs_resolve.specs.Owned.{state_of}
use Rattle.abs_resolve.specs.Search.{is_crowd}
use Rattle.abs_resolve.proofs.PartLemmas.{grown_crowd}
use Rattle.abs_resolve.proofs.StepLemmas.{level_item, level_all}
use Rattle.abs_resolve.proofs.levels.next_level.Goals as goal

pub loop-x-preserved : goal.loop-x-preserved
loop-x-preserved c =
    let f = next_of (state_of c.args.owners.now) c.args.access.now.procedure c.args.access.now.len c.args.followed in
    level_item f c.args.level.now c.loop-x.x-index c.x-item.result c.loop-x.next.items c.put_next.new.parts.items (rising_onto [] (flat_map f c.args.level.now)) c.loop-x-test.true c.x-item.is c.in_ok-put_next.ensures c.loop-x.invariant

pub returns : goal.returns
returns c =
    let f = next_of (state_of c.args.owners.now) c.args.access.now.procedure c.args.access.now.len c.args.followed in
    level_all f c.args.level.now c.loop-x.x-index c.loop-x.next.items (rising_onto [] (flat_map f c.args.level.now)) c.loop-x-test.false c.loop-x.invariant

pub returns-then-is_too_long : goal.returns-then-is_too_long
returns-then-is_too_long c =
    let f = next_of (state_of c.args.owners.now) c.args.access.now.procedure c.args.access.now.len c.args.followed in
    let rest = flat_map f (drop (c.loop-x.x-index + 1) c.args.level.now) in
    let step = level_item f c.args.level.now c.loop-x.x-index c.x-item.result c.loop-x.next.items c.put_next.new.parts.items (rising_onto [] (flat_map f c.args.level.now)) c.loop-x-test.true c.x-item.is c.in_ok-put_next.ensures c.loop-x.invariant in
    let long : is_crowd c.put_next.new.parts.items ≡ true = ap is_crowd (sym c.as_slice.ensures.value) ∙ sym c.is_too_long.ensures ∙ c.if-is_too_long.true in
    ap is_crowd (sym step) ∙ grown_crowd c.put_next.new.parts.items rest long
