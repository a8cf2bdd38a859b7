use Rattle.std.proofs.Common.{◌≡◌, ◌<◌, ◌≤◌, Some, None, sym, ◌∙◌, arith}
use Rattle.std.proofs.lemmas.Int.{ints}
use Rattle.strided.specs.Interval.{member_after}
use Rattle.strided.specs.Operations.{count}
use Rattle.abs_semantics.specs.Touching.{cell_at}
use Rattle.abs_state.proofs.ReadLemmas.{cell_told, all_members, member_read, member_missing, members_end}
use Rattle.abs_state.proofs.reads.with_cells.Goals as goal

pub loop-i-init : goal.loop-i-init
loop-i-init c = all_members c.args.cells.now c.args.len c.args.x.now.region c.args.x.now.si c.args.into.items

pub returns-in-None : goal.returns-in-None
returns-in-None c =
    let x = c.args.x.now in
    let d = c.args.cells.now in
    let lt : c.loop-i.i < count x.si = omega (arith, c.loop-i-test.true, c.count-i-end.ensures.value, c.requires) in
    let told = cell_told c.cell_at.result d x.region c.args.len c.cell_at.ensures (member_after x.si c.loop-i.i) (omega (arith, ints, c.member.ensures.value)) in
    member_missing d c.args.len x.region x.si c.loop-i.i c.loop-i.out.items _ lt (sym c.in-None.is ∙ told) c.loop-i.invariant

pub loop-i-preserved : goal.loop-i-preserved
loop-i-preserved c =
    let x = c.args.x.now in
    let d = c.args.cells.now in
    let lt : c.loop-i.i < count x.si = omega (arith, c.loop-i-test.true, c.count-i-end.ensures.value, c.requires) in
    let told = cell_told c.cell_at.result d x.region c.args.len c.cell_at.ensures (member_after x.si c.loop-i.i) (omega (arith, ints, c.member.ensures.value)) in
    member_read d c.args.len x.region x.si c.loop-i.i c.loop-i.out.items c.push.new.self.items c.in-Some.cell _ lt (sym c.in-Some.is ∙ told) c.in_ok-push-in-Some.ensures.items c.loop-i.invariant

pub returns : goal.returns
returns c =
    let x = c.args.x.now in
    let few : count x.si ≤ c.loop-i.i = omega (arith, c.loop-i-test.false, c.count-i-end.ensures.value, c.requires) in
    members_end c.args.cells.now c.args.len x.region x.si c.loop-i.i c.loop-i.out.items _ few c.loop-i.invariant
