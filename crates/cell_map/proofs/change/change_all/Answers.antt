use Rattle.std.proofs.Common.{◌<◌, length, ap, arith}
use Rattle.cell_map.proofs.ChangeLemmas.{entry_changed, cells_stay}
use Rattle.cell_map.specs.Changes.{with_given}
use Rattle.cell_map.proofs.change.change_all.Goals as goal

pub returns-in_err-change_entry-clause-cells : goal.returns-in_err-change_entry-clause-cells
returns-in_err-change_entry-clause-cells g c =
    cells_stay c.args.entries.now.items c.loop-i.entries.items c.loop-i.i c.index_mut.result.now c.change_entry.new.entry c.index_mut.ensures.value c.change_entry.ensures.cell c.loop-i.invariant.1

pub loop-i-preserved : goal.loop-i-preserved
loop-i-preserved g c =
    let few : c.loop-i.i < length c.args.entries.now.items = omega (arith, c.loop-i-test.true, c.len-i-end.ensures) in (
      entry_changed (g.C.Change.given c.args.change.now) c.args.entries.now.items c.loop-i.entries.items c.loop-i.i c.index_mut.result.now c.change_entry.new.entry few c.loop-i.invariant.0 c.index_mut.ensures.value c.in_ok-change_entry.ensures.ok,
      cells_stay c.args.entries.now.items c.loop-i.entries.items c.loop-i.i c.index_mut.result.now c.change_entry.new.entry c.index_mut.ensures.value c.change_entry.ensures.cell c.loop-i.invariant.1,
    )
