use Rattle.std.proofs.Common.{arith}
use Rattle.std.specs.Prelude.{pos, ◌+ℤ◌}
use Rattle.std.proofs.lemmas.Int.{ints}
use Rattle.abs_state.proofs.ReadLemmas.{cell_told}
use Rattle.abs_state.proofs.RangeLemmas.{none_beyond}
use Rattle.abs_state.proofs.ranges.cell_behind.Goals as goal

pub returns-in-None : goal.returns-in-None
returns-in-None c =
    let x = c.args.place.now in
    none_beyond c.args.cells.now x.region (x.si.lo +ℤ pos c.args.piece.distance) c.args.piece.bytes c.requires (omega (arith, ints, c.offset_behind.ensures.none c.in-None.is, c.lo.ensures.value))

pub returns-in-Some : goal.returns-in-Some
returns-in-Some c =
    let x = c.args.place.now in
    cell_told c.cell_at.result c.args.cells.now x.region c.args.piece.bytes c.cell_at.ensures (x.si.lo +ℤ pos c.args.piece.distance) (omega (arith, ints, c.in-Some.ensures.some, c.lo.ensures.value))
