use Rattle.std.proofs.Common.{◌≡◌, List, sym, ◌∙◌, ap, subst}
use Rattle.std.specs.Prelude.{OnOk}
use Rattle.image_map.specs.declared.region.Cell.{Cell}
use Rattle.alocs.specs.Cells.{cells_of}
use Rattle.abs_semantics.specs.States.{AbsState as State}
use Rattle.abs_state.specs.Ranges.{AreWithin}
use Rattle.abs_state.specs.Views.{seen}
use Rattle.abs_state.proofs.RangeLemmas.{there_is}
use Rattle.abs_state.proofs.state.AbsState.write_range_there.Goals as goal

pub returns : goal.returns
returns c =
    let m = c.args.memory.now in
    let x = c.args.place in
    let are = subst (λ (l : List Cell). AreWithin c.args.len x (cells_of m.cells.now x.region) l) (sym c.as_slice.ensures.value) c.in_ok-more.ensures in
    let told = there_is m.image.now (seen c.args.self.now) (seen c.in_ok-before.before) m.cells.now m.procedure c.args.len c.args.value.now x c.new.result c.in_ok-stored.stored c.as_slice.result.now
    c.new.ensures (ap seen c.in_ok-before.ensures.cases) (c.in_ok-stored.ensures.value m.cells.now) are in
    subst (λ (s : State). OnOk c.overwrite.result (seen c.overwrite.new.self ≡ s)) told c.overwrite.ensures
