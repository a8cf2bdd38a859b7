use Rattle.std.proofs.Common.{◌≡◌, Option, ℕ, None, sym, ◌∙◌, ap, subst}
use Rattle.std.specs.Prelude.{OnOk}
use Rattle.abs_semantics.specs.States.{AbsState as State}
use Rattle.abs_semantics.specs.Ranges.{write_range}
use Rattle.abs_state.specs.Views.{seen}
use Rattle.abs_state.proofs.RangeLemmas.{write_range_none}
use Rattle.abs_state.proofs.state.AbsState.write_range.Goals as goal

pub returns-in-None : goal.returns-in-None
returns-in-None c =
    let a = seen c.args.self.now in
    let m = c.args.memory.now in
    let none = write_range_none a m.cells.now m.image.now m.procedure c.args.address.now c.args.value.now in
    let told = none ∙ ap (λ (o : Option ℕ). write_range a m.cells.now m.image.now m.procedure c.args.address.now o c.args.value.now) (sym c.in-None.is) in
    subst (λ (s : State). OnOk c.overwrite_anywhere.result (seen c.overwrite_anywhere.new.self ≡ s)) told c.overwrite_anywhere.ensures
