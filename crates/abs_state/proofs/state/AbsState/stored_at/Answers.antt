use Rattle.std.proofs.Common.{true, sym, ◌∙◌, ap}
use Rattle.abs_semantics.specs.declared.parts.RangeValue.{RangeValue}
use Rattle.abs_semantics.specs.Ranges.{stored}
use Rattle.abs_state.specs.Views.{seen}
use Rattle.abs_state.proofs.RangeLemmas.{stored_copy}
use Rattle.abs_state.proofs.state.AbsState.stored_at.Goals as goal

pub returns-then-is_clear-clause-value : goal.returns-then-is_clear-clause-value
returns-then-is_clear-clause-value c d distance count =
    let a = seen c.args.self.now in
    stored_copy a d c.args.procedure c.args.len c.args.place.now c.in-Copy.source c.in_ok-source-in-Copy.source (sym c.in_ok-source-in-Copy.ensures.value) true (sym c.if-is_clear.true ∙ c.is_clear.ensures) distance count
    ∙ ap (λ (w : RangeValue). stored a d c.args.procedure c.args.len c.args.place.now w distance count) (sym c.in-Copy.is)
