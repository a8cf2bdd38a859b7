use Rattle.std.proofs.Common.{sym, ◌∙◌, ap, length}
use Rattle.abs_state.proofs.ViewLemmas.{as_many}
use Rattle.abs_state.proofs.registers.Registers.of_both.Goals as goal

pub invariant_of-result : goal.invariant_of-result
invariant_of-result c =
    ap length c.in_ok-values.ensures
    ∙ as_many c.args.both c.values.result.now c.values-2.result.now (c.values.ensures.eight ∙ sym c.values-2.ensures.eight) ∙ c.values.ensures.eight
