use Rattle.std.proofs.Common.{sym, ◌∙◌, ap}
use Rattle.ia32_semantics.specs.Operands.{part_of}
use Rattle.ia32_types.specs.Numbers.{reg_number}
use Rattle.vset.specs.Values.{Values}
use Rattle.abs_semantics.specs.Operands.{with_part_value}
use Rattle.abs_state.specs.Views.{seen}
use Rattle.abs_state.proofs.RegisterLemmas.{whole_is}
use Rattle.abs_state.proofs.state.AbsState.put_part.Goals as goal

pub returns : goal.returns
returns c =
    c.put_register.ensures
    ∙ whole_is (seen c.args.self.now) (part_of c.args.width) (reg_number c.args.register) c.args.value c.with_part-value.result
    (c.with_part-value.ensures ∙ ap (λ (u : Values). with_part_value (part_of c.args.width) u c.args.value) c.value.ensures)
