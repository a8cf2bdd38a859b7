use Rattle.std.proofs.Common.{◌∙◌}
use Rattle.ia32_types.specs.declared.Width.TheVariants.{D32}
use Rattle.ia32_semantics.specs.Effects.{Whole}
use Rattle.abs_semantics.specs.Operands.{with_register}
use Rattle.abs_steps.specs.Rows.{risen}
use Rattle.abs_steps.specs.Views.{stored_at}
use Rattle.abs_state.specs.Views.{seen}
use Rattle.transfer.specs.Steps.{view_in}
use Rattle.transfer.proofs.stack.left.Goals as goal

pub returns : goal.returns
returns c =
    let m = c.args.memory.now in
    let s = seen c.args.a.now in
    let sp = c.in_ok-sp.ensures ∙ (λ k. risen (c.register-2.ensures k)) in
    let value = c.in_ok-value.ensures ∙ (λ k. stored_at (view_in m s) D32 (c.register.ensures k)) in
    c.put_register-2.ensures ∙ (λ k. with_register ((c.put_register.ensures ∙ (λ j. with_register s Whole 4 (sp j))) k) Whole 5 (value k))
