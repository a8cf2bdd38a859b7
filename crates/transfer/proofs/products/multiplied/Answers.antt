use Rattle.std.proofs.Common.{◌∙◌, ap}
use Rattle.ia32_types.specs.declared.Operand.TheVariants as operand
use Rattle.ia32_types.specs.declared.Reg.TheVariants.{Eax}
use Rattle.std.specs.Prelude.{Some}
use Rattle.ia32_semantics.specs.Operands.{bits}
use Rattle.abs_alu.specs.Results.{value as value_by, flags}
use Rattle.abs_steps.specs.Flags.{sets_of}
use Rattle.abs_steps.specs.Rows.{product_effects, flag_effects}
use Rattle.abs_steps.specs.Views.{value_of}
use Rattle.abs_state.specs.Views.{seen}
use Rattle.transfer.specs.Steps.{view_in, turned}
use Rattle.transfer.proofs.StepLemmas.{both_done}
use Rattle.transfer.proofs.products.multiplied.Goals as goal

pub returns : goal.returns
returns c =
    let m = c.args.memory.now in
    let i = c.args.i.now in
    let s = seen c.args.a.now in
    let v = view_in m s in
    let x = value_of v i.width (Some (operand.Reg Eax)) in
    let y = value_of v i.width i.dst in
    let first = c.in_ok-first.ensures in
    let second = c.in_ok-second.ensures in
    let low = c.in_ok-given.ensures.value ∙ (λ k. value_by (bits i.width) i.op (first k) (second k) (sets_of s.flags)) in
    let told = c.in_ok-given.ensures.flags ∙ (λ k. flags (bits i.width) i.op (first k) (second k) (sets_of s.flags)) in
    both_done m (product_effects i.width (value_by (bits i.width) i.op x y (sets_of s.flags))) (product_effects i.width c.in_ok-given.given.value)
    (flag_effects v (bits i.width) i.op x y) (turned i c.in_ok-second.second c.in_ok-given.given.flags) s (seen c.put_product.new.a) (seen c.turn.new.a)
    (ap (product_effects i.width) low) (c.put_product.ensures m) (λ k. turned i (second k) (told k)) (c.turn.ensures m)
