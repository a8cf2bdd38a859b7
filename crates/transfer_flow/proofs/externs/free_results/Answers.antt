use Rattle.std.proofs.Common.{◌≡◌, None, ◌∙◌, ap}
use Rattle.ia32_semantics.specs.Effects.{Whole}
use Rattle.vset.specs.Values.{Top}
use Rattle.abs_semantics.specs.States.{AbsState}
use Rattle.abs_semantics.specs.Operands.{with_register}
use Rattle.abs_steps.specs.Flags.{any_five}
use Rattle.abs_state.specs.Views.{seen}
use Rattle.transfer_flow.proofs.externs.free_results.Goals as goal

pub returns : goal.returns
returns c cells image procedure =
    let a : AbsState = seen c.args.a.now in
    let first : seen c.put_register.new.self ≡ with_register a Whole 0 Top = c.put_register.ensures ∙ ap (with_register a Whole 0) c.top.ensures in
    let second : seen c.put_register-2.new.self ≡ with_register (with_register a Whole 0 Top) Whole 1 Top =
    c.put_register-2.ensures ∙ (λ i. with_register (first i) Whole 1 (c.top-2.ensures i)) in
    let third : seen c.put_register-3.new.self ≡ with_register (with_register (with_register a Whole 0 Top) Whole 1 Top) Whole 2 Top =
    c.put_register-3.ensures ∙ (λ i. with_register (second i) Whole 2 (c.top-3.ensures i)) in
    c.free_five.ensures ∙ ap (λ (s : AbsState). record s { flags = any_five s.flags; fact = None }) third
