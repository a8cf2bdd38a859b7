use Rattle.std.proofs.Common.{◌∙◌}
use Rattle.ia32_semantics.specs.Operands.{bits}
use Rattle.vset.specs.Values.{Top}
use Rattle.abs_alu.specs.Results.{value as value_by, flags}
use Rattle.abs_steps.specs.Flags.{sets_of}
use Rattle.abs_steps.specs.Views.{value_of}
use Rattle.abs_state.specs.Views.{seen}
use Rattle.transfer.specs.Steps.{view_in}
use Rattle.transfer.proofs.StepLemmas.{operation_done}
use Rattle.transfer.proofs.arithmetic.altered.Goals as goal

pub returns : goal.returns
returns c =
    let m = c.args.memory.now in
    let i = c.args.i.now in
    let s = seen c.args.a.now in
    let x = value_of (view_in m s) i.width i.dst in
    let first = c.in_ok-first.ensures in
    let second = c.top-second.ensures in
    let value = c.in_ok-given.ensures.value ∙ (λ k. value_by (bits i.width) i.op (first k) (second k) (sets_of s.flags)) in
    let told = c.in_ok-given.ensures.flags ∙ (λ k. flags (bits i.width) i.op (first k) (second k) (sets_of s.flags)) in
    operation_done m i s (seen c.store_first.new.a) (seen c.turn.new.a) (value_by (bits i.width) i.op x Top (sets_of s.flags)) c.in_ok-given.given.value x Top c.top-second.result c.in_ok-given.given.flags
    value c.in_ok-store_first.ensures second told (c.turn.ensures m)
