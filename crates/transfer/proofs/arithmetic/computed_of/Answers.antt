use Rattle.std.proofs.Common.{refl, ◌∙◌}
use Rattle.abs_steps.specs.Rows.{result}
use Rattle.abs_state.specs.Views.{seen}
use Rattle.transfer.specs.Steps.{view_in, result_or}
use Rattle.transfer.proofs.StepLemmas.{operation_done}
use Rattle.transfer.proofs.arithmetic.computed_of.Goals as goal

pub returns : goal.returns
returns c =
    let m = c.args.memory.now in
    let i = c.args.i.now in
    let x = c.args.x.now in
    let s = seen c.args.a.now in
    let value = c.in_ok-value.ensures ∙ (λ k. result_or (c.as_slice.ensures k) i x.first x.second (c.in_ok-given.ensures.value k)) in
    operation_done m i s (seen c.store_first.new.a) (seen c.turn.new.a) (result (view_in m s) i.op i x.first x.second) c.in_ok-value.value x.first x.second x.second c.in_ok-given.given.flags
    value c.in_ok-store_first.ensures refl c.in_ok-given.ensures.flags (c.turn.ensures m)
