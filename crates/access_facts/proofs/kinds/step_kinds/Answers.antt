use Rattle.transfer_flow.specs.Successors.{states_of}
use Rattle.access_facts.proofs.FlowLemmas.{kinds_are}
use Rattle.access_facts.proofs.kinds.step_kinds.Goals as goal

pub returns : goal.returns
returns c =
    let p = c.args.program.now in
    kinds_are p.image.now p.settings.now (states_of p c.args.placed.now) c.in_ok-calls.calls c.in_ok-returns.returns c.in_ok-after.after c.in_ok-calls.ensures c.in_ok-returns.ensures c.in_ok-after.ensures
