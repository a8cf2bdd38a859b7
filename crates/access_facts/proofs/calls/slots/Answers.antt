use Rattle.std.proofs.Common.{◌++◌, ◌∷◌, [], ◌∙◌, ap}
use Rattle.access_facts.specs.Sets.{slot_reach}
use Rattle.access_facts.proofs.KeptLemmas.{number_step, number_end}
use Rattle.access_facts.proofs.calls.slots.Goals as goal

pub loop-target-preserved : goal.loop-target-preserved
loop-target-preserved c =
    number_step slot_reach c.args.targets.now c.loop-target.target-index c.loop-target.found.items c.push.new.self.items _ c.loop-target-test.true
    (c.in_ok-push.ensures.items ∙ ap (λ r. c.loop-target.found.items ++ r ∷ []) c.in_ok-slot.ensures) c.loop-target.invariant

pub returns : goal.returns
returns c = number_end slot_reach c.args.targets.now c.loop-target.target-index c.loop-target.found.items _ c.loop-target-test.false c.loop-target.invariant
