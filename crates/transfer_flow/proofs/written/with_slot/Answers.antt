use Rattle.std.proofs.Common.{sym, ◌∙◌}
use Rattle.abs_steps.specs.Warnings.{writes_slot_in}
use Rattle.transfer_flow.specs.Written.{Met, met_by}
use Rattle.transfer_flow.proofs.WarningLemmas.{any_map}
use Rattle.transfer_flow.proofs.written.with_slot.Goals as goal

pub returns : goal.returns
returns c = c.some_with_slot.ensures ∙ sym (any_map (λ (m : Met). writes_slot_in m.places.entries m.len) met_by c.args.all.now)
