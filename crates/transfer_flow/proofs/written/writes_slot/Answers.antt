use Rattle.std.proofs.Common.{sym, ◌∙◌, ap}
use Rattle.std.specs.List.{list_any}
use Rattle.abs_semantics.specs.Touching.{touches_slot}
use Rattle.abs_steps.specs.Warnings.{writes_slot_in}
use Rattle.transfer_flow.specs.Written.{met_by}
use Rattle.transfer_flow.proofs.written.writes_slot.Goals as goal

pub returns-in-Some : goal.returns-in-Some
returns-in-Some c =
    c.any_touches.ensures ∙ ap (list_any (touches_slot c.in-Some.len)) c.as_slice.ensures.value
    ∙ sym (ap (writes_slot_in (met_by c.args.written.now).places.entries) c.in-Some.is)
