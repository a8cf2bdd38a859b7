use Rattle.std.proofs.Common.{◌≡◌, [], ◌++◌, not, ◌&&◌, ◌∙◌, ap}
use Rattle.std.specs.Prelude.{map}
use Rattle.abs_steps.specs.Accesses.{writes}
use Rattle.abs_steps.specs.Successors.{is_call}
use Rattle.abs_steps.specs.declared.warnings.WarnName.TheVariants as name
use Rattle.transfer.specs.Views.{view_by}
use Rattle.transfer_flow.specs.Names.{only, with_reasons}
use Rattle.transfer_flow.specs.Written.{met_by, met, with_slot}
use Rattle.transfer_flow.proofs.WarningLemmas.{instruction_names}
use Rattle.transfer_flow.proofs.warnings.instruction_warns.Goals as goal

pub returns : goal.returns
returns c =
    let v = view_by c.args.view.now in
    let i = c.args.i.now in
    let ms = map met_by c.in_ok-all.all.items in
    let written : ms ≡ map (met v) (writes i.op v.state i) = c.in_ok-all.ensures ∙ ap (map (met v)) (c.as_slice.ensures.value ∙ c.in_ok-written.ensures) in
    let slot = c.spoils_slot-slot.ensures ∙ ap (λ xs. not (is_call i.op) && with_slot (map met_by xs)) c.as_slice-2.ensures.value in
    c.in_ok-names.ensures
    ∙ ap (λ xs. (with_reasons ([] ++ only c.in_ok-unresolved.unresolved name.UnresolvedJump) (map met_by xs) ++ only c.spoils_slot-slot.result name.ReturnSlot) ++ only c.loses_stack-lost.result name.StackLost) c.as_slice-3.ensures.value
    ∙ instruction_names c.args.image.now v i c.in_ok-unresolved.unresolved c.spoils_slot-slot.result c.loses_stack-lost.result ms c.in_ok-unresolved.ensures written slot c.loses_stack-lost.ensures
