use Rattle.std.proofs.Common.{◌≡◌, [], ◌++◌, refl, ◌∙◌, ap}
use Rattle.std.specs.Prelude.{map}
use Rattle.abs_steps.specs.Accesses.{extern_writes}
use Rattle.abs_steps.specs.declared.warnings.WarnName.TheVariants as name
use Rattle.transfer.specs.Views.{view_by}
use Rattle.transfer_flow.specs.Names.{only, with_reasons}
use Rattle.transfer_flow.specs.Written.{met_by, met, with_slot}
use Rattle.transfer_flow.proofs.WarningLemmas.{extern_names}
use Rattle.transfer_flow.proofs.warnings.extern_warns.Goals as goal

pub returns : goal.returns
returns c image =
    let v = view_by c.args.view.now in
    let k = c.args.kind.now in
    let ms = map met_by c.in_ok-all.all.items in
    let written : ms ≡ map (met v) (extern_writes v k) = c.in_ok-all.ensures ∙ ap (map (met v)) (c.as_slice.ensures.value ∙ c.in_ok-written.ensures) in
    c.in_ok-names.ensures
    ∙ ap (λ xs. ((with_reasons [] (map met_by xs) ++ only (with_slot (map met_by xs)) name.ReturnSlot) ++ only c.extern_loses_stack-lost.result name.StackLost) ++ only c.is_unknown.result name.UnknownExtern) c.as_slice-2.ensures.value
    ∙ extern_names image v k (with_slot ms) c.extern_loses_stack-lost.result c.is_unknown.result ms written refl c.extern_loses_stack-lost.ensures c.is_unknown.ensures
