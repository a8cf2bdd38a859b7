use Rattle.std.proofs.Common.{◌++◌, ◌∷◌, [], sym, ◌∙◌, ap}
use Rattle.transfer.specs.Views.{view_by}
use Rattle.abs_steps.specs.Warnings.{warnings}
use Rattle.abs_steps.specs.declared.warnings.WarnName.TheVariants as name
use Rattle.transfer_flow.specs.Contents.{meant}
use Rattle.transfer_flow.proofs.WarningLemmas.{nothing_warns}
use Rattle.transfer_flow.proofs.warnings.warns.Goals as goal

pub returns-in_ok-push-in-Nothing : goal.returns-in_ok-push-in-Nothing
returns-in_ok-push-in-Nothing c =
    c.in_ok-push-in-Nothing.ensures.items ∙ ap (λ xs. xs ++ name.Undecoded ∷ []) c.new-names.ensures.items
    ∙ nothing_warns c.args.image.now (view_by c.args.view.now) ∙ ap (λ x. warnings (meant x) c.args.image.now (view_by c.args.view.now)) (sym c.in-Nothing.is)
