use Rattle.std.proofs.Common.{map, ap, ◌∙◌}
use Rattle.std.specs.List.{fold}
use Rattle.abs_state.specs.Views.{seen}
use Rattle.abs_steps.specs.Rows.{view_of}
use Rattle.abs_steps.specs.Warnings.{warnings}
use Rattle.vsa.specs.Warned.{with_warning, named_at}
use Rattle.vsa.proofs.checking.note_node.Goals as goal

pub returns : goal.returns
returns c =
    let p = c.args.program.now in
    let n = c.args.node.now in
    let names = c.as_slice.ensures.value ∙ c.in_ok-names.ensures ∙ ap (λ content. warnings content p.image.now (view_of (seen c.args.state.now) p.cells.now n.context.proc)) c.content_at-content.ensures.value in
    c.in_ok-note_names.ensures ∙ ap (λ t. fold with_warning c.args.out.now.items (map (named_at n.at) t)) names
