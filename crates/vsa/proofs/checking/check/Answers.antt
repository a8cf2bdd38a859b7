use Rattle.std.proofs.Common.{◌≡◌, [], sym, ◌∙◌}
use Rattle.std.specs.List.{fold, flat_map}
use Rattle.std.proofs.lemmas.List.Sums.{fold-append}
use Rattle.vsa.specs.Closed.{is_closed}
use Rattle.vsa.specs.Views.{told, placed_with}
use Rattle.vsa.specs.Warned.{with_warning, warnings_at, of_map, map_warnings}
use Rattle.vsa.proofs.checking.check.Goals as goal

pub returns : goal.returns
unfolding map_warnings
returns c =
    let s = c.args.s.now in
    let image = c.args.image.now in
    let settings = c.args.settings.now in
    let placed : placed_with c.as_slice-nodes.result.now c.as_slice-values.result.now ≡ placed_with s.nodes.items s.values.items = λ i. placed_with (c.as_slice-nodes.ensures.value i) (c.as_slice-values.ensures.value i) in
    let nodes = c.in_ok-ws.ensures ∙ (λ i. fold with_warning [] (flat_map (warnings_at image settings (told s)) (placed i))) in
    let closed = c.in_ok-closed.ensures ∙ (λ i. is_closed image settings (record (told s) { placed = placed i })) in
    c.in_ok-note_map.ensures ∙ (λ i. fold with_warning (nodes i) (of_map s.full (closed i)))
    ∙ sym (fold-append with_warning [] (flat_map (warnings_at image settings (told s)) (told s).placed) (of_map s.full (is_closed image settings (told s))))
