use Rattle.std.proofs.Common.{◌∙◌, ap, subst, ◌≡◌}
use Rattle.std.specs.Prelude.{IfOk}
use Rattle.vset.specs.Values.{Values}
use Rattle.cell_map.specs.Merges.{first_value}
use Rattle.cell_map.proofs.PlaceLemmas.{found}
use Rattle.abs_semantics.specs.States.{value_in}
use Rattle.cell_map.proofs.map.CellMap.value.Goals as goal

pub returns : goal.returns
returns c =
    let es = c.entries-entries.result.now in
    let cell = c.args.cell.now in
    let told = ap (first_value cell) c.rest.ensures ∙ found cell es c.place_of.result c.place_of.ensures.within c.place_of.ensures.point c.entries-entries.ensures.rising ∙ ap (value_in cell) c.entries-entries.ensures.value in
    subst (λ (u : Values). IfOk c.first_value.result (λ v. v ≡ u)) told c.first_value.ensures
