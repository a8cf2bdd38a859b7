use Rattle.std.proofs.Common.{not, rules}
use Rattle.std.proofs.lemmas.Fn.{filter_same}
use Rattle.abs_semantics.specs.declared.parts.CellValue.{CellValue}
use Rattle.abs_semantics.specs.Start.{is_top}
use Rattle.cell_map.proofs.place.keep_known.Goals as goal

pub returns : goal.returns
returns c = filter_same _ (λ (e : CellValue). not (is_top e.value)) _ (λ x b q h. search rules) _ _ c.retain.ensures.filtered
