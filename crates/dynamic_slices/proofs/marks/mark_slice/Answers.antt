use Rattle.std.proofs.Common.{◌∙◌, ap, length, List}
use Rattle.std.specs.Prelude.{Bool}
use Rattle.std.proofs.lemmas.List.{length-replicate}
use Rattle.dynamic_slices.proofs.SliceLemmas.{slice_marked}
use Rattle.dynamic_slices.proofs.marks.mark_slice.Goals as goal

pub mark_sources-requires-clause-long : goal.mark_sources-requires-clause-long
mark_sources-requires-clause-long c = c.mark.ensures.long ∙ ap (λ (ms : List Bool). length ms) c.requires.none ∙ length-replicate _ _

pub returns : goal.returns
returns c = slice_marked c.args.skip_sp c.args.steps.now c.args.last c.args.marks.now c.mark.new.marks c.mark_sources.new.marks c.requires.last c.requires.none c.mark.ensures c.mark_sources.ensures
