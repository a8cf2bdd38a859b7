use Rattle.abs_semantics.proofs.laws.cleared_cells_stand_for_more.Goals as goal
use Rattle.abs_semantics.proofs.ClearLemmas as lemma

pub returns : goal.returns
returns c = lemma.cleared_cells
