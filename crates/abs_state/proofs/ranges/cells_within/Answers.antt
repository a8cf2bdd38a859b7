use Rattle.alocs.specs.Cells.{cells_of}
use Rattle.abs_state.proofs.RangeLemmas.{touched_within}
use Rattle.abs_state.proofs.ranges.cells_within.Goals as goal

pub returns : goal.returns
returns c =
    touched_within c.args.len c.args.x.now (cells_of c.args.cells.now c.args.x.now.region) c.in_ok-found.found.items c.keep_within.new.found.items c.requires.form c.requires.some c.in_ok-found.ensures c.keep_within.ensures
