use Rattle.access_facts.proofs.RowLemmas.{touched_are_all}
use Rattle.round_texts.proofs.locations.cells_of.Goals as goal

pub returns : goal.returns
returns c = touched_are_all c.args.cells.now c.args.region c.in_ok-found.found.items c.full.result c.full.ensures c.requires c.in_ok-found.ensures
