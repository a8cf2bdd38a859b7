use Rattle.std.proofs.Common.{sym, subst}
use Rattle.access_facts.specs.Rows.{AreOf}
use Rattle.access_facts.proofs.RowLemmas.{touched_are_all, sound_of_rise, cells_are_of}
use Rattle.access_facts.proofs.graph_cells.cells_of.Goals as goal

pub returns-clause-value : goal.returns-clause-value
returns-clause-value c = touched_are_all c.args.cells.now c.args.region c.in_ok-found.found.items c.full.result c.full.ensures c.requires c.in_ok-found.ensures

pub returns-clause-some : goal.returns-clause-some
returns-clause-some c = sound_of_rise _ c.in_ok-found.found.items c.in_ok-found.ensures.rise

pub returns-clause-of : goal.returns-clause-of
returns-clause-of c =
    subst (AreOf c.args.region) (sym (touched_are_all c.args.cells.now c.args.region c.in_ok-found.found.items c.full.result c.full.ensures c.requires c.in_ok-found.ensures)) (cells_are_of c.args.cells.now c.args.region)
