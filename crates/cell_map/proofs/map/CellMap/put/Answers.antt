use Rattle.cell_map.proofs.PlaceLemmas.{rising_put}
use Rattle.cell_map.proofs.map.CellMap.put.Goals as goal

pub invariant_of-self : goal.invariant_of-self
invariant_of-self c = rising_put c.put_entry.result (record { cell = c.args.cell.now; value = c.args.value }) c.self.inside.entries.items c.put_entry.new.es.items c.put_entry.ensures.ok c.put_entry.ensures.err c.self.invariant
