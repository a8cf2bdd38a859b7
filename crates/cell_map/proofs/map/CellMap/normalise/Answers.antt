use Rattle.std.proofs.Common.{sym, subst}
use Rattle.cell_map.specs.Lists.{AreRising}
use Rattle.cell_map.proofs.PlaceLemmas.{rising_filtered}
use Rattle.cell_map.proofs.map.CellMap.normalise.Goals as goal

pub invariant_of-self : goal.invariant_of-self
invariant_of-self c = subst AreRising (sym c.keep_known.ensures) (rising_filtered c.self.inside.entries.items c.self.invariant)
