use Rattle.std.proofs.Common.{List, not, sym, ◌∙◌, ap, subst}
use Rattle.std.specs.Prelude.{filter}
use Rattle.abs_semantics.specs.declared.parts.CellValue.{CellValue}
use Rattle.abs_semantics.specs.States.{value_in, rebuilt}
use Rattle.abs_semantics.specs.Start.{is_top}
use Rattle.cell_map.specs.Lists.{AreRising}
use Rattle.cell_map.proofs.PlaceLemmas.{rising_filtered}
use Rattle.cell_map.proofs.ChangeLemmas.{same_order, changed_rebuilt}
use Rattle.cell_map.proofs.map.CellMap.change.Goals as goal

pub invariant_of-self : goal.invariant_of-self
invariant_of-self g c = same_order c.change_all.new.entries.items c.self.inside.entries.items c.change_all.ensures.cells c.self.invariant

pub invariant_of-self-2 : goal.invariant_of-self-2
invariant_of-self-2 g c =
    subst AreRising (sym c.keep_known.ensures) (rising_filtered c.change_all.new.entries.items (same_order c.change_all.new.entries.items c.self.inside.entries.items c.change_all.ensures.cells c.self.invariant))

pub returns : goal.returns
returns g c =
    c.keep_known.ensures ∙ ap (filter (λ (e : CellValue). not (is_top e.value))) c.in_ok-change_all.ensures.ok
    ∙ changed_rebuilt (g.C.Change.given c.args.change.now) c.self.inside.entries.items c.self.invariant
    ∙ ap (λ (es : List CellValue). rebuilt (λ c'. g.C.Change.given c.args.change.now c' (value_in c' es)) es) c.self.view_is
