use Rattle.std.proofs.Common.{negsuc, List, subst, ap, ◌∙◌, arith}
use Rattle.std.specs.Prelude.{is_some}
use Rattle.std.proofs.lemmas.Int.{ints}
use Rattle.alocs.specs.declared.extents.Extent.{Extent}
use Rattle.alocs.specs.Extents.{RiseFrom, extents}
use Rattle.alocs.specs.Cells.{cells_of, cuts_of}
use Rattle.alocs.proofs.CellLemmas.{cells_in_rise}
use Rattle.alocs.proofs.OffsetLemmas.{held_alone, held_inside, held_is}
use Rattle.alocs.proofs.ListLemmas.{cells_are}
use Rattle.alocs.proofs.cells.Cells.cell_of.Goals as goal

pub returns-clause-value : goal.returns-clause-value
returns-clause-value c =
    let d = c.args.self.now in
    held_is c.cell_with.result c.cell_with.ensures (cells_of d c.args.region) c.args.offset (cells_are d c.args.region c.plan.ensures.region c.plan.ensures.extents c.plan.ensures.cuts) (omega (arith, ints))

pub returns-clause-inside : goal.returns-clause-inside
returns-clause-inside c =
    let d = c.args.self.now in
    let rise = subst (λ (xs : List Extent). RiseFrom (negsuc 2147483647) xs) c.plan.ensures.extents c.plan.ensures.rise in
    ap is_some (returns-clause-value c) ∙ held_inside c.args.region (negsuc 2147483647) (extents d.image c.args.region) (cuts_of d.lists c.args.region) c.args.offset rise

pub returns-clause-only : goal.returns-clause-only
returns-clause-only c = λ cell among here.
    let d = c.args.self.now in
    let rise = subst (λ (xs : List Extent). RiseFrom (negsuc 2147483647) xs) c.plan.ensures.extents c.plan.ensures.rise in
    returns-clause-value c
    ∙ held_alone (negsuc 2147483647) c.args.offset (cells_of d c.args.region) cell (cells_in_rise c.args.region (negsuc 2147483647) (extents d.image c.args.region) (cuts_of d.lists c.args.region) rise) among here
