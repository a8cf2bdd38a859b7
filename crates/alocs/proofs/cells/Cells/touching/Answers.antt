use Rattle.std.proofs.Common.{List, subst}
use Rattle.std.specs.Prelude.{IfOk}
use Rattle.image_map.specs.declared.region.Cell.{Cell}
use Rattle.alocs.specs.Cells.{AreTouched}
use Rattle.alocs.proofs.ListLemmas.{cells_are}
use Rattle.alocs.proofs.cells.Cells.touching.Goals as goal

pub returns : goal.returns
returns c =
    subst (λ (cells : List Cell). IfOk c.touched.result (λ v. AreTouched cells c.args.offsets.now c.args.len v.items))
    (cells_are c.args.self.now c.args.region c.plan.ensures.region c.plan.ensures.extents c.plan.ensures.cuts) c.touched.ensures
