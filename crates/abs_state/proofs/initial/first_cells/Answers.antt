use Rattle.std.proofs.Common.{◌^◌, sym, ◌∙◌, subst}
use Rattle.image_map.specs.declared.region.RegionId.TheVariants.{Global}
use Rattle.strided.specs.Interval.{Interval}
use Rattle.alocs.specs.Cells.{AreTouched, cells_of}
use Rattle.abs_state.proofs.StartLemmas.{low_alone, same_alone, low_more, same_more}
use Rattle.abs_state.proofs.initial.first_cells.Goals as goal

pub returns-in-None-clause-low : goal.returns-in-None-clause-low
returns-in-None-clause-low c =
    let d = c.args.cells.now in
    let are = subst (λ (o : Interval). AreTouched (cells_of d Global) o (2 ^ 31) c.in_ok-found.found.items) c.one.ensures c.in_ok-found.ensures in
    low_alone c.args.image.now.segments d c.requires.image.segments c.requires.cells c.args.entry c.in_ok-found.found.items are

pub returns-in-None-clause-same : goal.returns-in-None-clause-same
returns-in-None-clause-same c =
    let d = c.args.cells.now in
    let are = subst (λ (o : Interval). AreTouched (cells_of d Global) o (2 ^ 31) c.in_ok-found.found.items) c.one.ensures c.in_ok-found.ensures in
    same_alone c.args.image.now.segments d c.requires.image.segments c.requires.cells c.args.entry c.in_ok-found.found.items are (sym c.in-None.is ∙ c.cell_at.ensures)

pub returns-in_ok-push-in-Some-clause-low : goal.returns-in_ok-push-in-Some-clause-low
returns-in_ok-push-in-Some-clause-low c =
    let d = c.args.cells.now in
    let are = subst (λ (o : Interval). AreTouched (cells_of d Global) o (2 ^ 31) c.in_ok-found.found.items) c.one.ensures c.in_ok-found.ensures in
    low_more c.args.image.now.segments d c.requires.image.segments c.requires.cells c.args.entry c.in_ok-found.found.items are c.in-Some.slot c.push.new.self.items (sym c.in-Some.is ∙ c.cell_at.ensures) c.in_ok-push-in-Some.ensures.items

pub returns-in_ok-push-in-Some-clause-same : goal.returns-in_ok-push-in-Some-clause-same
returns-in_ok-push-in-Some-clause-same c =
    let d = c.args.cells.now in
    let are = subst (λ (o : Interval). AreTouched (cells_of d Global) o (2 ^ 31) c.in_ok-found.found.items) c.one.ensures c.in_ok-found.ensures in
    same_more c.args.image.now.segments d c.requires.image.segments c.requires.cells c.args.entry c.in_ok-found.found.items are c.in-Some.slot c.push.new.self.items (sym c.in-Some.is ∙ c.cell_at.ensures) c.in_ok-push-in-Some.ensures.items
