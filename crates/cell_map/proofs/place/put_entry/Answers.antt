use Rattle.std.proofs.Common.{◌≤◌, length, sym, ◌∙◌, ap, subst, arith}
use Rattle.image_map.specs.Regions.{same_cell}
use Rattle.abs_semantics.specs.declared.parts.CellValue.{CellValue}
use Rattle.cell_map.proofs.PlaceLemmas.{IsPlace, put_over, put_between, put_at_end}
use Rattle.cell_map.proofs.place.put_entry.Goals as goal
use Rattle.cell_map.proofs.place.put_entry.Goals.{else-place-len-via-then-place-len+else-eq, else-place-len-via-else-place-len}

pub returns-then-eq-clause-ok : goal.returns-then-eq-clause-ok
returns-then-eq-clause-ok c =
    let es = c.args.es.now.items in
    let e = c.args.e in
    let i = c.place_of-place.result in
    put_over e c.index.result.now es i (omega (arith, c.if-place-len.true, c.len.ensures)) (subst (λ xs. IsPlace e.cell xs i) c.as_slice.ensures.value c.place_of-place.ensures.point)
    (ap (λ (x : CellValue). same_cell x.cell e.cell) (sym c.index.ensures) ∙ sym c.eq.ensures ∙ c.if-eq.true)

pub returns-clause-ok : goal.returns-clause-ok
returns-clause-ok c =
    let es = c.args.es.now.items in
    let e = c.args.e in
    let i = c.place_of-place.result in
    let point : IsPlace e.cell es i = subst (λ xs. IsPlace e.cell xs i) c.as_slice.ensures.value c.place_of-place.ensures.point in
    let few : i ≤ length es = omega (arith, c.place_of-place.ensures.within, ap length c.as_slice.ensures.value) in
    c.in_ok-insert.ensures.items ∙
    elim c.else-place-len.branch [
      | else-place-len-via-then-place-len+else-eq w ↦
          put_between e w.index.result.now es i (omega (arith, w.if-place-len.true, c.len.ensures)) point
          (ap (λ (x : CellValue). same_cell x.cell e.cell) (sym w.index.ensures) ∙ sym w.eq.ensures ∙ w.if-eq.false)
      | else-place-len-via-else-place-len w ↦ put_at_end e es i few (omega (arith, w.if-place-len.false, c.len.ensures)) point
    ]
