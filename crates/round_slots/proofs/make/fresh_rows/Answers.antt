use Rattle.std.proofs.Common.{◌≡◌, [], ◌∷◌, ◌++◌, length, rules, arith, ap, sym, subst}
use Rattle.std.specs.List.{AllByRecursion}
use Rattle.round_slots.specs.Rows.{AreRows}
use Rattle.round_slots.proofs.ListLemmas.{length_snoc}
use Rattle.round_slots.proofs.EndLemmas.{rows_more}
use Rattle.round_slots.proofs.make.fresh_rows.Goals as goal

pub loop-lane-preserved : goal.loop-lane-preserved
loop-lane-preserved g c =
    let i = c.loop-lane.invariant in
    let row = c.in_ok-fresh_row.field-0 in
    let f = c.in_ok-fresh_row.ensures in
    let e : c.push.new.self.items ≡ c.loop-lane.rows.items ++ (row ∷ []) = search rules in
    let n = length_snoc c.loop-lane.rows.items row in
    let m = ap (λ xs. length xs) e in (
      omega (arith, n, m, i.0),
      subst (AreRows c.args.key.now 0) (sym e) (rows_more c.args.key.now c.loop-lane.rows.items row 0 c.loop-lane.lane i.1 (omega (arith, i.0)) (search rules)
          (subst (λ v. AllByRecursion (λ t. (t.tag.value ≡ v) × (t.lane ≡ c.loop-lane.lane)) row.items) c.requires.tag f.1)),
    )
