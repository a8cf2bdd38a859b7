use Rattle.std.proofs.Common.{sym, ◌∙◌, ap, inl, inr}
use Rattle.cell_map.specs.declared.regions.Side.TheVariants.{First, Second}
use Rattle.cell_map.specs.Merges.{side_of, is_side, value_by, value_of_both, value_alone}
use Rattle.cell_map.proofs.StepLemmas.{first_alone, second_is_alone, step_same, step_first, step_second, merge_ends}
use Rattle.cell_map.proofs.merge.merge.Goals as goal
use Rattle.cell_map.proofs.merge.merge.Goals.{then-loop-i-test+else-j-ys, else-loop-i-test}

pub loop-i-preserved-then-eq : goal.loop-i-preserved-then-eq
loop-i-preserved-then-eq c =
    let rule = c.args.rule.now in
    let x = c.index-xs-i.result in
    let y = c.index-ys-j.result in (
      step_same (value_of_both rule.both rule.first rule.second) c.args.xs.now c.args.ys.now c.loop-i.i c.loop-i.j x y c.loop-i-test.true c.if-j-ys.true c.index-xs-i.is c.index-ys-j.is c.loop-i.out.items c.put.new.out.items _ c.in_ok-value.value
          (sym c.eq.ensures ∙ c.if-eq.true) (c.in_ok-value.ensures ∙ ap (λ s. value_by rule.both s x.cell x.value y.value) c.turned-turn.ensures.side) c.in_ok-put.ensures c.loop-i.invariant.0,
      c.turned-turn.ensures.side ∙ ap (side_of rule.both rule.first rule.second) (sym c.turned-turn.ensures.region),
    )

pub loop-i-preserved-then-is_before : goal.loop-i-preserved-then-is_before
loop-i-preserved-then-is_before c =
    let rule = c.args.rule.now in
    let x = c.index-xs-i.result in
    let y = c.index-ys-j.result in (
      step_first (value_of_both rule.both rule.first rule.second) c.args.xs.now c.args.ys.now c.loop-i.i c.loop-i.j x y c.loop-i-test.true c.if-j-ys.true c.index-xs-i.is c.index-ys-j.is c.loop-i.out.items c.put_alone.new.out.items _ (value_alone c.is.result x.value)
          (sym c.eq.ensures ∙ c.if-eq.false) (sym c.is_before.ensures ∙ c.if-is_before.true)
          (ap (λ t. value_alone t x.value) (c.is.ensures ∙ ap (is_side First) c.turned-turn-then-is_before.ensures.side) ∙ sym (first_alone rule.both (side_of rule.both rule.first rule.second x.cell.region) x.cell x.value))
          c.in_ok-put_alone.ensures c.loop-i.invariant.0,
      c.turned-turn-then-is_before.ensures.side ∙ ap (side_of rule.both rule.first rule.second) (sym c.turned-turn-then-is_before.ensures.region),
    )

pub loop-i-preserved : goal.loop-i-preserved
loop-i-preserved c =
    let rule = c.args.rule.now in
    let x = c.index-xs-i.result in
    let y = c.index-ys-j.result in (
      step_second (value_of_both rule.both rule.first rule.second) c.args.xs.now c.args.ys.now c.loop-i.i c.loop-i.j x y c.loop-i-test.true c.if-j-ys.true c.index-xs-i.is c.index-ys-j.is c.loop-i.out.items c.put_alone-else-is_before.new.out.items _ (value_alone c.is-else-is_before.result y.value)
          (sym c.eq.ensures ∙ c.if-eq.false) (sym c.is_before.ensures ∙ c.if-is_before.false)
          (ap (λ t. value_alone t y.value) (c.is-else-is_before.ensures ∙ ap (is_side Second) c.turned-turn-else-is_before.ensures.side) ∙ sym (second_is_alone rule.both (side_of rule.both rule.first rule.second y.cell.region) y.cell y.value))
          c.in_ok-put_alone-2.ensures c.loop-i.invariant.0,
      c.turned-turn-else-is_before.ensures.side ∙ ap (side_of rule.both rule.first rule.second) (sym c.turned-turn-else-is_before.ensures.region),
    )

pub returns : goal.returns
returns c =
    let rule = c.args.rule.now in
    merge_ends rule.both rule.first rule.second c.args.xs.now c.args.ys.now c.rest.result.now c.rest-2.result.now c.loop-i.i c.loop-i.j c.loop-i.out.items c.put_rest.new.out.items c.put_rest-2.new.out.items _
    (elim c.loop-i-test.branch [ then-loop-i-test+else-j-ys w ↦ inr w.if-j-ys.false | else-loop-i-test w ↦ inl w.loop-i-test.false ])
    c.rest.ensures c.rest-2.ensures c.in_ok-put_rest.ensures c.in_ok-put_rest-2.ensures c.loop-i.invariant.0
