use Rattle.std.proofs.Common.{sym, ◌∙◌, ap}
use Rattle.cell_map.specs.Merges.{side_of, is_side}
use Rattle.cell_map.proofs.ListLemmas.{alone_more, alone_end}
use Rattle.cell_map.proofs.merge.put_rest.Goals as goal

pub loop-e-preserved : goal.loop-e-preserved
loop-e-preserved c =
    let rule = c.args.rule.now in (
      alone_more rule.both rule.first rule.second c.args.side c.args.es.now c.loop-e.e-index c.e-item.result _ c.loop-e.out.items c.put_alone.new.out.items c.is.result c.loop-e-test.true c.e-item.is
          (c.is.ensures ∙ ap (is_side c.args.side) c.turned-turn.ensures.side) c.in_ok-put_alone.ensures c.loop-e.invariant.0,
      c.turned-turn.ensures.side ∙ ap (side_of rule.both rule.first rule.second) (sym c.turned-turn.ensures.region),
    )

pub returns : goal.returns
returns c =
    let rule = c.args.rule.now in
    alone_end rule.both rule.first rule.second c.args.side c.args.es.now c.loop-e.e-index c.loop-e.out.items _ c.loop-e-test.false c.loop-e.invariant.0
