use Rattle.std.proofs.Common.{◌∙◌, ap}
use Rattle.std.specs.Prelude.{set}
use Rattle.cell_map.proofs.ChangeLemmas.{change_end}
use Rattle.std.proofs.lemmas.List.Edits.{map_over_more}
use Rattle.vsa.specs.Topped.{topped_link}
use Rattle.vsa.proofs.topped.links.Goals as goal

pub loop-i-preserved : goal.loop-i-preserved
loop-i-preserved c =
    let f = topped_link c.args.old.now in
    ap (set c.loop-i.out.items c.loop-i.i) c.topped_link.ensures
    ∙ map_over_more f c.args.new.now c.loop-i.out.items c.loop-i.i c.index.result.now c.loop-i-test.true c.loop-i.invariant c.index.ensures

pub returns : goal.returns
returns c = c.loop-i.invariant ∙ change_end (topped_link c.args.old.now) c.args.new.now c.loop-i.i c.loop-i-test.false
