use Rattle.std.proofs.Common.{◌≡◌, ◌<◌, length, ap, get_or, List, Bool, Some, false, arith}
use Rattle.std.specs.Prelude.{slice_get}
use Rattle.flow_graph.proofs.GraphLaws.{slice_get-at}
use Rattle.dep_graph.proofs.PairLemmas.{adding-more}
use Rattle.matched_calls.specs.Searches.{IsHitFrom}
use Rattle.matched_calls.proofs.SearchLemmas.{hit_inside, hit_marks}
use Rattle.matched_calls.proofs.search.add_rows.Goals as goal

pub loop-m-preserved : goal.loop-m-preserved
loop-m-preserved c =
    let within : c.loop-m.m < length c.args.graph.now = (let many = c.requires.many in omega (arith, many)) in
    let is : slice_get c.args.graph.now c.loop-m.m ≡ Some c.index-graph-m.result = slice_get-at c.args.graph.now c.loop-m.m c.index-graph-m.result within c.index-graph-m.is in
    adding-more (length c.args.sources.now) (IsHitFrom c.args.graph.now c.args.rows.now c.args.sources.now c.args.targets.now) c.args.pairs.now c.loop-m.pairs c.loop-m.m (get_or c.loop-m.pairs c.loop-m.m c.index-pairs-m.result) c.add_row.new.row
    c.loop-m-test.true (ap (λ (row : List Bool). get_or c.loop-m.pairs c.loop-m.m row) c.index-pairs-m.is) c.add_row.ensures.len
    (λ n hit. hit_inside c.args.graph.now c.args.rows.now c.args.sources.now c.args.targets.now c.loop-m.m n c.requires.inside hit)
    (hit_marks c.args.graph.now c.args.rows.now c.args.sources.now c.args.targets.now c.loop-m.m c.index-graph-m.result (get_or c.args.sources.now c.loop-m.m false) (get_or c.loop-m.pairs c.loop-m.m c.index-pairs-m.result) c.add_row.new.row is ((λ on. on), (λ on. on)) c.add_row.ensures.marks)
    c.loop-m.invariant
