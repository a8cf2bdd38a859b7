use Rattle.std.proofs.Common.{length, arith}
use Rattle.dep_graph.proofs.PairLemmas.{adds-then}
use Rattle.matched_calls.specs.Searches.{IsFrom, IsHitFrom}
use Rattle.matched_calls.proofs.SearchLemmas.{chunk_from}
use Rattle.matched_calls.proofs.search.add_chunk.Goals as goal

pub returns-clause-adds : goal.returns-clause-adds
returns-clause-adds c =
    let room = c.requires.room in
    adds-then (IsHitFrom c.args.search.now.ground.plan.now.down.nodes c.go_back.new.rows c.args.search.now.sources.now c.args.targets.now) (IsHitFrom c.args.search.now.ground.plan.now.up.nodes c.go_back-2.new.rows c.args.search.now.sources.now c.args.targets.now)
    (IsFrom c.args.search.now.ground.nodes.now c.args.search.now.ground.kinds.now c.args.search.now.kept.now c.args.search.now.sources.now c.args.targets.now) c.args.pairs.now c.go_back.new.pairs c.go_back-2.new.pairs
    (λ m n.
    let by =
    chunk_from c.args.search.now.ground.nodes.now c.args.search.now.ground.kinds.now c.args.search.now.ground.plan.now c.requires.plan c.args.search.now.kept.now c.requires.wide c.args.search.now.sources.now c.args.targets.now c.begin.new.rows c.go_back.new.rows c.go_back-2.new.rows
    (length c.args.rows.now) c.requires.many c.requires.few (omega (arith, room)) c.requires.inside c.begin.ensures c.go_back.ensures.rows c.go_back-2.ensures.rows m n in
    (by.1, by.0))
    c.go_back.ensures.adds c.go_back-2.ensures.adds
