use Rattle.std.proofs.Common.{◌+◌, length, refl, arith}
use Rattle.matched_calls.proofs.PlaceLemmas.{chunk_made}
use Rattle.matched_calls.proofs.places.fill_chunk.Goals as goal

pub summarize-requires-clause-none : goal.summarize-requires-clause-none
summarize-requires-clause-none c = λ j k low. c.seat_places.ensures.none (length c.args.ground.now.nodes.now + j) k (omega arith)

pub returns : goal.returns
returns c =
    chunk_made c.args.ground.now.nodes.now c.args.ground.now.kinds.now c.args.places.now c.seat_places.new.kept c.seat_places.new.kept c.summarize.new.kept c.summarize.new.kept refl refl
    c.summarize.ensures.len c.seat_places.ensures.keeps c.summarize.ensures.same c.summarize.ensures.summary
