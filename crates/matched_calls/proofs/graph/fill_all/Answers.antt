use Rattle.std.proofs.Common.{◌+◌, length, refl, arith}
use Rattle.matched_calls.proofs.GraphLemmas.{all_same, full_held}
use Rattle.matched_calls.proofs.graph.fill_all.Goals as goal

pub summarize-requires-clause-none : goal.summarize-requires-clause-none
summarize-requires-clause-none c = λ j k low. c.seat_all.ensures.none (length c.args.ground.now.nodes.now + j) k (omega arith)

pub returns-clause-wide : goal.returns-clause-wide
returns-clause-wide c =
    full_held c.args.ground.now.nodes.now c.args.ground.now.kinds.now c.seat_all.new.kept c.seat_all.new.kept c.summarize.new.kept c.summarize.new.kept refl refl
    c.summarize.ensures.len c.seat_all.ensures.all c.summarize.ensures.same c.summarize.ensures.summary

pub returns-clause-all : goal.returns-clause-all
returns-clause-all c = all_same c.args.ground.now.nodes.now c.seat_all.new.kept c.seat_all.new.kept c.summarize.new.kept refl c.seat_all.ensures.all c.summarize.ensures.same
