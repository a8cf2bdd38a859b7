use Rattle.std.proofs.Common.{arith, refl}
use Rattle.control_walks.specs.ControlWalks.{Controls}
use Rattle.slicer.proofs.GrowLemmas.{grows-none}
use Rattle.chops.proofs.AlongLemmas.{already_there, some_follows, some_grows}
use Rattle.chops.proofs.MaskLemmas.{held_rows}
use Rattle.chops.proofs.search.follow_some.Goals as goal

pub mark_bits-requires-clause-room : goal.mark_bits-requires-clause-room
mark_bits-requires-clause-room c = λ k d low. let within = c.requires.inside k d low in let room = c.requires.room in omega (arith, within, room)

pub returns-clause-grows : goal.returns-clause-grows
returns-clause-grows c =
    some_grows c.args.graph.now.nodes c.args.targets.now c.flood_all.new.s c.args.queue.now.nodes c.mark_bits.new.queue.nodes c.split_by-word.result c.requires.inside c.flood_all.ensures.floods
    (held_rows c.as_slice.result.now c.args.graph.now.nodes c.reaching.result.now c.flood_all.new.s.reaching c.escaping.result.now c.flood_all.new.s.escaping c.nodes.result.now c.args.queue.now.nodes c.split_by-word.result
    c.as_slice.ensures c.reaching.ensures c.escaping.ensures c.nodes.ensures.nodes c.split_by-word.ensures) c.mark_bits.ensures.adds

pub returns-clause-follows : goal.returns-clause-follows
returns-clause-follows c =
    some_follows c.args.graph.now.nodes c.args.targets.now c.flood_all.new.s c.args.queue.now.nodes c.mark_bits.new.queue.nodes c.split_by-word.result c.requires.inside c.flood_all.ensures.floods
    (held_rows c.as_slice.result.now c.args.graph.now.nodes c.reaching.result.now c.flood_all.new.s.reaching c.escaping.result.now c.flood_all.new.s.escaping c.nodes.result.now c.args.queue.now.nodes c.split_by-word.result
    c.as_slice.ensures c.reaching.ensures c.escaping.ensures c.nodes.ensures.nodes c.split_by-word.ensures) c.mark_bits.ensures.adds

pub returns-then-are_marked-clause-follows : goal.returns-then-are_marked-clause-follows
returns-then-are_marked-clause-follows c = already_there c.args.graph.now.nodes c.args.targets.now c.args.queue.now.nodes (c.if-are_marked.ensures refl)

pub returns-then-are_marked-clause-grows : goal.returns-then-are_marked-clause-grows
returns-then-are_marked-clause-grows c = grows-none (Controls c.args.graph.now.nodes) c.args.queue.now.nodes
