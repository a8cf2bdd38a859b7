use Rattle.std.proofs.Common.{◌∙◌, ◌++◌, ap, map}
use Rattle.access_facts.specs.Kept.{frame_list, heap_list, round_lists}
use Rattle.access_facts.proofs.KeptLemmas.{lists_are}
use Rattle.access_facts.proofs.kept.lists_after.Goals as goal

pub returns : goal.returns
returns c =
    lists_are c.args.image.now c.args.names.now.procedures.items c.args.names.now.keys.items (round_lists c.args.number c.args.cells.now) c.new-lists.result.items c.push_global.new.lists.items c.push_frames.new.lists.items
    c.push_heaps.new.lists.items c.push_round.new.lists.items c.new-lists.ensures.items c.in_ok-push_global.ensures
    (c.in_ok-push_frames.ensures ∙ ap (λ t. c.push_global.new.lists.items ++ map frame_list t) c.as_slice.ensures.value)
    (c.in_ok-push_heaps.ensures ∙ ap (λ t. c.push_frames.new.lists.items ++ map heap_list t) c.as_slice-2.ensures.value) c.in_ok-push_round.ensures
