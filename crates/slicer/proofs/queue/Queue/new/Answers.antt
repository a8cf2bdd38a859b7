use Rattle.std.proofs.Common.{◌∙◌, ap, length, List, ℕ}
use Rattle.std.proofs.lemmas.List.{length-replicate}
use Rattle.slicer.proofs.QueueLemmas.{queue-none}
use Rattle.slicer.proofs.queue.Queue.new.Goals as goal

pub invariant_of-result : goal.invariant_of-result
invariant_of-result c =
    queue-none c.in_ok-marks.marks.items c.in_ok-list.list.items c.args.size (c.in_ok-marks.ensures.items_if_clones_equal (λ y h. h))
    (ap (λ (xs : List ℕ). length xs) (c.in_ok-list.ensures.items_if_clones_equal (λ y h. h)) ∙ length-replicate c.args.size 0)
