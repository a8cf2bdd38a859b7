use Rattle.std.proofs.Common.{◌∙◌, sym}
use Rattle.slicer.proofs.QueueLemmas.{queue-none}
use Rattle.slicer.proofs.queue.Queue.clear.Goals as goal

pub invariant_of-self : goal.invariant_of-self
invariant_of-self c =
    queue-none c.fill.new.self.items c.self.inside.list.items c.self.inside.marks.len (c.fill.ensures.items (λ y h. h)) (c.self.invariant.room ∙ sym c.self.inside.marks.ok.0)
