use Rattle.std.proofs.Common.{◌∙◌, refl}
use Rattle.slicer.specs.Search.{IsBefore}
use Rattle.slicer.proofs.GrowLemmas.{grows-none, grows-then}
use Rattle.slicer.proofs.search.sweep_back.Goals as goal

pub loop-place-init : goal.loop-place-init
loop-place-init c = record { size = refl; grows = grows-none (IsBefore c.args.pairs.now) c.args.queue.now.nodes }

pub loop-place-preserved : goal.loop-place-preserved
loop-place-preserved c = record {
  size = c.follow_edge.ensures.size ∙ c.loop-place.invariant.size;
  grows = grows-then (IsBefore c.args.pairs.now) c.args.queue.now.nodes c.loop-place.queue.nodes c.follow_edge.new.queue.nodes c.loop-place.invariant.grows c.follow_edge.ensures.grows;
}
