use Rattle.matched_calls.proofs.PlaceLemmas.{keeping_none}
use Rattle.matched_calls.proofs.places.kept_places.Goals as goal

pub loop-k-init : goal.loop-k-init
loop-k-init c = keeping_none c.args.node.now c.args.places.now
