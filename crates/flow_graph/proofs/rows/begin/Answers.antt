use Rattle.std.proofs.Common.{refl}
use Rattle.flow_graph.proofs.RowLemmas.{begins-none, begins-more}
use Rattle.flow_graph.proofs.rows.begin.Goals as goal

pub loop-k-init : goal.loop-k-init
loop-k-init c = λ n j. begins-none c.fill.new.self c.args.nodes.now _ n j (c.fill.ensures.after (λ y h. h))

pub loop-k-preserved : goal.loop-k-preserved
loop-k-preserved c = λ n j.
    begins-more c.loop-k.rows c.set_bit.new.rows c.args.nodes.now _ c.loop-k.k n j refl c.set_bit.auto.rows (c.loop-k.invariant n j) (c.set_bit.ensures n j)
