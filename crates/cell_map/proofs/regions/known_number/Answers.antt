use Rattle.std.proofs.Common.{sym, ◌∙◌}
use Rattle.cell_map.proofs.ListLemmas.{known_here, known_later, known_nowhere}
use Rattle.cell_map.proofs.regions.known_number.Goals as goal

pub returns-then-eq : goal.returns-then-eq
returns-then-eq c = known_here c.args.region.now c.args.entries.now c.loop-k.k-index _ _ c.loop-k-test.true (sym c.eq.ensures ∙ c.if-eq.true) c.loop-k.invariant

pub loop-k-preserved : goal.loop-k-preserved
loop-k-preserved c = known_later c.args.region.now c.args.entries.now c.loop-k.k-index _ _ c.loop-k-test.true (sym c.eq.ensures ∙ c.if-eq.false) c.loop-k.invariant

pub returns : goal.returns
returns c = known_nowhere c.args.region.now c.args.entries.now c.loop-k.k-index _ c.loop-k-test.false c.loop-k.invariant
