use Rattle.std.proofs.Common.{◌∙◌}
use Rattle.cell_map.proofs.SelfLemmas.{lone_of_each}
use Rattle.cell_map.proofs.merge.of_both.Goals as goal

pub returns-in-Some : goal.returns-in-Some
returns-in-Some c = c.one.ensures ∙ lone_of_each c.args.both c.in-Some.part c.args.v.now c.args.w.now c.in-Some.ensures.0 c.in-Some.ensures.1 c.in-Some.ensures.2
