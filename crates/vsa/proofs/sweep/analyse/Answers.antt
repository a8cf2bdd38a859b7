use Rattle.std.proofs.Common.{◌∙◌}
use Rattle.sweeps.specs.Sweeps.{swept}
use Rattle.vsa.specs.Analysis.{meaning_of}
use Rattle.vsa.specs.Swept.{analysed}
use Rattle.vsa.proofs.LentLemmas.{nodes_rise}
use Rattle.vsa.proofs.sweep.analyse.Goals as goal

pub returns-clause-rows : goal.returns-clause-rows
unfolding analysed
returns-clause-rows c = c.in_ok-swept.ensures.rows ∙ (λ i. (swept (meaning_of (c.new-domain.ensures i)) 4096 (c.entry_node-entry.ensures i) (c.in_ok-first.ensures i)).rows)

pub returns-clause-full : goal.returns-clause-full
unfolding analysed
returns-clause-full c = c.in_ok-swept.ensures.full ∙ (λ i. (swept (meaning_of (c.new-domain.ensures i)) 4096 (c.entry_node-entry.ensures i) (c.in_ok-first.ensures i)).full)

pub returns-clause-rising : goal.returns-clause-rising
returns-clause-rising c = nodes_rise c.new-domain.result _ c.in_ok-swept.ensures.rising
