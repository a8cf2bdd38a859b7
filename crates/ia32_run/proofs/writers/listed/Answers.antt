use Rattle.last_writers.proofs.StepLemmas.{writers_rise}
use Rattle.item_list.proofs.ListLaws.{sorted_kept}
use Rattle.ia32_run.proofs.writers.listed.Goals as goal

pub returns-clause-rising : goal.returns-clause-rising
returns-clause-rising c = writers_rise c.sort_unstable.new.self.items c.dedup.new.self.items c.sort_unstable.ensures.sorted c.dedup.ensures.filtered

pub returns-clause-same : goal.returns-clause-same
returns-clause-same c = λ i. sorted_kept c.args.found.items c.sort_unstable.new.self.items c.dedup.new.self.items i c.sort_unstable.ensures.permutation c.dedup.ensures.filtered
