use Rattle.std.proofs.Common.{◌∙◌, sym, eq-eqb, eqb-true}
use Rattle.chops.proofs.ChopLemmas.{empty_list, full_list}
use Rattle.chops.proofs.slices.is_empty.Goals as goal

pub returns-clause-none : goal.returns-clause-none
returns-clause-none c = λ is. empty_list c.args.queue.now.nodes (sym c.len.ensures.nodes ∙ eqb-true c.len.result 0 is)

pub returns-clause-some : goal.returns-clause-some
returns-clause-some c = λ off. full_list c.args.queue.now.nodes (λ none. off (eq-eqb c.len.result 0 (c.len.ensures.nodes ∙ none)))
