use Rattle.std.proofs.Common.{◌∙◌}
use Rattle.abs_semantics.specs.Joins.{with_link}
use Rattle.abs_state.proofs.FoldLemmas.{fold_step, fold_end, links_are}
use Rattle.abs_state.proofs.puts.put_links.Goals as goal

pub loop-l-preserved : goal.loop-l-preserved
loop-l-preserved c =
    fold_step with_link c.loop-l.rest.now c.in-Some.before.now c.in-Some.l.now c.loop-l.links.items _ _ c.in-Some.ensures.cases.0 c.in_ok-put_link.ensures c.loop-l.invariant

pub returns : goal.returns
returns c =
    fold_end with_link c.loop-l.rest.now c.loop-l.links.items _ c.in_default.ensures.cases c.loop-l.invariant ∙ links_are c.args.more.now c.args.links.now.items
