use Rattle.std.proofs.Common.{◌++◌, ◌∷◌, [], ◌∙◌, ap}
use Rattle.abs_semantics.specs.declared.parts.Link.{Link}
use Rattle.call_states.proofs.LoopLemmas.{map_step, map_end}
use Rattle.call_states.proofs.lists.all_aged.Goals as goal

pub loop-link-preserved : goal.loop-link-preserved
loop-link-preserved c =
    map_step (λ (m : Link). record m { aged = c.args.now }) c.args.links.now c.loop-link.link-index c.link-item.result c.loop-link.out.items _ _ c.loop-link-test.true c.link-item.is
    (c.in_ok-push.ensures.items ∙ ap (λ (m : Link). c.loop-link.out.items ++ m ∷ []) c.as_aged.ensures) c.loop-link.invariant

pub returns : goal.returns
returns c = map_end (λ (m : Link). record m { aged = c.args.now }) c.args.links.now c.loop-link.link-index c.loop-link.out.items _ c.loop-link-test.false c.loop-link.invariant
