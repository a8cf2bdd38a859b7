use Rattle.std.proofs.Common.{◌∙◌, [], sym}
use Rattle.std.specs.Borrow.{Bor}
use Rattle.std.proofs.lemmas.List.Folds.{flat_map-map}
use Rattle.call_strings.specs.declared.context.Node.{Node}
use Rattle.abs_state.specs.declared.state.AbsState.{AbsState}
use Rattle.transfer_flow.specs.Successors.{placed_of, states_of}
use Rattle.access_facts.specs.Facts.{facts_of_placed, constraints}
use Rattle.access_facts.proofs.LoopLemmas.{flat_step, flat_end}
use Rattle.access_facts.proofs.cuts.constraints.Goals as goal

pub loop-other-preserved : goal.loop-other-preserved
loop-other-preserved c =
    let p = c.args.program.now in
    flat_step (λ (o : Bor Node × Bor AbsState). facts_of_placed p.image.now p.settings.now (states_of p []) (placed_of o)) c.args.placed.now c.loop-other.other-index c.other-item.result c.loop-other.facts.items _ _ c.loop-other-test.true
    c.other-item.is c.in_ok-push_node.ensures c.loop-other.invariant

pub returns : goal.returns
unfolding constraints
returns c =
    let p = c.args.program.now in
    flat_end (λ (o : Bor Node × Bor AbsState). facts_of_placed p.image.now p.settings.now (states_of p []) (placed_of o)) c.args.placed.now c.loop-other.other-index c.loop-other.facts.items _ c.loop-other-test.false c.loop-other.invariant
    ∙ sym (flat_map-map (facts_of_placed p.image.now p.settings.now (states_of p [])) placed_of c.args.placed.now)
