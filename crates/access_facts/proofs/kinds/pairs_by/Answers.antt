use Rattle.std.proofs.Common.{◌∙◌, ◌++◌, ap, map}
use Rattle.std.specs.Borrow.{Bor}
use Rattle.call_strings.specs.declared.context.Node.{Node}
use Rattle.abs_state.specs.declared.state.AbsState.{AbsState}
use Rattle.transfer_flow.specs.Successors.{placed_of, states_of}
use Rattle.access_facts.specs.Kinds.{tells}
use Rattle.access_facts.proofs.FlowLemmas.{pair_step, pair_end, paired_map}
use Rattle.access_facts.proofs.kinds.pairs_by.Goals as goal

pub loop-other-preserved : goal.loop-other-preserved
loop-other-preserved c =
    let p = c.args.program.now in
    let n = c.loop-other.number in
    pair_step (λ (o : Bor Node × Bor AbsState). tells c.args.told p.image.now p.settings.now (states_of p c.args.placed.now) (placed_of o)) n c.in_ok-number.number c.args.placed.now c.loop-other.other-index c.other-item.result
    c.loop-other.pairs.items c.push_pairs.new.pairs.items _ c.loop-other-test.true c.other-item.is
    (c.in_ok-push_pairs.ensures ∙ ap (λ ns. c.loop-other.pairs.items ++ map (λ k. (n, k)) ns) (c.as_slice.ensures ∙ c.in_ok-numbers.ensures)) c.in_ok-number.ensures c.loop-other.invariant

pub returns : goal.returns
returns c =
    let p = c.args.program.now in
    let s = states_of p c.args.placed.now in
    c.from_vec.ensures
    ∙ pair_end (λ (o : Bor Node × Bor AbsState). tells c.args.told p.image.now p.settings.now s (placed_of o)) c.loop-other.number c.args.placed.now c.loop-other.other-index c.loop-other.pairs.items _ c.loop-other-test.false
    c.loop-other.invariant
    ∙ paired_map (tells c.args.told p.image.now p.settings.now s) placed_of 0 c.args.placed.now
