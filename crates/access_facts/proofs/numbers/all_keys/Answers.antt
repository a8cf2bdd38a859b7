use Rattle.std.proofs.Common.{◌∙◌, ◌++◌, ap, map}
use Rattle.std.specs.Borrow.{Bor}
use Rattle.image_map.specs.Regions.{number}
use Rattle.abs_semantics.specs.declared.parts.Known.{Known}
use Rattle.call_strings.specs.declared.context.Node.{Node}
use Rattle.abs_state.specs.declared.state.AbsState.{AbsState}
use Rattle.transfer_flow.specs.Successors.{placed_of}
use Rattle.access_facts.specs.Places.{keys_in}
use Rattle.access_facts.proofs.LoopLemmas.{flat_step, flat_end}
use Rattle.access_facts.proofs.numbers.all_keys.Goals as goal

pub loop-other-preserved : goal.loop-other-preserved
loop-other-preserved c =
    flat_step (λ (o : Bor Node × Bor AbsState). keys_in (placed_of o).state) c.args.placed.now c.loop-other.other-index c.other-item.result c.loop-other.found.items _ _ c.loop-other-test.true c.other-item.is
    (c.in_ok-push_keys.ensures ∙ ap (λ ks. c.loop-other.found.items ++ map (λ (k : Known). number k.region) ks) c.as_slice.ensures) c.loop-other.invariant

pub returns : goal.returns
returns c = flat_end (λ (o : Bor Node × Bor AbsState). keys_in (placed_of o).state) c.args.placed.now c.loop-other.other-index c.loop-other.found.items _ c.loop-other-test.false c.loop-other.invariant
