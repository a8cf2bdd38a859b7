use Rattle.std.proofs.Common.{◌∙◌, ◌++◌, ◌∷◌, [], ap}
use Rattle.image_map.specs.Regions.{number}
use Rattle.abs_semantics.specs.declared.parts.Known.{Known}
use Rattle.access_facts.proofs.KeptLemmas.{read_step}
use Rattle.access_facts.proofs.LoopLemmas.{map_end}
use Rattle.access_facts.proofs.numbers.push_keys.Goals as goal

pub loop-block-preserved : goal.loop-block-preserved
loop-block-preserved c =
    read_step (λ (k : Known). number k.region) c.args.blocks.now c.loop-block.block-index _ c.loop-block.found.items c.push.new.self.items _ c.loop-block-test.true
    (c.in_ok-push.ensures.items ∙ ap (λ n. c.loop-block.found.items ++ n ∷ []) c.key_of.ensures) c.loop-block.invariant

pub returns : goal.returns
returns c = map_end (λ (k : Known). number k.region) c.args.blocks.now c.loop-block.block-index c.loop-block.found.items _ c.loop-block-test.false c.loop-block.invariant
