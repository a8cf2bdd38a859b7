use Rattle.std.proofs.Common.{◌≡◌, ◌++◌, drop}
use Rattle.std.specs.Prelude.{map}
use Rattle.image_map.specs.Regions.{number}
use Rattle.abs_semantics.specs.declared.parts.Known.{Known}
use Rattle.access_facts.proofs.numbers.push_keys.Given as goal

abbrev pub invariant-loop-block : goal.invariant-loop-block
invariant-loop-block l =
    l.found.items ++ map (λ (k : Known). number k.region) (drop l.block-index l.blocks) ≡ l.initial.found.items ++ map (λ (k : Known). number k.region) l.blocks
