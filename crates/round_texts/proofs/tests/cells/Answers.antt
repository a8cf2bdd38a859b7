use Rattle.std.proofs.Common.{pos, refl, arith}
use Rattle.std.proofs.lemmas.Int.{ints}
use Rattle.image_map.specs.declared.region.RegionId.TheVariants.{Global, Frame}
use Rattle.image_map.specs.Regions.{region_cmp}
use Rattle.alocs.proofs.ListLemmas.{two_lists}
use Rattle.access_facts.proofs.RowLemmas.{image_is_inside}
use Rattle.round_texts.proofs.tests.cells.Goals as goal

pub from_cuts-requires-clause-lists : goal.from_cuts-requires-clause-lists
unfolding region_cmp
from_cuts-requires-clause-lists c =
    two_lists c.new-lists.result.items c.push.new.self.items c.push-2.new.self.items Global (Frame 4096) (pos 4100) (pos 4104) (pos 0) (pos 4)
    c.new-lists.ensures.items c.in_ok-push.ensures.items c.in_ok-push-2.ensures.items c.in_ok-global.ensures c.in_ok-frame.ensures (omega (arith, ints)) (omega (arith, ints)) refl

pub returns : goal.returns
returns c = image_is_inside c.in_ok-image.image.segments c.in_ok-cells.cells.image c.in_ok-image.ensures.segments c.in_ok-cells.ensures.image
