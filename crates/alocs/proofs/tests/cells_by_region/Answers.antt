use Rattle.std.proofs.Common.{negsuc, pos, refl, arith}
use Rattle.std.proofs.lemmas.Int.{ints}
use Rattle.image_map.specs.declared.region.RegionId.TheVariants.{Global, Frame}
use Rattle.image_map.specs.Regions.{region_cmp}
use Rattle.alocs.proofs.ListLemmas.{two_lists}
use Rattle.alocs.proofs.tests.cells_by_region.Goals as goal

pub from_cuts-requires-clause-lists : goal.from_cuts-requires-clause-lists
unfolding region_cmp
from_cuts-requires-clause-lists c =
    two_lists c.new-lists.result.items c.push.new.self.items c.push-2.new.self.items Global (Frame 7) (pos 4100) (pos 6144) (negsuc 7) (pos 131072)
    c.new-lists.ensures.items c.in_ok-push.ensures.items c.in_ok-push-2.ensures.items c.in_ok-global.ensures c.in_ok-frame.ensures (omega (arith, ints)) (omega (arith, ints)) refl
