use Rattle.std.proofs.Common.{◌≡◌, ℕ, ◌⊎◌, inl, inr, ap, []}
use Rattle.image_map.specs.declared.region.RegionId.{RegionId}
use Rattle.image_map.specs.declared.region.RegionId.TheVariants.{Global, Heap, OldHeap}
use Rattle.abs_semantics.specs.States.{AbsState}
use Rattle.abs_semantics.specs.Resolve.{links_of_region}
use Rattle.abs_resolve.specs.Owned.{state_of}
use Rattle.abs_resolve.proofs.StepLemmas.{no_region_links}
use Rattle.abs_resolve.proofs.levels.put_followed.Goals as goal

no_stack : (a : AbsState) (r : RegionId) → (r ≡ Global) ⊎ (((k : ℕ) × (r ≡ Heap k)) ⊎ ((k : ℕ) × (r ≡ OldHeap k))) → links_of_region a r ≡ []
no_stack a r (inl is) = ap (links_of_region a) is
no_stack a r (inr (inl is)) = ap (links_of_region a) is.1
no_stack a r (inr (inr is)) = ap (links_of_region a) is.1

pub returns-in-Global : goal.returns-in-Global
returns-in-Global c =
    let a = state_of c.args.owners.now in
    no_region_links a c.args.procedure c.args.x.now c.args.parts.now.items (no_stack a c.args.x.now.region c.in-Global.is)
