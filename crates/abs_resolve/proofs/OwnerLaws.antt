-- What an abstract state says of owners is all that resolving asks.
use Rattle.std.proofs.Common.{◌≡◌, ℕ, zero, suc, ◌+◌, List, [], ◌++◌, map, refl, ap}
use Rattle.std.specs.List.{flat_map}
use Rattle.vset.specs.declared.part.Part.{Part}
use Rattle.vset.specs.Values.{Values, Top, Parts}
use Rattle.abs_semantics.specs.States.{AbsState}
use Rattle.abs_semantics.specs.Resolve.{resolve, levels, verdict, next_of, rising_onto, met_after, most_links, told_of_few}
use Rattle.abs_resolve.specs.Owned.{owners_of}

same_levels : (a : AbsState) (p len fuel followed : ℕ) (xs : List Part) → levels (owners_of a) p len fuel followed xs ≡ levels a p len fuel followed xs
unfolding levels verdict
same_levels a p len zero followed xs = refl
same_levels a p len (suc fuel) followed xs =
    ap (λ ms. map (met_after followed) xs ++ ms) (same_levels a p len fuel (followed + 1) (rising_onto [] (flat_map (next_of a p len followed) xs)))

pub same_owners : (a : AbsState) (p : ℕ) (v : Values) (len : ℕ) → resolve (owners_of a) p v len ≡ resolve a p v len
unfolding resolve verdict
same_owners a p Top len = refl
same_owners a p (Parts xs) len = ap (told_of_few a p len) (same_levels a p len (most_links a + 1) 0 (rising_onto [] xs))
