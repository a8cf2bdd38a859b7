-- Changes and states that have the form that the analysis keeps. The project's own.
use Rattle.std.specs.Prelude.{List, [], ◌∷◌}
use Rattle.std.specs.List.{AllByRecursion}
use Rattle.vset.specs.Values.{CanonicalValues}
use Rattle.abs_steps.specs.Effects.{AbsEffect, puts, turns, frees, steers, saves, fills, learns}
use Rattle.abs_steps.specs.Successors.{Placed}
use Rattle.call_soundness.specs.Maps.{HasForm, IsPlaceOfOne}

-- the values of a change have the one form, and what it remembers is of one thing
abbrev pub IsFormedEffect : AbsEffect → Type 0
IsFormedEffect (puts part n v) = CanonicalValues v
IsFormedEffect (turns f) = Unit {0}
IsFormedEffect frees = Unit {0}
IsFormedEffect (steers set) = Unit {0}
IsFormedEffect (saves at len v) = CanonicalValues v
IsFormedEffect (fills at len v) = Unit {0}
IsFormedEffect (learns f) = IsPlaceOfOne f.place

abbrev pub AreFormedEffects : List AbsEffect → Type 0
AreFormedEffects [] = Unit {0}
AreFormedEffects (e ∷ es) = IsFormedEffect e × AreFormedEffects es

abbrev pub ArePlacedFormed : List Placed → Type 0
ArePlacedFormed ps = AllByRecursion (λ (p : Placed). HasForm p.state) ps
