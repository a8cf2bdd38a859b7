-- One thing put among others in order, and many put one by one. The project's own.
use Rattle.std.specs.Prelude.{ℕ, ◌||◌, not, Bool, if◌then◌else◌, List, [], ◌∷◌}
use Rattle.image_map.specs.declared.region.RegionId.{RegionId}
use Rattle.std.specs.Prelude.{Option}
use Rattle.abs_semantics.specs.declared.parts.Known.{Known}
use Rattle.abs_semantics.specs.Joins.{with_known}

-- over the one that is the same, or before the first that it stands before
abbrev pub put_in : {A : Type 0} → (A → Bool) → (A → Bool) → (A → A) → A → List A → List A
put_in same before over new [] = new ∷ []
put_in same before over new (x ∷ xs) =
    if same x then over x ∷ xs else (if before x then x ∷ put_in same before over new xs else new ∷ x ∷ xs)

abbrev pub stops : {A : Type 0} → (A → Bool) → (A → Bool) → A → Bool
stops same before x = same x || not (before x)

-- each put among what becomes of those behind it
unfoldable pub folded : {A B : Type 0} → (A → List B → List B) → List A → List B → List B
folded op [] into = into
folded op (x ∷ xs) into = op x (folded op xs into)

-- the regions of some entries, each with the number that a function gives it, put among others
abbrev pub known_by : (RegionId → Option ℕ) → Known → List Known → List Known
known_by f k ks = with_known k.region (f k.region) ks
