-- The search level by level.
use Rattle.std.proofs.Common.{◌≡◌, ℕ, zero, suc, ◌+◌, true, List, [], ◌∷◌, ◌++◌, map, length, refl, sym, ◌∙◌, ap, append-nil, arith}
use Rattle.std.specs.List.{flat_map}
use Rattle.vset.specs.declared.part.Part.{Part}
use Rattle.abs_semantics.specs.States.{AbsState}
use Rattle.abs_semantics.specs.Resolve.{Met, met_after, levels, next_of, places, rising_onto}
use Rattle.abs_resolve.specs.Search.{Noted, all_noted, is_crowd, crowded, finished}
use Rattle.abs_resolve.proofs.PartLemmas.{more_crowd}
use Rattle.abs_resolve.proofs.OrderLemmas.{risen_longer}
use Rattle.abs_resolve.proofs.NotedLemmas.{noted_append, seen_is, seen_grows}

abbrev pub risen_next : AbsState → ℕ → ℕ → ℕ → List Part → List Part
risen_next a p len followed xs = rising_onto [] (flat_map (next_of a p len followed) xs)

pub nothing_met : (a : AbsState) (p len fuel followed : ℕ) → levels a p len fuel followed [] ≡ []
unfolding levels rising_onto
nothing_met a p len zero followed = refl
nothing_met a p len (suc fuel) followed = nothing_met a p len fuel (followed + 1)

last_level : (a : AbsState) (p len fuel followed : ℕ) (xs : List Part) → fuel ≡ 0 → levels a p len fuel followed xs ≡ map (met_after followed) xs
unfolding levels
last_level a p len zero followed xs is = refl
last_level a p len (suc fuel) followed xs is = absurd (omega arith)

one_level : (a : AbsState) (p len fuel rest followed : ℕ) (xs : List Part) → fuel ≡ rest + 1 → levels a p len fuel followed xs ≡ map (met_after followed) xs ++ levels a p len rest (followed + 1) (risen_next a p len followed xs)
unfolding levels
one_level a p len zero rest followed xs is = absurd (omega arith)
one_level a p len (suc fuel) rest followed xs is = let same : fuel ≡ rest = omega arith in ap (λ k. map (met_after followed) xs ++ levels a p len k (followed + 1) (risen_next a p len followed xs)) same

places_met : (followed : ℕ) (xs : List Part) → places (map (met_after followed) xs) ≡ xs
places_met followed [] = refl
places_met followed (x ∷ xs) = ap (λ ys. x ∷ ys) (places_met followed xs)

-- so much of a level is met, whatever follows
level_first : (a : AbsState) (p len fuel followed : ℕ) (xs : List Part) → (rest : List Met) × (levels a p len fuel followed xs ≡ map (met_after followed) xs ++ rest)
unfolding levels
level_first a p len zero followed xs = ([], sym (append-nil (map (met_after followed) xs)))
level_first a p len (suc fuel) followed xs = (levels a p len fuel (followed + 1) (risen_next a p len followed xs), refl)

-- -- What is told, level by level

pub told_empty : (a : AbsState) (p len fuel followed : ℕ) (n : Noted) (xs : List Part) → length xs ≡ 0 → finished (all_noted a p len n (levels a p len fuel followed xs)) ≡ finished n
unfolding all_noted
told_empty a p len fuel followed n [] is = ap (λ ms. finished (all_noted a p len n ms)) (nothing_met a p len fuel followed)
told_empty a p len fuel followed n (x ∷ xs) is = absurd (omega arith)

pub told_last : (a : AbsState) (p len fuel followed : ℕ) (n : Noted) (xs : List Part) → fuel ≡ 0 → finished (all_noted a p len n (levels a p len fuel followed xs)) ≡ finished (all_noted a p len n (map (met_after followed) xs))
told_last a p len fuel followed n xs is = ap (λ ms. finished (all_noted a p len n ms)) (last_level a p len fuel followed xs is)

pub told_crowd : (a : AbsState) (p len fuel followed : ℕ) (n : Noted) (xs : List Part) → is_crowd (all_noted a p len n (map (met_after followed) xs)).seen ≡ true → finished (all_noted a p len n (levels a p len fuel followed xs)) ≡ crowded
told_crowd a p len fuel followed n xs crowd =
    let first = level_first a p len fuel followed xs in
    ap (λ ms. finished (all_noted a p len n ms)) first.1 ∙ ap finished (noted_append a p len n (map (met_after followed) xs) first.0)
    ∙ seen_grows a p len (all_noted a p len n (map (met_after followed) xs)) first.0 crowd

pub told_on : (a : AbsState) (p len fuel rest followed : ℕ) (n : Noted) (xs : List Part) → fuel ≡ rest + 1 → finished (all_noted a p len n (levels a p len fuel followed xs)) ≡ finished (all_noted a p len (all_noted a p len n (map (met_after followed) xs)) (levels a p len rest (followed + 1) (risen_next a p len followed xs)))
told_on a p len fuel rest followed n xs is =
    ap (λ ms. finished (all_noted a p len n ms)) (one_level a p len fuel rest followed xs is)
    ∙ ap finished (noted_append a p len n (map (met_after followed) xs) (levels a p len rest (followed + 1) (risen_next a p len followed xs)))

-- a level with too many parts makes too many
pub told_too_many : (a : AbsState) (p len fuel rest followed : ℕ) (n : Noted) (xs : List Part) → fuel ≡ rest + 1 → is_crowd (risen_next a p len followed xs) ≡ true → finished (all_noted a p len n (levels a p len fuel followed xs)) ≡ crowded
told_too_many a p len fuel rest followed n xs is crowd =
    let m = all_noted a p len n (map (met_after followed) xs) in
    let next = risen_next a p len followed xs in
    let seen : (all_noted a p len m (map (met_after (followed + 1)) next)).seen ≡ rising_onto m.seen next = seen_is a p len m (map (met_after (followed + 1)) next) ∙ ap (rising_onto m.seen) (places_met (followed + 1) next) in
    let more : is_crowd (rising_onto m.seen next) ≡ true = more_crowd next (rising_onto m.seen next) (risen_longer m.seen (flat_map (next_of a p len followed) xs)) crowd in
    told_on a p len fuel rest followed n xs is ∙ told_crowd a p len rest (followed + 1) m next (ap is_crowd seen ∙ more)
