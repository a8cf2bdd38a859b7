-- The addresses of steps.
use Rattle.std.proofs.Common.{◌≡◌, ◌≢◌, ◌⊎◌, inl, inr, ⊎_elim, ℕ, ◌+◌, ◌<◌, ◌≤◌, Bool, true, false, List, [], ◌∷◌, ◌++◌, length, get_or, refl, sym, ◌∙◌, ap, subst, arith, IsTrue}
use Rattle.std.specs.Prelude.{◌↔◌, Contains, slice_get, Some, if◌then◌else◌}
use Rattle.std.proofs.lemmas.Bool.{cases_eq, false≢true}
use Rattle.std.proofs.lemmas.Option.{same_Some, slice_get_within, slice_get-get_or, slice_get-map}
use Rattle.std.proofs.lemmas.List.{append-nil, length-map}
use Rattle.std.proofs.lemmas.List.Elements.{Contains-append_left, Contains-push, Contains-push_cases}
use Rattle.std.specs.List.Sorted.{IsStrictlyIncreasing}
use Rattle.std.specs.Option.{option_map}
use Rattle.flow_graph.specs.Walks.{IsOn}
use Rattle.ia32_run.specs.declared.log.Occurrence.{Occurrence as Told}
use Rattle.dynamic_slices.specs.Slices.{places_told, IsLastAt, IsNeverAt, IsInSlice, IsDynamicSlice}

-- the address of a step that is there
pub place_at : (steps : List Told) (k : ℕ) (d : Told) → k < length steps → slice_get (places_told steps) k ≡ Some (get_or steps k d).at
place_at steps k d within = slice_get-map (λ (t : Told). t.at) steps k ∙ ap (option_map (λ (t : Told). t.at)) (slice_get-get_or steps k d within)

place_within : (steps : List Told) (k at : ℕ) → slice_get (places_told steps) k ≡ Some at → k < length steps
place_within steps k at is = subst (λ n. k < n) (length-map steps (λ (t : Told). t.at)) (slice_get_within (places_told steps) k at is)

-- -- The last step at an address

-- no step from k on stands there
abbrev pub NoneFrom : List ℕ → ℕ → ℕ → Type 0
NoneFrom places at k = (j : ℕ) → k ≤ j → slice_get places j ≢ Some at

pub none_from_end : (steps : List Told) (at : ℕ) → NoneFrom (places_told steps) at (length steps)
none_from_end steps at j past is = let within = place_within steps j at is in absurd (omega arith)

pub none_from : (steps : List Told) (at k j : ℕ) (d : Told) → k ≡ j + 1 → j < length steps → (get_or steps j d).at ≢ at → NoneFrom (places_told steps) at k → NoneFrom (places_told steps) at j
none_from steps at k j d next within off later i past there =
    ⊎_elim
    (λ same. off (same_Some (get_or steps j d).at at (sym (place_at steps j d within) ∙ ap (slice_get (places_told steps)) (sym same) ∙ there)))
    (λ other. let differs : i ≢ j = other in later i (omega (arith, differs, past, next)) there)
    (cases_eq i j)

pub last_here : (steps : List Told) (at k j : ℕ) (d : Told) → k ≡ j + 1 → j < length steps → (get_or steps j d).at ≡ at → NoneFrom (places_told steps) at k → IsLastAt (places_told steps) at j
last_here steps at k j d next within here later = record {
  stands = place_at steps j d within ∙ ap Some here;
  later = λ i above. later i (omega (arith, above, next));
}

pub none_at_all : (places : List ℕ) (at k : ℕ) → k ≡ 0 → NoneFrom places at k → IsNeverAt places at
none_at_all places at k none later j = later j (omega arith)

-- -- The addresses of marked steps

-- those of the first k steps were found
abbrev pub Found : List Told → List Bool → ℕ → List ℕ → Type 0
Found steps marks k found = (a : ℕ) → Contains found a ↔ ((i : ℕ) × (i < k) × (slice_get (places_told steps) i ≡ Some a) × IsOn marks i)

pub found_none : (steps : List Told) (marks : List Bool) (found : List ℕ) → found ≡ [] → Found steps marks 0 found
found_none steps marks found none a = (
  λ among. let never : among.0 < length found = among.1 in absurd (let empty : length found ≡ 0 = ap (λ (xs : List ℕ). length xs) none in omega arith),
  λ some. let never : some.0 < 0 = some.1 in absurd (omega arith),
)

added : (old : List ℕ) (x a : ℕ) (wanted : Bool) → Contains (old ++ (if wanted then x ∷ [] else [])) a ↔ (Contains old a ⊎ ((wanted ≡ true) × (x ≡ a)))
added old x a true = (λ has. ⊎_elim (λ was. inl was) (λ same. inr (refl, same)) (Contains-push_cases old x a has), λ either. ⊎_elim (λ was. Contains-append_left old (x ∷ []) a was) (λ same. subst (λ b. Contains (old ++ x ∷ []) b) same.1 (Contains-push old x)) either)
added old x a false = (λ has. inl (subst (λ (xs : List ℕ). Contains xs a) (append-nil old) has), λ either. ⊎_elim (λ was. subst (λ (xs : List ℕ). Contains xs a) (sym (append-nil old)) was) (λ never. absurd (false≢true never.0)) either)

pub found_more : (steps : List Told) (marks : List Bool) (k : ℕ) (old new : List ℕ) (d : Told) (wanted : Bool) → k < length steps → IsTrue wanted ↔ IsOn marks k → new ≡ old ++ (if wanted then (get_or steps k d).at ∷ [] else []) → Found steps marks k old → Found steps marks (k + 1) new
found_more steps marks k old new d wanted within on push before a = (
  λ has. ⊎_elim
      (λ was. let i = (before a).0 was in (i.0, (let low : i.0 < k = i.1 in omega (arith, low)), i.2, i.3))
      (λ here. (k, omega arith, place_at steps k d within ∙ ap Some here.1, on.0 here.0))
      ((added old (get_or steps k d).at a wanted).0 (subst (λ (xs : List ℕ). Contains xs a) push has)),
  λ i. let low : i.0 < k + 1 = i.1 in
      subst (λ (xs : List ℕ). Contains xs a) (sym push)
      ((added old (get_or steps k d).at a wanted).1 (⊎_elim
      (λ same. inr (on.1 (subst (λ n. IsOn marks n) same i.3), same_Some (get_or steps k d).at a (sym (place_at steps k d within) ∙ ap (slice_get (places_told steps)) (sym same) ∙ i.2)))
      (λ other. let off : i.0 ≢ k = other in inl ((before a).1 (i.0, omega (arith, off, low), i.2, i.3)))
      (cases_eq i.0 k))),
)

pub found_all : (steps : List Told) (marks : List Bool) (k : ℕ) (found : List ℕ) → length steps ≤ k → Found steps marks k found → (a : ℕ) → Contains found a ↔ ((i : ℕ) × (slice_get (places_told steps) i ≡ Some a) × IsOn marks i)
found_all steps marks k found past all a = (
  λ has. let i = (all a).0 has in (i.0, i.2, i.3),
  λ i. (all a).1 (i.0, (let within = place_within steps i.0 a i.1 in omega arith), i.1, i.2),
)

-- -- The slice

-- the addresses of the marked steps, where those of a slice are marked
pub sliced : (Direct : ℕ → ℕ → Type 0) (steps : List Told) (last : ℕ) (marks : List Bool) (found addresses : List ℕ) → ((n : ℕ) → IsOn marks n ↔ IsInSlice Direct last n)
    → ((a : ℕ) → Contains found a ↔ ((i : ℕ) × (slice_get (places_told steps) i ≡ Some a) × IsOn marks i)) → IsStrictlyIncreasing addresses → ((a : ℕ) → Contains addresses a ↔ Contains found a)
    → IsDynamicSlice Direct (places_told steps) last addresses
sliced Direct steps last marks found addresses on all rising same = record {
  rising = rising;
  listed = λ a. (
    λ has. let i = (all a).0 ((same a).0 has) in (i.0, i.1, (on i.0).0 i.2),
    λ i. (same a).1 ((all a).1 (i.0, i.1, (on i.0).1 i.2)),
  );
}
