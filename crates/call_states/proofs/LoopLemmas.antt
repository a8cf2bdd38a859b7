-- Loops that put what becomes of each element behind what is there.
use Rattle.std.proofs.Common.{◌≡◌, ℕ, ◌+◌, ◌<◌, ◌≤◌, Bool, true, false, cond, List, [], ◌∷◌, ◌++◌, length, drop, get_or, refl, sym, ◌∙◌, ap, append_assoc, append-nil}
use Rattle.std.specs.Prelude.{map, filter}
use Rattle.std.specs.List.{flat_map}
use Rattle.std.proofs.lemmas.List.{drop_all}
use Rattle.cell_map.proofs.ListLemmas.{more}

module _ {A B : Type 0} where
  pub flat_step : (g : A → List B) (xs : List A) (i : ℕ) (x : A) (out next whole : List B) → i < length xs → x ≡ get_or xs i x → next ≡ out ++ g x
      → out ++ flat_map g (drop i xs) ≡ whole → next ++ flat_map g (drop (i + 1) xs) ≡ whole
  flat_step g xs i x out next whole lt here is h =
      ap (λ t. t ++ flat_map g (drop (i + 1) xs)) is ∙ append_assoc out (g x) (flat_map g (drop (i + 1) xs))
      ∙ ap (λ t. out ++ flat_map g t) (sym (more xs i x lt here)) ∙ h

  pub flat_end : (g : A → List B) (xs : List A) (i : ℕ) (out whole : List B) → length xs ≤ i → out ++ flat_map g (drop i xs) ≡ whole → out ≡ whole
  flat_end g xs i out whole le h = sym (append-nil out) ∙ ap (λ t. out ++ flat_map g t) (sym (drop_all i xs le)) ∙ h

  pub map_step : (g : A → B) (xs : List A) (i : ℕ) (x : A) (out next whole : List B) → i < length xs → x ≡ get_or xs i x → next ≡ out ++ g x ∷ []
      → out ++ map g (drop i xs) ≡ whole → next ++ map g (drop (i + 1) xs) ≡ whole
  map_step g xs i x out next whole lt here is h =
      ap (λ t. t ++ map g (drop (i + 1) xs)) is ∙ append_assoc out (g x ∷ []) (map g (drop (i + 1) xs))
      ∙ ap (λ t. out ++ map g t) (sym (more xs i x lt here)) ∙ h

  pub map_end : (g : A → B) (xs : List A) (i : ℕ) (out whole : List B) → length xs ≤ i → out ++ map g (drop i xs) ≡ whole → out ≡ whole
  map_end g xs i out whole le h = sym (append-nil out) ∙ ap (λ t. out ++ map g t) (sym (drop_all i xs le)) ∙ h

pub flat_map_map : {A B C : Type 0} (g : B → List C) (f : A → B) (xs : List A) → flat_map g (map f xs) ≡ flat_map (λ x. g (f x)) xs
flat_map_map g f [] = refl
flat_map_map g f (x ∷ xs) = ap (λ t. g (f x) ++ t) (flat_map_map g f xs)

pub filter_flat : {A : Type 0} (p : A → Bool) (xs : List A) → flat_map (λ x. cond (p x) (x ∷ []) []) xs ≡ filter p xs
filter_flat p [] = refl
filter_flat p (x ∷ xs) = by_test (p x) (filter_flat p xs)
  where
    by_test : (b : Bool) → flat_map (λ y. cond (p y) (y ∷ []) []) xs ≡ filter p xs → cond b (x ∷ []) [] ++ flat_map (λ y. cond (p y) (y ∷ []) []) xs ≡ cond b (x ∷ filter p xs) (filter p xs)
    by_test true h = ap (λ t. x ∷ t) h
    by_test false h = h
