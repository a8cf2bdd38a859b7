-- Lists of numbers that rise are told by their elements.
use Rattle.std.proofs.Common.{◌≡◌, ◌⊎◌, inl, inr, ⊎_elim, ℕ, zero, suc, ◌+◌, ◌<◌, List, [], ◌∷◌, refl, sym, subst, arith}
use Rattle.std.specs.Prelude.{Contains, slice_index}
use Rattle.std.specs.List.Sorted.{IsStrictlyIncreasing}
use Rattle.std.proofs.lemmas.List.Kept.{AllPairs-from_increasing}

pub contains_here : (x : ℕ) (xs : List ℕ) → Contains (x ∷ xs) x
contains_here x xs = (0, omega arith, refl)

above : (x : ℕ) (xs : List ℕ) → IsStrictlyIncreasing (x ∷ xs) → (y : ℕ) → Contains xs y → x < y
above x xs rising y c = subst (λ z. x < z) c.2 (AllPairs-from_increasing (x ∷ xs) rising 0 (suc c.0) y (omega arith) (omega (arith, c.1)))

rising_tail : (x : ℕ) (xs : List ℕ) → IsStrictlyIncreasing (x ∷ xs) → IsStrictlyIncreasing xs
rising_tail x xs rising k lt =
    let there : suc k + 1 ≡ suc (k + 1) = omega arith in
    subst (λ n. slice_index xs k < slice_index (x ∷ xs) n) there (rising (suc k) (omega arith))

none_contained : (x : ℕ) → ¬ Contains [] x
none_contained x c = absurd (omega (arith, c.1))

pub contained : (y : ℕ) (ys : List ℕ) (x : ℕ) → Contains (y ∷ ys) x → (y ≡ x) ⊎ Contains ys x
contained y ys x (zero, lt, is) = inl is
contained y ys x (suc k, lt, is) = inr (k, omega arith, is)

contained_later : (y : ℕ) (ys : List ℕ) (x : ℕ) → Contains ys x → Contains (y ∷ ys) x
contained_later y ys x c = (suc c.0, omega (arith, c.1), c.2)

later : (x y : ℕ) (xs ys : List ℕ) → x ≡ y → IsStrictlyIncreasing (x ∷ xs) → ((a : ℕ) → Contains (x ∷ xs) a → Contains (y ∷ ys) a) → (a : ℕ) → Contains xs a → Contains ys a
later x y xs ys same rising forth a c = ⊎_elim
    (λ first. let low = above x xs rising a c in absurd (omega arith))
    (λ there. there)
    (contained y ys a (forth a (contained_later x xs a c)))

same_first : (x y : ℕ) (xs ys : List ℕ) → IsStrictlyIncreasing (x ∷ xs) → IsStrictlyIncreasing (y ∷ ys) → Contains (y ∷ ys) x → Contains (x ∷ xs) y → x ≡ y
same_first x y xs ys rising other c d = ⊎_elim
    (λ is. sym is)
    (λ low. ⊎_elim (λ is. is) (λ high. let a = above y ys other x low in let b = above x xs rising y high in absurd (omega arith)) (contained x xs y d))
    (contained y ys x c)

pub same_rising : (xs ys : List ℕ) → IsStrictlyIncreasing xs → IsStrictlyIncreasing ys → ((a : ℕ) → Contains xs a → Contains ys a) → ((a : ℕ) → Contains ys a → Contains xs a) → xs ≡ ys
same_rising [] [] rising other forth back = refl
same_rising [] (y ∷ ys) rising other forth back = absurd (none_contained y (back y (contains_here y ys)))
same_rising (x ∷ xs) [] rising other forth back = absurd (none_contained x (forth x (contains_here x xs)))
same_rising (x ∷ xs) (y ∷ ys) rising other forth back =
    let first = same_first x y xs ys rising other (forth x (contains_here x xs)) (back y (contains_here y ys)) in
    let rest = same_rising xs ys (rising_tail x xs rising) (rising_tail y ys other) (later x y xs ys first rising forth) (later y x ys xs (sym first) other back) in
    λ i. first i ∷ rest i
