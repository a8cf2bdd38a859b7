-- Membership of a list, element by element.
use Rattle.std.proofs.Common.{◌≡◌, ℕ, zero, suc, ◌<◌, ◌⊎◌, inl, inr, List, [], ◌∷◌, length, refl, arith}
use Rattle.std.specs.Prelude.{Contains, slice_index_or}

at_cons : {X : Type 0} (k : ℕ) (x : X) (xs : List X) (y : X) → k < length (x ∷ xs) → slice_index_or (x ∷ xs) k y ≡ y → (x ≡ y) ⊎ Contains xs y
at_cons zero x xs y lt is = inl is
at_cons (suc k) x xs y lt is = inr (k, omega arith, is)

pub contains-cases : {X : Type 0} (x : X) (xs : List X) (y : X) → Contains (x ∷ xs) y → (x ≡ y) ⊎ Contains xs y
contains-cases x xs y h = at_cons h.0 x xs y h.1 h.2

pub contains-head : {X : Type 0} (x : X) (xs : List X) → Contains (x ∷ xs) x
contains-head x xs = (zero, omega arith, refl)

pub contains-tail : {X : Type 0} (x : X) (xs : List X) (y : X) → Contains xs y → Contains (x ∷ xs) y
contains-tail x xs y h = (suc h.0, (let lt = h.1 in omega arith), h.2)

pub contains-none : {X : Type 0} (y : X) → Contains [] y → ⊥
contains-none y h = let lt = h.1 in absurd (omega arith)
