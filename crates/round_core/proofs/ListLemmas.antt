-- Lists in which no element passes a test, and one element of a list that was changed.
use Rattle.std.proofs.Common.{◌≡◌, ◌≢◌, ℕ, zero, suc, ◌<◌, Bool, true, false, List, [], ◌∷◌, length, get_or, set, refl, sym, ◌∙◌, ◌==◌, subst, get_or-set_same, get_or-set_other}
use Rattle.std.specs.List.{list_any}
use Rattle.std.proofs.lemmas.Bool.{eq-eqb, eqb-true, true≢false, or_parts}

-- a list in which no element passes, at each place, and one in which some place passes
pub none_at : {X : Type 0} (p : X → Bool) (xs : List X) (d : X) → p d ≡ false → list_any p xs ≡ false → (k : ℕ) → p (get_or xs k d) ≡ false
none_at p [] d fails none k = fails
none_at p (x ∷ xs) d fails none zero = (or_parts (p x) _ none).0
none_at p (x ∷ xs) d fails none (suc k) = none_at p xs d fails (or_parts (p x) _ none).1 k

-- a fact of each element of a list in which one was changed
pub at_set : {X : Type 0} (P : X → Type 0) (xs : List X) (k : ℕ) (y d : X) (m : ℕ) → k < length xs → (m ≡ k → P y) → (m ≢ k → P (get_or xs m d)) → P (get_or (set xs k y) m d)
at_set P xs k y d m h here apart = at (m == k) refl where
  at : (same : Bool) → (m == k) ≡ same → P (get_or (set xs k y) m d)
  at true e = let is : m ≡ k = eqb-true m k e in subst (λ n. P (get_or (set xs k y) n d)) (sym is) (subst P (sym (get_or-set_same xs k y d h)) (here is))
  at false e = let ne : m ≢ k = λ is. true≢false (sym (eq-eqb m k is) ∙ e) in subst P (sym (get_or-set_other xs k m y d ne)) (apart ne)
