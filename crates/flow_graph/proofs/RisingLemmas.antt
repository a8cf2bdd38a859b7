-- Lists of numbers that rise, made one number at a time.
use Rattle.std.proofs.Common.{◌≡◌, ◌≢◌, ◌⊎◌, inl, inr, ⊎_elim, ℕ, ◌+◌, ◌<◌, ◌≤◌, Bool, true, false, cond, List, [], ◌∷◌, ◌++◌, length, get_or, take, refl, sym, ◌∙◌, ap, subst, arith, IsTrue, length-append}
use Rattle.std.specs.Prelude.{◌↔◌, All, Contains, slice_index}
use Rattle.std.specs.List.Sorted.{IsStrictlyIncreasing}
use Rattle.std.proofs.lemmas.Bool.{cases_eq}
use Rattle.std.proofs.lemmas.List.{get_or_append_left, get_or_push}
use Rattle.std.proofs.lemmas.List.Elements.{All-push, All-weaker, All-get_or, Contains-append_left, Contains-push, Contains-push_cases}

-- a number above all others goes last
pub rising-push : (xs : List ℕ) (x : ℕ) → IsStrictlyIncreasing xs → All (λ y. y < x) xs → IsStrictlyIncreasing (xs ++ x ∷ [])
rising-push xs x rising below k within =
    let len = length-append xs (x ∷ []) in
    ⊎_elim
    (λ last.
    let here : k < length xs = omega (arith, last) in
    let left = get_or_append_left xs (x ∷ []) 0 k here in
    let right = get_or_push xs x 0 (k + 1) (sym last) in
    let low = All-get_or (λ y. y < x) xs k 0 here below in
    subst (λ m. m < get_or (xs ++ x ∷ []) (k + 1) 0) (sym left) (subst (λ m. get_or xs k 0 < m) (sym right) low))
    (λ other.
    let off : k + 1 ≢ length xs = other in
    let there : k + 1 < length xs = omega (arith, len, within, off) in
    let left = get_or_append_left xs (x ∷ []) 0 k (omega (arith, there)) in
    let right = get_or_append_left xs (x ∷ []) 0 (k + 1) there in
    let less : get_or xs k 0 < get_or xs (k + 1) 0 = rising k there in
    subst (λ m. m < get_or (xs ++ x ∷ []) (k + 1) 0) (sym left) (subst (λ m. get_or xs k 0 < m) (sym right) less))
    (cases_eq (k + 1) (length xs))

-- these are the numbers below n of which the fact holds, rising
pub record Lists (P : ℕ → Type 0) (xs : List ℕ) (n : ℕ) : Type 0 where
  pub rising : IsStrictlyIncreasing xs
  pub below : All (λ x. x < n) xs
  pub few : length xs ≤ n
  pub listed : (x : ℕ) → Contains xs x ↔ ((x < n) × P x)

pub lists-none : (P : ℕ → Type 0) → Lists P [] 0
lists-none P = record {
  rising = λ k within. absurd (omega (arith, within));
  below = λ k d within. absurd (omega (arith, within));
  few = omega arith;
  listed = λ x. (λ among. let within : among.0 < 0 = among.1 in absurd (omega (arith, within)), λ low. let within : x < 0 = low.0 in absurd (omega (arith, within)));
}

lists-push : (P : ℕ → Type 0) (xs : List ℕ) (n : ℕ) → P n → Lists P xs n → Lists P (xs ++ n ∷ []) (n + 1)
lists-push P xs n holds l = record {
  rising = rising-push xs n l.rising l.below;
  below = All-push (λ x. x < n + 1) xs n (All-weaker (λ x. x < n) (λ x. x < n + 1) (λ x low. omega (arith, low)) xs l.below) (omega arith);
  few = let few = l.few in omega (arith, length-append xs (n ∷ []), few);
  listed = λ x. (
    λ among. ⊎_elim (λ old. let was = (l.listed x).0 old in ((let low : x < n = was.0 in omega (arith, low)), was.1))
        (λ same. ((omega (arith, same)), subst (λ y. P y) same holds))
        (Contains-push_cases xs n x among),
    λ low. ⊎_elim (λ same. subst (λ y. Contains (xs ++ n ∷ []) y) (sym same) (Contains-push xs n))
        (λ other. Contains-append_left xs (n ∷ []) x ((l.listed x).1 ((let within : x < n + 1 = low.0 in let off : x ≢ n = other in omega (arith, within, off)), low.1)))
        (cases_eq x n),
  );
}

lists-skip : (P : ℕ → Type 0) (xs : List ℕ) (n : ℕ) → ¬ P n → Lists P xs n → Lists P xs (n + 1)
lists-skip P xs n fails l = record {
  rising = l.rising;
  below = All-weaker (λ x. x < n) (λ x. x < n + 1) (λ x low. omega (arith, low)) xs l.below;
  few = let few = l.few in omega (arith, few);
  listed = λ x. (
    λ among. let was = (l.listed x).0 among in ((let low : x < n = was.0 in omega (arith, low)), was.1),
    λ low. (l.listed x).1 (⊎_elim (λ same. absurd (fails (subst (λ y. P y) same low.1))) (λ other. let within : x < n + 1 = low.0 in let off : x ≢ n = other in omega (arith, within, off)) (cases_eq x n), low.1),
  );
}

-- the next number is put at the end where the fact holds of it
pub lists-more : (P : ℕ → Type 0) (xs ys : List ℕ) (n : ℕ) (holds : Bool) → IsTrue holds ↔ P n → ys ≡ cond holds (xs ++ n ∷ []) xs → Lists P xs n → Lists P ys (n + 1)
lists-more P xs ys n true holds is l = subst (λ zs. Lists P zs (n + 1)) (sym is) (lists-push P xs n (holds.0 refl) l)
lists-more P xs ys n false holds is l = subst (λ zs. Lists P zs (n + 1)) (sym is) (lists-skip P xs n (λ p. let on = holds.1 p in absurd (cc)) l)
