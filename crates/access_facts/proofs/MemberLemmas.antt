-- What is among the picked, and what must be written may be.
use Rattle.std.proofs.Common.{◌≡◌, ⊎_elim, ℕ, zero, suc, ◌+◌, Bool, true, false, cond, List, [], ◌∷◌, Some, refl, sym, subst, ◌∙◌, ap, arith}
use Rattle.std.specs.Prelude.{Contains, slice_get}
use Rattle.std.proofs.lemmas.Bool.{cond_both}
use Rattle.alocs.proofs.MemberLaws.{contains-cases, contains-head, contains-tail, contains-none}
use Rattle.access_facts.specs.Places.{picked}

-- the k-th thing is picked, and the number is its own
pub record IsPicked {A : Type 0} (test : A → Bool) (n : ℕ) (xs : List A) (m : ℕ) : Type 0 where
  pub number : ℕ
  pub thing : A
  pub there : slice_get xs number ≡ Some thing
  pub picked : test thing ≡ true
  pub is : m ≡ n + number

behind : {A : Type 0} (test : A → Bool) (n m : ℕ) (x : A) (xs : List A) → IsPicked test (n + 1) xs m → IsPicked test n (x ∷ xs) m
behind test n m x xs h = let on = h.is in record { number = suc h.number; thing = h.thing; there = h.there; picked = h.picked; is = omega (arith, on) }

pub picked_has : {A : Type 0} (test : A → Bool) (n m : ℕ) (xs : List A) → Contains (picked test n xs) m → IsPicked test n xs m
unfolding picked
picked_has test n m [] has = absurd (contains-none m has)
picked_has {A} test n m (x ∷ xs) has = by_test (test x) refl (λ later. behind test n m x xs (picked_has test (n + 1) m xs later)) has
  where
    by_test : (b : Bool) → test x ≡ b → (Contains (picked test (n + 1) xs) m → IsPicked test n (x ∷ xs) m) → Contains (cond b (n ∷ picked test (n + 1) xs) (picked test (n + 1) xs)) m → IsPicked test n (x ∷ xs) m
    by_test true is rest has =
        ⊎_elim (λ (same : n ≡ m). record { number = 0; thing = x; there = refl; picked = is; is = omega (arith, same) }) rest (contains-cases n (picked test (n + 1) xs) m has)
    by_test false is rest has = rest has

pub has_picked : {A : Type 0} (test : A → Bool) (n k : ℕ) (x : A) (xs : List A) → slice_get xs k ≡ Some x → test x ≡ true → Contains (picked test n xs) (n + k)
unfolding picked
has_picked test n k x [] there is = absurd (cc there)
has_picked {A} test n zero x (y ∷ ys) there is =
    let same : y ≡ x = cc there in
    let yes : test y ≡ true = ap test same ∙ is in
    let e : n ≡ n + 0 = omega arith in
    subst (Contains (cond (test y) (n ∷ picked test (n + 1) ys) (picked test (n + 1) ys))) e
    (subst (λ b. Contains (cond b (n ∷ picked test (n + 1) ys) (picked test (n + 1) ys)) n) (sym yes) (contains-head n (picked test (n + 1) ys)))
has_picked {A} test n (suc k) x (y ∷ ys) there is =
    let e : n + 1 + k ≡ n + suc k = omega arith in
    let rest : Contains (picked test (n + 1) ys) (n + suc k) = subst (Contains (picked test (n + 1) ys)) e (has_picked test (n + 1) k x ys there is) in
    cond_both (test y) (n ∷ picked test (n + 1) ys) (picked test (n + 1) ys) (λ ns. Contains ns (n + suc k)) (λ _. contains-tail n (picked test (n + 1) ys) (n + suc k) rest) (λ _. rest)
