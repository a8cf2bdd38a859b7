-- What is paired with a number, and what isn't.
use Rattle.std.proofs.Common.{◌≡◌, ⊎_elim, ℕ, zero, suc, ◌+◌, List, [], ◌∷◌, map, Some, refl, sym, ap, subst, arith}
use Rattle.std.specs.Prelude.{Contains, slice_get}
use Rattle.std.proofs.lemmas.List.Elements.{Contains-append_left, Contains-append_right, Contains-append_cases}
use Rattle.std.proofs.lemmas.Option.{none-some, same_Some}
use Rattle.alocs.proofs.MemberLaws.{contains-cases, contains-head, contains-tail, contains-none}
use Rattle.access_facts.specs.Kinds.{paired}

mapped_has : {A B : Type 0} (f : A → B) (x : A) (xs : List A) → Contains xs x → Contains (map f xs) (f x)
mapped_has f x [] has = absurd (contains-none x has)
mapped_has f x (y ∷ ys) has =
    ⊎_elim (λ (e : y ≡ x). subst (λ z. Contains (f y ∷ map f ys) (f z)) e (contains-head (f y) (map f ys))) (λ later. contains-tail (f y) (map f ys) (f x) (mapped_has f x ys later))
    (contains-cases y ys x has)

mapped_back : {A B : Type 0} (f : A → B) (y : B) (xs : List A) → Contains (map f xs) y → (x : A) × Contains xs x × (f x ≡ y)
mapped_back f y [] has = absurd (contains-none y has)
mapped_back f y (x ∷ xs) has =
    ⊎_elim (λ (e : f x ≡ y). (x, contains-head x xs, e)) (λ later. let found = mapped_back f y xs later in (found.0, contains-tail x xs found.0 found.1, found.2))
    (contains-cases (f x) (map f xs) y has)

pub paired_has : {A : Type 0} (tells : A → List ℕ) (first k n : ℕ) (x : A) (xs : List A) → slice_get xs k ≡ Some x → Contains (tells x) n → Contains (paired tells first xs) (first + k, n)
unfolding paired
paired_has tells first k n x [] there has = absurd (none-some x there)
paired_has tells first zero n x (y ∷ ys) there has =
    let e : first ≡ first + 0 = omega arith in
    Contains-append_left (map (λ m. (first, m)) (tells y)) (paired tells (first + 1) ys) (first + 0, n)
    (subst (λ f. Contains {X = ℕ × ℕ} (map (λ m. (first, m)) (tells y)) (f, n)) e
    (mapped_has {B = ℕ × ℕ} (λ m. (first, m)) n (tells y) (subst (λ z. Contains (tells z) n) (sym (same_Some y x there)) has)))
paired_has tells first (suc k) n x (y ∷ ys) there has =
    let e : first + 1 + k ≡ first + suc k = omega arith in
    Contains-append_right (map (λ m. (first, m)) (tells y)) (paired tells (first + 1) ys) (first + suc k, n)
    (subst (λ f. Contains {X = ℕ × ℕ} (paired tells (first + 1) ys) (f, n)) e (paired_has tells (first + 1) k n x ys there has))

-- the thing that tells a number of a pair
pub record IsTold {A : Type 0} (tells : A → List ℕ) (first : ℕ) (xs : List A) (pair : ℕ × ℕ) : Type 0 where
  pub number : ℕ
  pub thing : A
  pub there : slice_get xs number ≡ Some thing
  pub tells_it : Contains (tells thing) pair.1
  pub is : pair.0 ≡ first + number

behind : {A : Type 0} (tells : A → List ℕ) (first : ℕ) (x : A) (xs : List A) (pair : ℕ × ℕ) → IsTold tells (first + 1) xs pair → IsTold tells first (x ∷ xs) pair
behind tells first x xs pair h = let on = h.is in record { number = suc h.number; thing = h.thing; there = h.there; tells_it = h.tells_it; is = omega (arith, on) }

pub paired_back : {A : Type 0} (tells : A → List ℕ) (first : ℕ) (xs : List A) (pair : ℕ × ℕ) → Contains (paired tells first xs) pair → IsTold tells first xs pair
unfolding paired
paired_back tells first [] pair has = absurd (contains-none pair has)
paired_back tells first (x ∷ xs) pair has =
    ⊎_elim
    (λ here.
    let found = mapped_back {B = ℕ × ℕ} (λ m. (first, m)) pair (tells x) here in
    let same : first ≡ pair.0 = ap (λ (p : ℕ × ℕ). p.0) found.2 in
    record {
      number = 0;
      thing = x;
      there = refl;
      tells_it = subst (Contains (tells x)) (ap (λ (p : ℕ × ℕ). p.1) found.2) found.1;
      is = omega (arith, same);
    })
    (λ later. behind tells first x xs pair (paired_back tells (first + 1) xs pair later))
    (Contains-append_cases (map (λ m. (first, m)) (tells x)) (paired tells (first + 1) xs) pair has)
