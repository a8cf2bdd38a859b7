-- The path that takes the least node at each step is the shortest, and there is one such path.
use Rattle.std.proofs.Common.{◌≡◌, ◌⊎◌, inl, inr, ⊎_elim, ℕ, suc, ◌<◌, ◌≤◌, List, [], ◌∷◌, length, refl, sym, subst, ap, zero, arith}
use Rattle.chops.specs.Paths.{ComesTo, start_of, IsTrace, IsEarlier, IsShortestTrace, ComesIn, TakesLeast, IsLeastTrace}

takes_comes : (Goes : ℕ → ℕ → Type 0) (Start : ℕ → Type 0) (n : ℕ) (ms : List ℕ) → TakesLeast Goes Start n ms → ComesTo Goes n ms × Start (start_of n ms)
takes_comes Goes Start n [] h = (tt, h)
takes_comes Goes Start n (m ∷ ms) h = let r = takes_comes Goes Start m ms h.2 in ((h.0, r.0), r.1)

comes_in : (Goes : ℕ → ℕ → Type 0) (Start : ℕ → Type 0) (n : ℕ) (ms : List ℕ) → ComesTo Goes n ms → Start (start_of n ms) → ComesIn Goes Start (length ms) n
comes_in Goes Start n ms comes starts = record { nodes = ms; many = refl; comes = comes; starts = starts }

none_earlier : (Goes : ℕ → ℕ → Type 0) (Start : ℕ → Type 0) (n : ℕ) (ms us : List ℕ) → TakesLeast Goes Start n ms → length us ≡ length ms → ComesTo Goes n us → Start (start_of n us) → ¬ IsEarlier us ms
none_earlier Goes Start n [] [] h same comes starts e = e
none_earlier Goes Start n [] (u ∷ us) h same comes starts e = e
none_earlier Goes Start n (m ∷ ms) [] h same comes starts e = e
none_earlier Goes Start n (m ∷ ms) (u ∷ us) h same comes starts e =
    let len : length us ≡ length ms = omega arith in
    ⊎_elim
    (λ (lt : u < m). let le = h.1 u comes.0 (subst (λ k. ComesIn Goes Start k u) len (comes_in Goes Start u us comes.1 starts)) in absurd (omega arith))
    (λ q. none_earlier Goes Start m ms us h.2 len (subst (λ v. ComesTo Goes v us) q.0 comes.1) (subst (λ v. Start (start_of v us)) q.0 starts) q.1) e

pub least_is_shortest : (Goes : ℕ → ℕ → Type 0) (Start End : ℕ → Type 0) (n : ℕ) (ms : List ℕ) → IsLeastTrace Goes Start End n ms → IsShortestTrace Goes Start End (n ∷ ms)
least_is_shortest Goes Start End n ms l = record {
  path = let t = takes_comes Goes Start n ms l.takes in (l.ends, t.0, t.1);
  shortest = λ other h. short other h;
  earliest = λ other h same e. early other h same e;
} where
  short : (other : List ℕ) → IsTrace Goes Start End other → length (n ∷ ms) ≤ length other
  short [] h = absurd h
  short (o ∷ os) h = let le = l.fewest o (length os) h.0 (comes_in Goes Start o os h.1 h.2) in omega arith

  early : (other : List ℕ) → IsTrace Goes Start End other → length other ≡ length (n ∷ ms) → ¬ IsEarlier other (n ∷ ms)
  early [] h same e = e
  early (o ∷ os) h same e =
      let len : length os ≡ length ms = omega arith in
      ⊎_elim
      (λ (lt : o < n). let le = l.least o h.0 (subst (λ k. ComesIn Goes Start k o) len (comes_in Goes Start o os h.1 h.2)) in absurd (omega arith))
      (λ q. none_earlier Goes Start n ms os l.takes len (subst (λ v. ComesTo Goes v os) q.0 h.1) (subst (λ v. Start (start_of v os)) q.0 h.2) q.1) e

either_order : (x y : ℕ) → (x < y) ⊎ ((x ≡ y) ⊎ (y < x))
either_order zero zero = inr (inl refl)
either_order zero (suc y) = inl (omega arith)
either_order (suc x) zero = inr (inr (omega arith))
either_order (suc x) (suc y) = ⊎_elim (λ (h : x < y). inl (omega arith)) (λ h. ⊎_elim (λ (e : x ≡ y). inr (inl (ap suc e))) (λ (k : y < x). inr (inr (omega arith))) h) (either_order x y)

trichotomy : (xs ys : List ℕ) → length xs ≡ length ys → IsEarlier xs ys ⊎ ((xs ≡ ys) ⊎ IsEarlier ys xs)
trichotomy [] [] same = inr (inl refl)
trichotomy [] (y ∷ ys) same = absurd (omega arith)
trichotomy (x ∷ xs) [] same = absurd (omega arith)
trichotomy (x ∷ xs) (y ∷ ys) same =
    let rest = trichotomy xs ys (omega arith) in
    ⊎_elim (λ lt. inl (inl lt))
    (λ h. ⊎_elim
    (λ (e : x ≡ y). ⊎_elim (λ k. inl (inr (e, k))) (λ k. ⊎_elim (λ (q : xs ≡ ys). inr (inl (λ i. e i ∷ q i))) (λ q. inr (inr (inr (sym e, q)))) k) rest)
    (λ gt. inr (inr (inl gt))) h)
    (either_order x y)

pub one_shortest : (Goes : ℕ → ℕ → Type 0) (Start End : ℕ → Type 0) (a b : List ℕ) → IsShortestTrace Goes Start End a → IsShortestTrace Goes Start End b → a ≡ b
one_shortest Goes Start End a b p q =
    let le = p.shortest b q.path in
    let ge = q.shortest a p.path in
    let same : length a ≡ length b = omega arith in
    ⊎_elim (λ e. absurd (q.earliest a p.path same e)) (λ h. ⊎_elim (λ e. e) (λ e. absurd (p.earliest b q.path (sym same) e)) h) (trichotomy a b same)
