-- Places in their order, and where a search by halves ends.
use Rattle.std.proofs.Common.{◌≡◌, ℕ, zero, suc, ◌<◌, ◌≤◌, Bool, true, false, not, ◌&&◌, ltb, ⊎_elim, List, [], ◌∷◌, map, length, get_or, refl, sym, ap, ◌∙◌, arith}
use Rattle.std.specs.Prelude.{Option, Some, None, option_map, slice_get, if◌then◌else◌}
use Rattle.std.specs.List.Sorted.{IsPartitionedBy, IsPartitionPoint}
use Rattle.std.specs.Option.{option_map_or}
use Rattle.std.proofs.lemmas.Bool.{ltb-true, ltb-false, cases_Bool, cond-true, cond-false, and_right, and_left}
use Rattle.std.proofs.lemmas.Option.{slice_get-get_or, slice_get_past}
use Rattle.sweeps.specs.Meaning.{Meaning, IsLawful}
use Rattle.sweeps.specs.Sweeps.{is_same_place, has_above, IsAhead, AreRising}
use Rattle.sweeps.specs.Kept.{rank_by, number_of}

-- -- A search by halves

-- where the search ends, as many stand before as pass the test
pub rank_at_point : {X : Type 0} (test : X → Bool) (xs : List X) (i : ℕ) → i ≤ length xs → IsPartitionPoint (λ x. test x ≡ true) (λ x. test x ≡ false) xs i → i ≡ rank_by test xs
unfolding rank_by
rank_at_point test [] zero within point = refl
rank_at_point test [] (suc i) within point = absurd (omega arith)
rank_at_point test (x ∷ xs) zero within point = sym (cond-false (test x) _ _ (point.1 0 x (omega arith) (omega arith)))
rank_at_point test (x ∷ xs) (suc i) within point =
    ap suc (rank_at_point test xs i (omega arith) (λ k d low high. point.0 (suc k) d (omega arith) (omega arith), λ k d low high. point.1 (suc k) d (omega arith) (omega arith)))
    ∙ sym (cond-true (test x) _ _ (point.0 0 x (omega arith) (omega arith)))

module _ {P S : Type 0} (m : Meaning P S) (h : IsLawful m) where
  ahead_at : {X : Type 0} (place : X → P) (p : P) (xs : List X) → IsAhead m p (map place xs) → (j : ℕ) (d : X) → j < length xs → m.before p (place (get_or xs j d)) ≡ true
  ahead_at place p [] a j d within = absurd (omega arith)
  ahead_at place p (x ∷ xs) a zero d within = a.0
  ahead_at place p (x ∷ xs) a (suc j) d within = ahead_at place p xs a.1 j d (omega arith)

  parted_cons : {X : Type 0} (place : X → P) (p : P) (x : X) (xs : List X) → IsAhead m (place x) (map place xs) → IsPartitionedBy (λ (x : X). m.before (place x) p) xs
      → (i j : ℕ) (d : X) → i ≤ j → j < length (x ∷ xs) → m.before (place (get_or (x ∷ xs) j d)) p ≡ true → m.before (place (get_or (x ∷ xs) i d)) p ≡ true
  parted_cons place p x xs ahead rest zero zero d le within up = up
  parted_cons place p x xs ahead rest zero (suc j) d le within up = h.transitive (place x) (place (get_or xs j d)) p (ahead_at place (place x) xs ahead j d (omega arith)) up
  parted_cons place p x xs ahead rest (suc i) zero d le within up = absurd (omega arith)
  parted_cons place p x xs ahead rest (suc i) (suc j) d le within up = rest i j d (omega arith) (omega arith) up

  -- in rising places those before one come first
  pub parted : {X : Type 0} (place : X → P) (p : P) (xs : List X) → AreRising m (map place xs) → IsPartitionedBy (λ (x : X). m.before (place x) p) xs
  parted place p [] rising = λ i j d le within up. absurd (omega arith)
  parted place p (x ∷ xs) rising = parted_cons place p x xs rising.0 (parted place p xs rising.1)

  -- -- Places that are the same

  pub before_not_same : (p q : P) → m.before p q ≡ true → is_same_place m p q ≡ false
  before_not_same p q b = and_left (not (m.before p q)) (not (m.before q p)) (ap not b)

  pub behind_not_same : (p q : P) → m.before q p ≡ true → is_same_place m p q ≡ false
  behind_not_same p q b = and_right (not (m.before p q)) (not (m.before q p)) (ap not b)

  pub neither_same : (p q : P) → m.before p q ≡ false → m.before q p ≡ false → is_same_place m p q ≡ true
  neither_same p q a b = rw (a, b) refl

  -- -- Where a place of a table is

  module _ {X : Type 0} (place : X → P) (state : X → S) where
    abbrev table : List X → List (P × S)
    table xs = map (λ x. (place x, state x)) xs

    -- none of the places behind one is the same
    none_ahead : (p q : P) (s : S) (xs : List X) → m.before p q ≡ true → IsAhead m q (map place xs) → has_above m (table xs) (p, s) ≡ false
    unfolding has_above
    none_ahead p q s [] b a = refl
    none_ahead p q s (x ∷ xs) b a =
        cond-false (is_same_place m p (place x)) _ _ (before_not_same p (place x) (h.transitive p q (place x) b a.0)) ∙ none_ahead p q s xs b a.1

    abbrev found : P → S → Option X → Bool
    found p s o = option_map_or (λ x. not (m.before p (place x)) && m.below s (state x)) o false

    at_head : (p : P) (s : S) (x : X) (xs : List X) → IsAhead m (place x) (map place xs) → m.before (place x) p ≡ false → has_above m (table (x ∷ xs)) (p, s) ≡ found p s (Some x)
    unfolding has_above
    at_head p s x xs ahead b = ⊎_elim behind here (cases_Bool (m.before p (place x)))
      where
        Goal : Type 0
        Goal = has_above m (table (x ∷ xs)) (p, s) ≡ found p s (Some x)

        behind : m.before p (place x) ≡ true → Goal
        behind a = cond-false (is_same_place m p (place x)) _ _ (before_not_same p (place x) a) ∙ none_ahead p (place x) s xs a ahead ∙ sym (and_left (not (m.before p (place x))) (m.below s (state x)) (ap not a))

        here : m.before p (place x) ≡ false → Goal
        here a = cond-true (is_same_place m p (place x)) _ _ (neither_same p (place x) a b) ∙ rw a refl

    -- the place is where the search for it ends, or nowhere
    pub above_at : (p : P) (s : S) (xs : List X) → AreRising m (map place xs) → has_above m (table xs) (p, s) ≡ found p s (slice_get xs (rank_by (λ x. m.before (place x) p) xs))
    unfolding has_above rank_by
    above_at p s [] rising = refl
    above_at p s (x ∷ xs) rising =
        let rest = above_at p s xs rising.1 in
        ⊎_elim (λ (b : m.before (place x) p ≡ true). cond-false (is_same_place m p (place x)) _ _ (behind_not_same p (place x) b) ∙ rest ∙ ap (λ n. found p s (slice_get (x ∷ xs) n)) (sym (cond-true (m.before (place x) p) _ _ b)))
        (λ (b : m.before (place x) p ≡ false). at_head p s x xs rising.0 b ∙ ap (λ n. found p s (slice_get (x ∷ xs) n)) (sym (cond-false (m.before (place x) p) _ _ b)))
        (cases_Bool (m.before (place x) p))

    pub none_found : (p : P) (s : S) (xs : List X) (n : ℕ) → AreRising m (map place xs) → n ≡ rank_by (λ x. m.before (place x) p) xs → false ≡ ltb n (length xs) → false ≡ has_above m (table xs) (p, s)
    none_found p s xs n rising at is = sym (above_at p s xs rising ∙ ap (found p s) (ap (slice_get xs) (sym at) ∙ slice_get_past xs n (ltb-false n (length xs) (sym is))))

    one_found : (p : P) (s : S) (xs : List X) (n : ℕ) (x : X) → AreRising m (map place xs) → n ≡ rank_by (λ x. m.before (place x) p) xs → true ≡ ltb n (length xs) → x ≡ get_or xs n x
        → has_above m (table xs) (p, s) ≡ not (m.before p (place x)) && m.below s (state x)
    one_found p s xs n x rising at is here =
        above_at p s xs rising ∙ ap (found p s) (ap (slice_get xs) (sym at) ∙ slice_get-get_or xs n x (ltb-true n (length xs) (sym is)) ∙ ap Some (sym here))

    pub later_found : (p : P) (s : S) (xs : List X) (n : ℕ) (x : X) → AreRising m (map place xs) → n ≡ rank_by (λ x. m.before (place x) p) xs → true ≡ ltb n (length xs) → x ≡ get_or xs n x
        → m.before p (place x) ≡ true → false ≡ has_above m (table xs) (p, s)
    later_found p s xs n x rising at is here b = sym (one_found p s xs n x rising at is here ∙ and_left (not (m.before p (place x))) (m.below s (state x)) (ap not b))

    pub same_found : (p : P) (s : S) (xs : List X) (n : ℕ) (x : X) → AreRising m (map place xs) → n ≡ rank_by (λ x. m.before (place x) p) xs → true ≡ ltb n (length xs) → x ≡ get_or xs n x
        → m.before p (place x) ≡ false → m.below s (state x) ≡ has_above m (table xs) (p, s)
    same_found p s xs n x rising at is here b = sym (one_found p s xs n x rising at is here ∙ ap (λ v. not v && m.below s (state x)) b)

  module _ {X : Type 0} (place : X → P) where
    number_ahead : (p q : P) (xs : List X) → m.before p q ≡ true → IsAhead m q (map place xs) → number_of m (map place xs) p ≡ None
    unfolding number_of
    number_ahead p q [] b a = refl
    number_ahead p q (x ∷ xs) b a =
        cond-false (is_same_place m (place x) p) _ _ (behind_not_same (place x) p (h.transitive p q (place x) b a.0)) ∙ ap (option_map suc) (number_ahead p q xs b a.1)

    -- the number of a place, told by where the search for it ends
    abbrev number_by : P → Option X → ℕ → Option ℕ
    number_by p None n = None
    number_by p (Some x) n = if m.before p (place x) then None else Some n

    later : (p : P) (o : Option X) (n : ℕ) → option_map suc (number_by p o n) ≡ number_by p o (suc n)
    later p None n = refl
    later p (Some x) n = by (m.before p (place x))
      where
        by : (b : Bool) → option_map suc (if b then None else Some n) ≡ (if b then None else Some (suc n))
        by true = refl
        by false = refl

    number_head : (p : P) (x : X) (xs : List X) → IsAhead m (place x) (map place xs) → m.before (place x) p ≡ false → number_of m (map place (x ∷ xs)) p ≡ number_by p (Some x) 0
    unfolding number_of
    number_head p x xs ahead b = ⊎_elim behind here (cases_Bool (m.before p (place x)))
      where
        Goal : Type 0
        Goal = number_of m (map place (x ∷ xs)) p ≡ number_by p (Some x) 0

        behind : m.before p (place x) ≡ true → Goal
        behind a = cond-false (is_same_place m (place x) p) _ _ (behind_not_same (place x) p a) ∙ ap (option_map suc) (number_ahead p (place x) xs a ahead) ∙ sym (cond-true (m.before p (place x)) _ _ a)

        here : m.before p (place x) ≡ false → Goal
        here a = cond-true (is_same_place m (place x) p) _ _ (neither_same (place x) p b a) ∙ sym (cond-false (m.before p (place x)) _ _ a)

    number_at : (p : P) (xs : List X) → AreRising m (map place xs) → number_of m (map place xs) p ≡ number_by p (slice_get xs (rank_by (λ x. m.before (place x) p) xs)) (rank_by (λ x. m.before (place x) p) xs)
    unfolding number_of rank_by
    number_at p [] rising = refl
    number_at p (x ∷ xs) rising =
        let rest = number_at p xs rising.1 in
        let n = rank_by (λ x. m.before (place x) p) xs in
        ⊎_elim (λ (b : m.before (place x) p ≡ true). cond-false (is_same_place m (place x) p) _ _ (before_not_same (place x) p b) ∙ ap (option_map suc) rest ∙ later p (slice_get xs n) n
        ∙ ap (λ k. number_by p (slice_get (x ∷ xs) k) k) (sym (cond-true (m.before (place x) p) _ _ b)))
        (λ (b : m.before (place x) p ≡ false). number_head p x xs rising.0 b ∙ ap (λ k. number_by p (slice_get (x ∷ xs) k) k) (sym (cond-false (m.before (place x) p) _ _ b)))
        (cases_Bool (m.before (place x) p))

    pub no_number : (p : P) (xs : List X) (n : ℕ) → AreRising m (map place xs) → n ≡ rank_by (λ x. m.before (place x) p) xs → false ≡ ltb n (length xs) → None ≡ number_of m (map place xs) p
    no_number p xs n rising at is = sym (number_at p xs rising ∙ ap (λ k. number_by p (slice_get xs k) k) (sym at) ∙ ap (λ o. number_by p o n) (slice_get_past xs n (ltb-false n (length xs) (sym is))))

    number_found : (p : P) (xs : List X) (n : ℕ) (x : X) → AreRising m (map place xs) → n ≡ rank_by (λ x. m.before (place x) p) xs → true ≡ ltb n (length xs) → x ≡ get_or xs n x
        → number_of m (map place xs) p ≡ number_by p (Some x) n
    number_found p xs n x rising at is here =
        number_at p xs rising ∙ ap (λ k. number_by p (slice_get xs k) k) (sym at) ∙ ap (λ o. number_by p o n) (slice_get-get_or xs n x (ltb-true n (length xs) (sym is)) ∙ ap Some (sym here))

    pub behind_number : (p : P) (xs : List X) (n : ℕ) (x : X) → AreRising m (map place xs) → n ≡ rank_by (λ x. m.before (place x) p) xs → true ≡ ltb n (length xs) → x ≡ get_or xs n x
        → m.before p (place x) ≡ true → None ≡ number_of m (map place xs) p
    behind_number p xs n x rising at is here b = sym (number_found p xs n x rising at is here ∙ cond-true (m.before p (place x)) _ _ b)

    pub same_number : (p : P) (xs : List X) (n : ℕ) (x : X) → AreRising m (map place xs) → n ≡ rank_by (λ x. m.before (place x) p) xs → true ≡ ltb n (length xs) → x ≡ get_or xs n x
        → m.before p (place x) ≡ false → Some n ≡ number_of m (map place xs) p
    same_number p xs n x rising at is here b = sym (number_found p xs n x rising at is here ∙ cond-false (m.before p (place x)) _ _ b)

    near : (p : P) (xs : List X) (n : ℕ) (x : X) → AreRising m (map place xs) → n < length xs → x ≡ get_or xs n x → m.before p (place x) ≡ false → m.before (place x) p ≡ false
        → Some n ≡ number_of m (map place xs) p
    unfolding number_of
    near p [] n x rising within here a b = absurd (omega arith)
    near p (y ∷ ys) zero x rising within here a b =
        sym (cond-true (is_same_place m (place y) p) _ _ (neither_same (place y) p (ap (λ z. m.before (place z) p) (sym here) ∙ b) (ap (λ z. m.before p (place z)) (sym here) ∙ a)))
    near p (y ∷ ys) (suc n) x rising within here a b =
        let same : place x ≡ p = h.total (place x) p b a in
        let front : m.before (place y) p ≡ true = ap (m.before (place y)) (sym same ∙ ap place here) ∙ ahead_at place (place y) ys rising.0 n x (omega arith) in
        ap (option_map suc) (near p ys n x rising.1 (omega arith) here a b) ∙ sym (cond-false (is_same_place m (place y) p) _ _ (before_not_same (place y) p front))

    -- the row with the same place is the one
    pub near_number : (p : P) (xs : List X) (n : ℕ) (x : X) → AreRising m (map place xs) → true ≡ ltb n (length xs) → x ≡ get_or xs n x → m.before p (place x) ≡ false → m.before (place x) p ≡ false
        → Some n ≡ number_of m (map place xs) p
    near_number p xs n x rising is here a b = near p xs n x rising (ltb-true n (length xs) (sym is)) here a b
