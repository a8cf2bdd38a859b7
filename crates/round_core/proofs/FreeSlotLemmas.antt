-- Of `seats + 2` slots one is the word's, each seat reads at most one, and so one is left.
use Rattle.std.proofs.Common.{◌≡◌, ◌≢◌, ℕ, zero, suc, ◌+◌, ◌<◌, ◌≤◌, Bool, true, false, cond, List, [], ◌∷◌, length, get_or, refl, sym, ap, ◌∙◌, ◌==◌, subst, arith}
use Rattle.std.specs.Prelude.{◌||◌}
use Rattle.std.specs.List.{list_any}
use Rattle.std.proofs.lemmas.Bool.{eqb-true, eq-eqb, ne_eqb, true≢false, both_ways}
use Rattle.round_core.specs.State.{LaneState, slot_at, is_free, is_taken_by, is_read_by}
use Rattle.round_core.specs.declared.lane.Slot.TheVariants.{Empty}
use Rattle.round_core.proofs.SlotLemmas.{unread-free}

-- the numbers without n
without : ℕ → List ℕ → List ℕ
without n [] = []
without n (x ∷ xs) = cond (x == n) (without n xs) (x ∷ without n xs)

without_le : (n : ℕ) (xs : List ℕ) → length (without n xs) ≤ length xs
unfolding without
without_le n [] = omega arith
without_le n (x ∷ xs) = elim (x == n) as (λ b. length (cond b (without n xs) (x ∷ without n xs)) ≤ length (x ∷ xs)) [ true ↦ omega (arith, without_le n xs) | false ↦ omega (arith, without_le n xs) ]

without_lt : (n : ℕ) (xs : List ℕ) → list_any (λ m. m == n) xs ≡ true → length (without n xs) < length xs
unfolding without
without_lt n [] h = absurd (true≢false (sym h))
without_lt n (x ∷ xs) h = elim (x == n) as (λ b. (b || list_any (λ m. m == n) xs) ≡ true → length (cond b (without n xs) (x ∷ without n xs)) < length (x ∷ xs)) [ true ↦ λ _. omega (arith, without_le n xs) | false ↦ λ rest. omega (arith, without_lt n xs rest) ] h

without_other : (n k : ℕ) (xs : List ℕ) → k ≢ n → list_any (λ m. m == k) (without n xs) ≡ list_any (λ m. m == k) xs
unfolding without
without_other n k [] ne = refl
without_other n k (x ∷ xs) ne = at (without_other n k xs ne) (x == n) refl where
  at : list_any (λ m. m == k) (without n xs) ≡ list_any (λ m. m == k) xs → (same : Bool) → (x == n) ≡ same → list_any (λ m. m == k) (cond same (without n xs) (x ∷ without n xs)) ≡ list_any (λ m. m == k) (x ∷ xs)
  at rest true e = rest ∙ sym (ap (λ b. b || list_any (λ m. m == k) xs) (ne_eqb x k (λ is. ne (sym is ∙ eqb-true x n e))))
  at rest false e = ap (λ b. (x == k) || b) rest

pub record Missing (n : ℕ) (xs : List ℕ) : Type 0 where
  pub number : ℕ
  pub below : number < n
  pub absent : list_any (λ m. m == number) xs ≡ false

-- fewer than n numbers leave one out that is below n
missing : (n : ℕ) (xs : List ℕ) → length xs < n → Missing n xs
missing zero xs h = absurd (omega arith)
missing (suc n) xs h = at (missing n (without n xs)) (list_any (λ m. m == n) xs) refl where
  at : (length (without n xs) < n → Missing n (without n xs)) → (b : Bool) → list_any (λ m. m == n) xs ≡ b → Missing (suc n) xs
  at fewer false e = record { number = n; below = omega arith; absent = e }
  at fewer true e =
      let found : Missing n (without n xs) = fewer (omega (arith, without_lt n xs e)) in
      record { number = found.number; below = omega (arith, found.below); absent = sym (without_other n found.number xs (λ is. omega (arith, found.below, is))) ∙ found.absent }

-- the place of the first element that passes
place : {X : Type 0} → (X → Bool) → List X → ℕ
place p [] = 0
place p (x ∷ xs) = cond (p x) 0 (suc (place p xs))

place_passes : {X : Type 0} (p : X → Bool) (xs : List X) (d : X) (k : ℕ) → p d ≡ false → p (get_or xs k d) ≡ true → p (get_or xs (place p xs) d) ≡ true
unfolding place
place_passes p [] d k fails h = absurd (both_ways (p d) fails h)
place_passes p (x ∷ xs) d k fails h = at (λ i. place_passes p xs d i fails) (p x) refl k h where
  at : ((i : ℕ) → p (get_or xs i d) ≡ true → p (get_or xs (place p xs) d) ≡ true) → (b : Bool) → p x ≡ b → (k : ℕ) → p (get_or (x ∷ xs) k d) ≡ true → p (get_or (x ∷ xs) (cond b 0 (suc (place p xs))) d) ≡ true
  at rest true e k h = e
  at rest false e zero h = absurd (both_ways (p x) e h)
  at rest false e (suc k) h = rest k h

-- the slots that the seats below n read
read_places : LaneState → ℕ → List ℕ
read_places l zero = []
read_places l (suc n) = place (λ x. is_read_by x n) l.slots ∷ read_places l n

length-read_places : (l : LaneState) (n : ℕ) → length (read_places l n) ≡ n
unfolding read_places
length-read_places l zero = refl
length-read_places l (suc n) = ap suc (length-read_places l n)

read_places-has : (l : LaneState) (n a : ℕ) → a < n → list_any (λ m. m == place (λ x. is_read_by x a) l.slots) (read_places l n) ≡ true
unfolding read_places
read_places-has l zero a h = absurd (omega arith)
read_places-has l (suc n) a h = at (read_places-has l n a) (a == n) refl where
  at : (a < n → list_any (λ m. m == place (λ x. is_read_by x a) l.slots) (read_places l n) ≡ true) → (same : Bool) → (a == n) ≡ same → ((place (λ x. is_read_by x n) l.slots == place (λ x. is_read_by x a) l.slots) || list_any (λ m. m == place (λ x. is_read_by x a) l.slots) (read_places l n)) ≡ true
  at rest true e = ap (λ b. b || list_any (λ m. m == place (λ x. is_read_by x a) l.slots) (read_places l n)) (eq-eqb _ _ (ap (λ b. place (λ x. is_read_by x b) l.slots) (sym (eqb-true a n e))))
  at rest false e =
      let ne : a ≢ n = λ is. true≢false (sym (eq-eqb a n is) ∙ e) in
      ap (λ b. (place (λ x. is_read_by x n) l.slots == place (λ x. is_read_by x a) l.slots) || b) (rest (omega arith)) ∙ or_true _ where
        or_true : (b : Bool) → (b || true) ≡ true
        or_true true = refl
        or_true false = refl

pub record Free (seats : ℕ) (l : LaneState) : Type 0 where
  pub slot : ℕ
  pub below : slot < seats + 2
  pub other : (slot == l.word.slot) ≡ false
  pub free : is_free (slot_at l slot) ≡ true

-- where nobody has taken a slot, the seats that read are below `seats`, and each reads one slot of the lane
pub free_slot : (seats : ℕ) (l : LaneState)
    → ((k a : ℕ) → is_taken_by (slot_at l k) a ≡ true → ⊥)
    → ((k a : ℕ) → is_read_by (slot_at l k) a ≡ true → a < seats)
    → ((k m a : ℕ) → is_read_by (slot_at l k) a ≡ true → is_read_by (slot_at l m) a ≡ true → k ≡ m)
    → Free seats l
free_slot seats l untaken below one =
    let found : Missing (seats + 2) (l.word.slot ∷ read_places l seats) = missing (seats + 2) (l.word.slot ∷ read_places l seats) (omega (arith, length-read_places l seats)) in
    record {
      slot = found.number;
      below = found.below;
      other = ne_eqb found.number l.word.slot (λ is. absurd (true≢false (sym (eq-eqb l.word.slot found.number (sym is)) ∙ or_first _ _ found.absent)));
      free = unread-free (slot_at l found.number) (untaken found.number) (λ a. unread found.number a (or_last _ _ found.absent) (is_read_by (slot_at l found.number) a) refl);
    } where
      or_first : (a b : Bool) → (a || b) ≡ false → a ≡ false
      or_first true b h = h
      or_first false b h = refl

      or_last : (a b : Bool) → (a || b) ≡ false → b ≡ false
      or_last true b h = absurd (true≢false h)
      or_last false b h = h

      unread : (k a : ℕ) → list_any (λ m. m == k) (read_places l seats) ≡ false → (b : Bool) → is_read_by (slot_at l k) a ≡ b → is_read_by (slot_at l k) a ≡ false
      unread k a absent false e = e
      unread k a absent true e =
          let is : k ≡ place (λ x. is_read_by x a) l.slots = one k (place (λ x. is_read_by x a) l.slots) a e (place_passes (λ x. is_read_by x a) l.slots Empty k refl e) in
          absurd (both_ways _ absent (subst (λ j. list_any (λ m. m == j) (read_places l seats) ≡ true) (sym is) (read_places-has l seats a (below k a e))))
