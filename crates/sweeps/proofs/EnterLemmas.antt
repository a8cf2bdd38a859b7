-- New rows that are put among others.
use Rattle.std.proofs.Common.{◌≡◌, ℕ, zero, suc, Bool, true, false, not, ◌&&◌, List, [], ◌∷◌, ◌++◌, map, take, refl, sym, ap, ◌∙◌}
use Rattle.std.specs.Prelude.{if◌then◌else◌}
use Rattle.std.specs.List.{filter, fold, list_any, AllByRecursion}
use Rattle.std.proofs.lemmas.Bool.{not-false, or_parts}
use Rattle.sweeps.specs.declared.row.Row.{Row}
use Rattle.sweeps.specs.declared.kept.Kept.{Kept}
use Rattle.sweeps.specs.Meaning.{Meaning, IsLawful}
use Rattle.sweeps.specs.Sweeps.{is_same_place, with_arrival, with_row, with_rows, IsAhead, AreRising}
use Rattle.sweeps.specs.Kept.{fresh, with_kept, entered, place_in, rows_of}
use Rattle.sweeps.proofs.PlaceLemmas.{behind_not_same}

-- -- Facts on each element

pub all_map : {X : Type 0} {Q R : X → Type 0} (xs : List X) → ((x : X) → Q x → R x) → AllByRecursion Q xs → AllByRecursion R xs
all_map [] step all = tt
all_map (x ∷ xs) step all = (step x all.0, all_map xs step all.1)

pub all_take : {X : Type 0} (Q : X → Type 0) (n : ℕ) (xs : List X) → AllByRecursion Q xs → AllByRecursion Q (take n xs)
all_take Q zero xs all = tt
all_take Q (suc n) [] all = tt
all_take Q (suc n) (x ∷ xs) all = (all.0, all_take Q n xs all.1)

pub all_append : {X : Type 0} (Q : X → Type 0) (xs ys : List X) → AllByRecursion Q xs → AllByRecursion Q ys → AllByRecursion Q (xs ++ ys)
all_append Q [] ys a b = b
all_append Q (x ∷ xs) ys a b = (a.0, all_append Q xs ys a.1 b)

pub none_pass : {X : Type 0} (test : X → Bool) (xs : List X) → list_any test xs ≡ false → AllByRecursion (λ x. test x ≡ false) xs
none_pass test [] none = tt
none_pass test (x ∷ xs) none = let parts = or_parts (test x) (list_any test xs) none in (parts.0, none_pass test xs parts.1)

pub all_filter : {X : Type 0} (test : X → Bool) (xs : List X) → AllByRecursion (λ x. test x ≡ true) (filter test xs)
all_filter test [] = tt
all_filter {X} test (x ∷ xs) = by (test x) refl (all_filter test xs)
  where
    by : (b : Bool) → test x ≡ b → AllByRecursion (λ y. test y ≡ true) (filter test xs) → AllByRecursion (λ y. test y ≡ true) (if b then x ∷ filter test xs else filter test xs)
    by true is rest = (is, rest)
    by false is rest = rest

module _ {P S : Type 0} (m : Meaning P S) (h : IsLawful m) where
  pub ahead_take : (p : P) (n : ℕ) (rows : List (Row P S)) → IsAhead m p (map (λ r. r.place) rows) → IsAhead m p (map (λ r. r.place) (take n rows))
  ahead_take p zero rows a = tt
  ahead_take p (suc n) [] a = tt
  ahead_take p (suc n) (r ∷ rows) a = (a.0, ahead_take p n rows a.1)

  pub rising_take : (n : ℕ) (rows : List (Row P S)) → AreRising m (map (λ r. r.place) rows) → AreRising m (map (λ r. r.place) (take n rows))
  rising_take zero rows rising = tt
  rising_take (suc n) [] rising = tt
  rising_take (suc n) (r ∷ rows) rising = (ahead_take r.place n rows rising.0, rising_take n rows rising.1)

  further : (p q : P) (qs : List P) → m.before p q ≡ true → IsAhead m q qs → IsAhead m p qs
  further p q qs b a = all_map qs (λ r c. h.transitive p q r b c) a

  -- -- What comes to new places

  ahead_arrival : (p : P) (rows : List (Row P S)) (e : P × S) → IsAhead m p (map (λ r. r.place) rows) → m.before p e.0 ≡ true → IsAhead m p (map (λ r. r.place) (with_arrival m rows e))
  unfolding with_arrival
  ahead_arrival p [] e a b = (b, tt)
  ahead_arrival p (r ∷ rows) e a b = by (m.before r.place e.0) (m.before e.0 r.place) (ahead_arrival p rows e a.1 b)
    where
      by : (c d : Bool) → IsAhead m p (map (λ r. r.place) (with_arrival m rows e))
          → IsAhead m p (map (λ r. r.place) (if c then r ∷ with_arrival m rows e else (if d then record { place = e.0; state = e.1; changes = 1 } ∷ r ∷ rows else record r { state = m.join r.state e.1 } ∷ rows)))
      by true d rest = (a.0, rest)
      by false true rest = (b, a)
      by false false rest = a

  pub arrival_rises : (rows : List (Row P S)) (e : P × S) → AreRising m (map (λ r. r.place) rows) → AreRising m (map (λ r. r.place) (with_arrival m rows e))
  unfolding with_arrival
  arrival_rises [] e rising = (tt, tt)
  arrival_rises (r ∷ rows) e rising = by (m.before r.place e.0) refl (m.before e.0 r.place) refl (arrival_rises rows e rising.1)
    where
      by : (c : Bool) → m.before r.place e.0 ≡ c → (d : Bool) → m.before e.0 r.place ≡ d → AreRising m (map (λ r. r.place) (with_arrival m rows e))
          → AreRising m (map (λ r. r.place) (if c then r ∷ with_arrival m rows e else (if d then record { place = e.0; state = e.1; changes = 1 } ∷ r ∷ rows else record r { state = m.join r.state e.1 } ∷ rows)))
      by true is d other rest = (ahead_arrival r.place rows e rising.0 is, rest)
      by false is true other rest = ((other, further e.0 r.place (map (λ r. r.place) rows) other rising.0), rising)
      by false is false other rest = rising

  pub arrivals_rise : (rows : List (Row P S)) (comes : List (P × S)) → AreRising m (map (λ r. r.place) rows) → AreRising m (map (λ r. r.place) (fold (with_arrival m) rows comes))
  arrivals_rise rows [] rising = rising
  arrivals_rise rows (e ∷ comes) rising = arrivals_rise (with_arrival m rows e) comes (arrival_rises rows e rising)

  all_arrival : (Q : P → Type 0) (rows : List (Row P S)) (e : P × S) → AllByRecursion (λ r. Q r.place) rows → Q e.0 → AllByRecursion (λ r. Q r.place) (with_arrival m rows e)
  unfolding with_arrival
  all_arrival Q [] e all one = (one, tt)
  all_arrival Q (r ∷ rows) e all one = by (m.before r.place e.0) (m.before e.0 r.place) (all_arrival Q rows e all.1 one)
    where
      by : (c d : Bool) → AllByRecursion (λ r. Q r.place) (with_arrival m rows e)
          → AllByRecursion (λ r. Q r.place) (if c then r ∷ with_arrival m rows e else (if d then record { place = e.0; state = e.1; changes = 1 } ∷ r ∷ rows else record r { state = m.join r.state e.1 } ∷ rows))
      by true d rest = (all.0, rest)
      by false true rest = (one, all)
      by false false rest = all

  pub all_arrivals_are : (Q : P → Type 0) (rows : List (Row P S)) (comes : List (P × S)) → AllByRecursion (λ r. Q r.place) rows → AllByRecursion (λ e. Q e.0) comes
      → AllByRecursion (λ r. Q r.place) (fold (with_arrival m) rows comes)
  all_arrivals_are Q rows [] all comes = all
  all_arrivals_are Q rows (e ∷ comes) all are = all_arrivals_are Q (with_arrival m rows e) comes (all_arrival Q rows e all are.0) are.1

  -- -- New rows among kept ones

  -- a new row stands somewhere between the others
  pub record IsPut (ks ls : List (Kept P S)) (k : Kept P S) : Type 0 where
    pub front : List (Kept P S)
    pub back : List (Kept P S)
    pub before : ks ≡ front ++ back
    pub after : ls ≡ front ++ k ∷ back

  pub is_put : (ks : List (Kept P S)) (r : Row P S) → IsPut ks (with_kept m ks r) (fresh r)
  unfolding with_kept
  is_put [] r = record { front = []; back = []; before = refl; after = refl }
  is_put (k ∷ ks) r = by (m.before k.row.place r.place) (is_put ks r)
    where
      by : (b : Bool) → IsPut ks (with_kept m ks r) (fresh r) → IsPut (k ∷ ks) (if b then k ∷ with_kept m ks r else fresh r ∷ k ∷ ks) (fresh r)
      by true put = record { front = k ∷ put.front; back = put.back; before = ap (λ l. k ∷ l) put.before; after = ap (λ l. k ∷ l) put.after }
      by false put = record { front = []; back = k ∷ ks; before = refl; after = refl }

  rows_put : (ks : List (Kept P S)) (r : Row P S) → rows_of (with_kept m ks r) ≡ with_row m (rows_of ks) r
  unfolding with_kept with_row
  rows_put [] r = refl
  rows_put (k ∷ ks) r = by (m.before k.row.place r.place) (rows_put ks r)
    where
      by : (b : Bool) → rows_of (with_kept m ks r) ≡ with_row m (rows_of ks) r → rows_of (if b then k ∷ with_kept m ks r else fresh r ∷ k ∷ ks) ≡ (if b then k.row ∷ with_row m (rows_of ks) r else r ∷ k.row ∷ rows_of ks)
      by true rest = ap (λ l. k.row ∷ l) rest
      by false rest = refl

  pub rows_entered : (ks : List (Kept P S)) (new : List (Row P S)) → rows_of (entered m ks new) ≡ with_rows m (rows_of ks) new
  rows_entered ks [] = refl
  rows_entered ks (r ∷ new) = rows_put (entered m ks new) r ∙ ap (λ rows. with_row m rows r) (rows_entered ks new)

  all_put : (Q : Kept P S → Type 0) (ks : List (Kept P S)) (r : Row P S) → AllByRecursion Q ks → Q (fresh r) → AllByRecursion Q (with_kept m ks r)
  unfolding with_kept
  all_put Q [] r all one = (one, tt)
  all_put Q (k ∷ ks) r all one = by (m.before k.row.place r.place) (all_put Q ks r all.1 one)
    where
      by : (b : Bool) → AllByRecursion Q (with_kept m ks r) → AllByRecursion Q (if b then k ∷ with_kept m ks r else fresh r ∷ k ∷ ks)
      by true rest = (all.0, rest)
      by false rest = (one, all)

  pub all_entered : (Q : Kept P S → Type 0) (ks : List (Kept P S)) (new : List (Row P S)) → AllByRecursion Q ks → AllByRecursion (λ r. Q (fresh r)) new → AllByRecursion Q (entered m ks new)
  all_entered Q ks [] all are = all
  all_entered Q ks (r ∷ new) all are = all_put Q (entered m ks new) r (all_entered Q ks new all are.1) are.0

  ahead_put : (p : P) (ks : List (Kept P S)) (r : Row P S) → IsAhead m p (map place_in ks) → m.before p r.place ≡ true → IsAhead m p (map place_in (with_kept m ks r))
  unfolding with_kept
  ahead_put p [] r a b = (b, tt)
  ahead_put p (k ∷ ks) r a b = by (m.before k.row.place r.place) (ahead_put p ks r a.1 b)
    where
      by : (c : Bool) → IsAhead m p (map place_in (with_kept m ks r)) → IsAhead m p (map place_in (if c then k ∷ with_kept m ks r else fresh r ∷ k ∷ ks))
      by true rest = (a.0, rest)
      by false rest = (b, a)

  pub put_rises : (ks : List (Kept P S)) (r : Row P S) → AreRising m (map place_in ks) → AllByRecursion (λ k. is_same_place m k.row.place r.place ≡ false) ks → AreRising m (map place_in (with_kept m ks r))
  unfolding with_kept
  put_rises [] r rising apart = (tt, tt)
  put_rises (k ∷ ks) r rising apart = by (m.before k.row.place r.place) refl (put_rises ks r rising.1 apart.1)
    where
      behind : m.before k.row.place r.place ≡ false → m.before r.place k.row.place ≡ true
      behind is = not-false (m.before r.place k.row.place) (ap (λ b. not b && not (m.before r.place k.row.place)) (sym is) ∙ apart.0)

      by : (c : Bool) → m.before k.row.place r.place ≡ c → AreRising m (map place_in (with_kept m ks r)) → AreRising m (map place_in (if c then k ∷ with_kept m ks r else fresh r ∷ k ∷ ks))
      by true is rest = (ahead_put k.row.place ks r rising.0 is, rest)
      by false is rest = ((behind is, further r.place k.row.place (map place_in ks) (behind is) rising.0), rising)

  ahead_apart : (p : P) (rows : List (Row P S)) → IsAhead m p (map (λ r. r.place) rows) → AllByRecursion (λ r. is_same_place m r.place p ≡ false) rows
  ahead_apart p [] a = tt
  ahead_apart p (r ∷ rows) a = (behind_not_same m h r.place p a.0, ahead_apart p rows a.1)

  pub entered_rises : (ks : List (Kept P S)) (new : List (Row P S)) → AreRising m (map place_in ks) → AreRising m (map (λ r. r.place) new)
      → AllByRecursion (λ r. AllByRecursion (λ k. is_same_place m k.row.place r.place ≡ false) ks) new → AreRising m (map place_in (entered m ks new))
  entered_rises ks [] rising new apart = rising
  entered_rises ks (r ∷ others) rising new apart =
      put_rises (entered m ks others) r (entered_rises ks others rising new.1 apart.1) (all_entered (λ k. is_same_place m k.row.place r.place ≡ false) ks others apart.0 (ahead_apart r.place others new.0))
