-- What single steps of a sweep do to rows and slots.
use Rattle.std.proofs.Common.{◌≡◌, ℕ, zero, suc, ◌+◌, ◌<◌, ◌≤◌, Bool, true, false, not, List, [], ◌∷◌, ◌++◌, map, take, drop, length, get_or, set, refl, sym, ap, subst, ◌∙◌, arith, add-zero, add-one}
use Rattle.std.specs.Prelude.{Option, Some, None, option_map, if◌then◌else◌}
use Rattle.std.specs.List.{flat_map, list_any, AllByRecursion}
use Rattle.std.proofs.lemmas.Bool.{and_parts, not-true, cond-false, or_left, or_right}
use Rattle.std.proofs.lemmas.List.{set-get_or, map-append, take-append-drop, take_all, drop_all, append-nil, drop-drop, drop-set-lt, get_or-drop, get_or_default, set-set}
use Rattle.std.proofs.lemmas.List.Edits.{map_over_more}
use Rattle.std.proofs.lemmas.Option.{none-some, same_Some}
use Rattle.sweeps.specs.Meaning.{Meaning, IsLawful}
use Rattle.sweeps.specs.Sweeps.{is_same_place, IsAhead, AreRising}
use Rattle.sweeps.specs.Kept.{number_of, zip_with}
use Rattle.sweeps.proofs.PlaceLemmas.{behind_not_same}

-- no element passes
pub any_none : {X : Type 0} (test : X → Bool) (xs : List X) → ((x : X) → test x ≡ false) → list_any test xs ≡ false
any_none test [] none = refl
any_none test (x ∷ xs) none = rw (none x) (any_none test xs none)

-- -- A change of each element in turn

-- a change that leaves the element as it was
pub over_stays : {X : Type 0} (f : X → X) (xs ys : List X) (i : ℕ) (x : X) → i < length xs → ys ≡ map f (take i xs) ++ drop i xs → x ≡ get_or ys i x → f x ≡ x → ys ≡ map f (take (i + 1) xs) ++ drop (i + 1) xs
over_stays f xs ys i x within is here stays =
    sym (ap (set ys i) (stays ∙ here) ∙ set-get_or ys i x) ∙ map_over_more f xs ys i x within is here

-- a change that leaves what is read of the elements
pub over_same : {X Y : Type 0} (F : X → Y) (f : X → X) (xs : List X) (i : ℕ) → ((x : X) → F (f x) ≡ F x) → map F (map f (take i xs) ++ drop i xs) ≡ map F xs
over_same {X} F f xs i same =
    map-append F (map f (take i xs)) (drop i xs) ∙ ap (λ l. l ++ map F (drop i xs)) (maps (take i xs)) ∙ sym (map-append F (take i xs) (drop i xs)) ∙ ap (map F) (take-append-drop i xs)
  where
    maps : (l : List X) → map F (map f l) ≡ map F l
    maps [] = refl
    maps (x ∷ l) = rw (same x, maps l) refl

-- -- A change at one place

shifted : (o : Option ℕ) (n : ℕ) → option_map suc o ≡ Some n → (k : ℕ) × (o ≡ Some k) × (n ≡ suc k)
shifted None n e = absurd (none-some n e)
shifted (Some k) n e = (k, refl, sym (same_Some (suc k) n e))

module _ {P S : Type 0} (m : Meaning P S) {X : Type 0} (place : X → P) (p : P) where
  -- the number of a place is below the number of rows
  pub some_below : (xs : List X) (n : ℕ) → number_of m (map place xs) p ≡ Some n → n < length xs
  unfolding number_of
  some_below [] n some = absurd (none-some n some)
  some_below (x ∷ xs) n some = by (is_same_place m (place x) p) n some (some_below xs)
    where
      by : (b : Bool) (n : ℕ) → (if b then Some 0 else option_map suc (number_of m (map place xs) p)) ≡ Some n → ((k : ℕ) → number_of m (map place xs) p ≡ Some k → k < length xs) → n < suc (length xs)
      by true n e rest = let z = same_Some 0 n e in omega arith
      by false n e rest = let s = shifted _ n e in let lt = rest s.0 s.1 in let is = s.2 in omega arith

module _ {P S : Type 0} (m : Meaning P S) (h : IsLawful m) {X Y : Type 0} (place : X → P) (p : P) (g : X → Y → Y) where
  -- the elements of the second list, with that of the place changed
  abbrev pub changed_at : List X → List Y → List Y
  changed_at xs ys = zip_with (λ x y. if is_same_place m (place x) p then g x y else y) xs ys

  behind : (q : P) (xs : List X) (ys : List Y) → length ys ≡ length xs → p ≡ q → IsAhead m q (map place xs) → ys ≡ changed_at xs ys
  behind q [] [] same is a = refl
  behind q [] (y ∷ ys) same is a = absurd (omega arith)
  behind q (x ∷ xs) [] same is a = absurd (omega arith)
  behind q (x ∷ xs) (y ∷ ys) same is a =
      let differs = behind_not_same m h (place x) p (ap (λ r. m.before r (place x)) is ∙ a.0) in
      rw (cond-false (is_same_place m (place x) p) (g x y) y differs) (ap (λ l. y ∷ l) (behind q xs ys (omega arith) is a.1))

  pub none_changed : (xs : List X) (ys : List Y) → length ys ≡ length xs → number_of m (map place xs) p ≡ None → ys ≡ changed_at xs ys
  unfolding number_of
  none_changed [] [] same none = refl
  none_changed [] (y ∷ ys) same none = absurd (omega arith)
  none_changed (x ∷ xs) [] same none = absurd (omega arith)
  none_changed (x ∷ xs) (y ∷ ys) same none = by (is_same_place m (place x) p) none (λ e. none_changed xs ys (omega arith) e)
    where
      emptied : (o : Option ℕ) → option_map suc o ≡ None → o ≡ None
      emptied None e = refl
      emptied (Some n) e = absurd (none-some (suc n) (sym e))

      by : (b : Bool) → (if b then Some 0 else option_map suc (number_of m (map place xs) p)) ≡ None → (number_of m (map place xs) p ≡ None → ys ≡ changed_at xs ys)
          → (y ∷ ys) ≡ (if b then g x y else y) ∷ changed_at xs ys
      by true e rest = absurd (none-some 0 (sym e))
      by false e rest = ap (λ l. y ∷ l) (rest (emptied _ e))

  pub some_changed : (xs : List X) (ys : List Y) (n : ℕ) (d : X) (e : Y) → AreRising m (map place xs) → length ys ≡ length xs → number_of m (map place xs) p ≡ Some n → set ys n (g (get_or xs n d) (get_or ys n e)) ≡ changed_at xs ys
  unfolding number_of
  some_changed [] ys n d e rising same some = absurd (none-some n some)
  some_changed (x ∷ xs) [] n d e rising same some = absurd (omega arith)
  some_changed (x ∷ xs) (y ∷ ys) n d e rising same some =
      by (is_same_place m (place x) p) refl n some (λ k is. some_changed xs ys k d e rising.1 (omega arith) is)
    where
      equal : is_same_place m (place x) p ≡ true → p ≡ place x
      equal t = let parts = and_parts (not (m.before (place x) p)) (not (m.before p (place x))) t in sym (h.total (place x) p (not-true (m.before (place x) p) parts.0) (not-true (m.before p (place x)) parts.1))

      Goal : Bool → ℕ → Type 0
      Goal b n = set (y ∷ ys) n (g (get_or (x ∷ xs) n d) (get_or (y ∷ ys) n e)) ≡ (if b then g x y else y) ∷ changed_at xs ys

      at_head : (n : ℕ) → n ≡ 0 → is_same_place m (place x) p ≡ true → Goal true n
      at_head n z t = subst (Goal true) (sym z) (ap (λ l. g x y ∷ l) (behind (place x) xs ys (omega arith) (equal t) rising.0))

      in_tail : (n k : ℕ) → n ≡ suc k → set ys k (g (get_or xs k d) (get_or ys k e)) ≡ changed_at xs ys → Goal false n
      in_tail n k s rest = subst (Goal false) (sym s) (ap (λ l. y ∷ l) rest)

      by : (b : Bool) → is_same_place m (place x) p ≡ b → (n : ℕ) → (if b then Some 0 else option_map suc (number_of m (map place xs) p)) ≡ Some n
          → ((k : ℕ) → number_of m (map place xs) p ≡ Some k → set ys k (g (get_or xs k d) (get_or ys k e)) ≡ changed_at xs ys) → Goal b n
      by true t n is rest = at_head n (sym (same_Some 0 n is)) t
      by false t n is rest = let s = shifted _ n is in in_tail n s.0 s.2 (rest s.0 s.1)

  -- a change of the elements that are read, by way of another value
  pub read_changed : (xs : List X) (ys : List Y) (n : ℕ) (x : X) (y w z : Y) → AreRising m (map place xs) → length ys ≡ length xs → number_of m (map place xs) p ≡ Some n → x ≡ get_or xs n x → y ≡ get_or ys n y → z ≡ g x y
      → set (set ys n w) n z ≡ changed_at xs ys
  read_changed xs ys n x y w z rising same some is js change =
      set-set ys n w z ∙ ap (set ys n) (change ∙ ap (λ v. g v y) is ∙ ap (g (get_or xs n x)) js) ∙ some_changed xs ys n x y rising same some

  no_number : (n : ℕ) → number_of m (map place []) p ≡ Some n → ⊥
  unfolding number_of
  no_number n e = none-some n e

  -- a change to one value
  pub set_changed : (xs : List X) (ys : List Y) (n : ℕ) (z : Y) → ((x : X) (y : Y) → g x y ≡ z) → AreRising m (map place xs) → length ys ≡ length xs → number_of m (map place xs) p ≡ Some n → set ys n z ≡ changed_at xs ys
  set_changed [] ys n z one rising same some = absurd (no_number n some)
  set_changed (x ∷ xs) [] n z one rising same some = absurd (omega arith)
  set_changed (x ∷ xs) (y ∷ ys) n z one rising same some =
      ap (set (y ∷ ys) n) (sym (one (get_or (x ∷ xs) n x) (get_or (y ∷ ys) n y))) ∙ some_changed (x ∷ xs) (y ∷ ys) n x y rising same some

-- -- Two lists, element by element

-- the first elements of the one list are changed by those of the other, which hasn't lost any of its later ones
pub record ZippedTo {X Y : Type 0} (f : X → Y → X) (xs : List X) (ys : List Y) (xs' : List X) (ys' : List Y) (i : ℕ) : Type 0 where
  pub done : xs' ≡ zip_with f (take i xs) (take i ys) ++ drop i xs
  pub left : drop i ys' ≡ drop i ys

at_end : {X : Type 0} (n : ℕ) (xs : List X) → length xs ≤ n → (take n xs ≡ xs) × (drop n xs ≡ [])
at_end n xs le = (take_all n xs le, drop_all n xs le)

pub zip_end : {X Y : Type 0} (f : X → Y → X) (xs : List X) (ys : List Y) (xs' : List X) (ys' : List Y) (i : ℕ) → length xs ≤ i → length ys ≡ length xs → ZippedTo f xs ys xs' ys' i → xs' ≡ zip_with f xs ys
zip_end f xs ys xs' ys' i end same z =
    let le : length ys ≤ i = omega arith in
    z.done ∙ ap (λ l. zip_with f (take i xs) (take i ys) ++ l) (drop_all i xs end) ∙ append-nil _ ∙ ap (λ l. zip_with f l (take i ys)) (take_all i xs end) ∙ ap (zip_with f xs) (take_all i ys le)

zip_more : {X Y : Type 0} (f : X → Y → X) (xs : List X) (ys : List Y) (i : ℕ) (x : X) (y : Y) → i < length xs → i < length ys → x ≡ get_or xs i x → y ≡ get_or ys i y
    → set (zip_with f (take i xs) (take i ys) ++ drop i xs) i (f x y) ≡ zip_with f (take (suc i) xs) (take (suc i) ys) ++ drop (suc i) xs
zip_more f [] ys i x y a b is js = absurd (omega arith)
zip_more f (v ∷ xs) [] i x y a b is js = absurd (omega arith)
zip_more f (v ∷ xs) (w ∷ ys) zero x y a b is js = ap (λ z. z ∷ xs) (ap (λ z. f z y) is ∙ ap (f v) js)
zip_more f (v ∷ xs) (w ∷ ys) (suc i) x y a b is js = ap (λ l. f v w ∷ l) (zip_more f xs ys i x y (omega arith) (omega arith) is js)

zip_at : {X Y : Type 0} (f : X → Y → X) (xs : List X) (ys : List Y) (i : ℕ) (d : X) → i < length xs → i < length ys → get_or (zip_with f (take i xs) (take i ys) ++ drop i xs) i d ≡ get_or xs i d
zip_at f [] ys i d a b = absurd (omega arith)
zip_at f (v ∷ xs) [] i d a b = absurd (omega arith)
zip_at f (v ∷ xs) (w ∷ ys) zero d a b = refl
zip_at f (v ∷ xs) (w ∷ ys) (suc i) d a b = zip_at f xs ys i d (omega arith) (omega arith)

drop_at_same : {X : Type 0} (xs ys : List X) (i : ℕ) (d : X) → drop i xs ≡ drop i ys → get_or xs i d ≡ get_or ys i d
drop_at_same xs ys i d same = ap (λ n. get_or xs n d) (sym (add-zero i)) ∙ sym (get_or-drop i xs 0 d) ∙ ap (λ l. get_or l 0 d) same ∙ get_or-drop i ys 0 d ∙ ap (λ n. get_or ys n d) (add-zero i)

drop_same_more : {X : Type 0} (xs ys : List X) (i : ℕ) → drop i xs ≡ drop i ys → drop (suc i) xs ≡ drop (suc i) ys
drop_same_more xs ys i same = ap (λ n. drop n xs) (sym (add-one i)) ∙ sym (drop-drop 1 i xs) ∙ ap (drop 1) same ∙ drop-drop 1 i ys ∙ ap (λ n. drop n ys) (add-one i)

pub zip_read : {X Y : Type 0} (f : X → Y → X) (xs : List X) (ys : List Y) (xs' : List X) (ys' : List Y) (i : ℕ) (x : X) → i < length xs → length ys ≡ length xs → ZippedTo f xs ys xs' ys' i → x ≡ get_or xs' i x → x ≡ get_or xs i x
zip_read f xs ys xs' ys' i x within same zipped is = is ∙ ap (λ l. get_or l i x) zipped.done ∙ zip_at f xs ys i x within (omega arith)

pub zip_step : {X Y : Type 0} (f : X → Y → X) (xs : List X) (ys : List Y) (xs' xs2 : List X) (ys' ys2 : List Y) (i : ℕ) (x : X) (y z : Y) → i < length xs → length ys ≡ length xs → ZippedTo f xs ys xs' ys' i
    → x ≡ get_or xs' i x → y ≡ get_or ys' i y → xs2 ≡ set xs' i (f x y) → ys2 ≡ set ys' i z → ZippedTo f xs ys xs2 ys2 (i + 1)
zip_step f xs ys xs' xs2 ys' ys2 i x y z within same zipped is js first second = record {
  done =
      let few : i < length ys = omega arith in
      let xi : x ≡ get_or xs i x = is ∙ ap (λ l. get_or l i x) zipped.done ∙ zip_at f xs ys i x within few in
      let yi : y ≡ get_or ys i y = js ∙ drop_at_same ys' ys i y zipped.left in
      first ∙ ap (λ l. set l i (f x y)) zipped.done ∙ zip_more f xs ys i x y within few xi yi ∙ ap (λ n. zip_with f (take n xs) (take n ys) ++ drop n xs) (sym (add-one i));
  left = ap (drop (i + 1)) second ∙ drop-set-lt (i + 1) ys' i z (omega arith) ∙ ap (λ n. drop n ys') (add-one i) ∙ drop_same_more ys' ys i zipped.left ∙ ap (λ n. drop n ys) (sym (add-one i));
}

-- -- Two reads of one element

pub read_same : {X : Type 0} (xs : List X) (i : ℕ) (x y : X) → i < length xs → x ≡ get_or xs i x → y ≡ get_or xs i y → x ≡ y
read_same xs i x y within is js = is ∙ get_or_default xs i x y within ∙ sym js

over_length : {X : Type 0} (f : X → X) (xs : List X) (i : ℕ) → length (map f (take i xs) ++ drop i xs) ≡ length xs
over_length f [] zero = refl
over_length f [] (suc i) = refl
over_length f (x ∷ xs) zero = refl
over_length f (x ∷ xs) (suc i) = ap suc (over_length f xs i)

pub over_within : {X : Type 0} (f : X → X) (xs ys : List X) (i : ℕ) → i < length xs → ys ≡ map f (take i xs) ++ drop i xs → i < length ys
over_within f xs ys i within is = let n = ap length is ∙ over_length f xs i in omega arith

pub over_all : {X : Type 0} (f : X → X) (xs ys : List X) (i : ℕ) → length xs ≤ i → ys ≡ map f (take i xs) ++ drop i xs → ys ≡ map f xs
over_all f xs ys i end is = is ∙ ap (λ l. map f (take i xs) ++ l) (drop_all i xs end) ∙ append-nil _ ∙ ap (map f) (take_all i xs end)

-- a change of an element that is read twice
pub over_read : {X : Type 0} (f : X → X) (xs ys : List X) (i : ℕ) (x y z : X) → i < length xs → ys ≡ map f (take i xs) ++ drop i xs → y ≡ get_or ys i y → x ≡ get_or ys i x → (y ≡ x → z ≡ f x)
    → set ys i z ≡ map f (take (i + 1) xs) ++ drop (i + 1) xs
over_read f xs ys i x y z within is js here change =
    ap (set ys i) (change (read_same ys i y x (over_within f xs ys i within is) js here)) ∙ map_over_more f xs ys i x within is here

pub any_here : {X Y : Type 0} (test : Y → Bool) (f : X → Y) (xs : List X) (i : ℕ) (x : X) → i < length xs → x ≡ get_or xs i x → test (f x) ≡ true → true ≡ list_any test (map f xs)
any_here test f [] i x within is holds = absurd (omega arith)
any_here test f (v ∷ xs) zero x within is holds = sym (or_left (test (f v)) _ (ap (λ w. test (f w)) (sym is) ∙ holds))
any_here test f (v ∷ xs) (suc i) x within is holds = sym (or_right (test (f v)) _ (sym (any_here test f xs i x (omega arith) is holds)))

-- what is known of all parts is known of each
pub all_part : {X Y : Type 0} (Q : Y → Type 0) (f : X → List Y) (xs : List X) (i : ℕ) (x : X) → AllByRecursion Q (flat_map f xs) → i < length xs → x ≡ get_or xs i x → AllByRecursion Q (f x)
all_part Q f [] i x all within is = absurd (omega arith)
all_part {Y = Y} Q f (v ∷ xs) zero x all within is = subst (λ w. AllByRecursion Q (f w)) (sym is) (front (f v) all)
  where
    front : (ys : List Y) → AllByRecursion Q (ys ++ flat_map f xs) → AllByRecursion Q ys
    front [] a = tt
    front (y ∷ ys) a = (a.0, front ys a.1)
all_part {Y = Y} Q f (v ∷ xs) (suc i) x all within is = all_part Q f xs i x (behind (f v) all) (omega arith) is
  where
    behind : (ys : List Y) → AllByRecursion Q (ys ++ flat_map f xs) → AllByRecursion Q (flat_map f xs)
    behind [] a = a
    behind (y ∷ ys) a = behind ys a.1

-- one element of those that are known
pub all_here : {X : Type 0} (Q : X → Type 0) (xs : List X) (i : ℕ) (x : X) → AllByRecursion Q xs → i < length xs → x ≡ get_or xs i x → Q x
all_here Q [] i x all within is = absurd (omega arith)
all_here Q (v ∷ xs) zero x all within is = subst Q (sym is) all.0
all_here Q (v ∷ xs) (suc i) x all within is = all_here Q xs i x all.1 (omega arith) is
