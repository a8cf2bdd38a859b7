-- Lists of numbers and words, by recursion.
use Rattle.std.proofs.Common.{◌≡◌, ◌≢◌, ℕ, ◌+◌, ◌≤◌, List, [], ◌∷◌, ◌++◌, length, refl, sym, ap, arith}
use Rattle.std.specs.List.{AllByRecursion}
use Rattle.round_core.specs.declared.word.Word.{Word}
use Rattle.round_slots.specs.Rule.{HasNoRepeat, AreApart, last_from}
use Rattle.round_slots.specs.Seats.{IsRising}

module _ {X : Type 0} where
  -- a fact that follows from another holds where that does
  pub all_map : (P Q : X → Type 0) → ((x : X) → P x → Q x) → (xs : List X) → AllByRecursion P xs → AllByRecursion Q xs
  all_map P Q f [] h = tt
  all_map P Q f (x ∷ xs) h = (f x h.0, all_map P Q f xs h.1)

  pub all_every : (P : X → Type 0) → ((x : X) → P x) → (xs : List X) → AllByRecursion P xs
  all_every P f [] = tt
  all_every P f (x ∷ xs) = (f x, all_every P f xs)

  pub all_append : (P : X → Type 0) (xs ys : List X) → AllByRecursion P xs → AllByRecursion P ys → AllByRecursion P (xs ++ ys)
  all_append P [] ys h k = k
  all_append P (x ∷ xs) ys h k = (h.0, all_append P xs ys h.1 k)

  pub all_left : (P : X → Type 0) (xs ys : List X) → AllByRecursion P (xs ++ ys) → AllByRecursion P xs
  all_left P [] ys h = tt
  all_left P (x ∷ xs) ys h = (h.0, all_left P xs ys h.1)

  pub all_right : (P : X → Type 0) (xs ys : List X) → AllByRecursion P (xs ++ ys) → AllByRecursion P ys
  all_right P [] ys h = h
  all_right P (x ∷ xs) ys h = all_right P xs ys h.1

  pub length_snoc : (xs : List X) (x : X) → length (xs ++ (x ∷ [])) ≡ length xs + 1
  length_snoc [] x = omega arith
  length_snoc (y ∷ ys) x = let h = length_snoc ys x in omega (arith, h)

  pub append_twice : (xs : List X) (x y : X) → (xs ++ (x ∷ [])) ++ (y ∷ []) ≡ xs ++ (x ∷ y ∷ [])
  append_twice [] x y = refl
  append_twice (z ∷ zs) x y = ap (λ ts. z ∷ ts) (append_twice zs x y)

-- numbers that are apart, whichever list comes first
pub apart_sym : (ms ns : List ℕ) → AreApart ms ns → AreApart ns ms
apart_sym ms [] h = tt
apart_sym ms (n ∷ ns) h = (
  all_map (λ m. AllByRecursion (λ k. m ≢ k) (n ∷ ns)) (λ m. n ≢ m) (λ m t. λ e. t.0 (sym e)) ms h,
  apart_sym ms ns (all_map (λ m. AllByRecursion (λ k. m ≢ k) (n ∷ ns)) (λ m. AllByRecursion (λ k. m ≢ k) ns) (λ m t. t.1) ms h),
)

pub apart_nil : (ms : List ℕ) → AreApart ms []
apart_nil ms = all_every (λ m. AllByRecursion (λ n. m ≢ n) []) (λ m. tt) ms

-- one more number
pub apart_snoc : (ms ns : List ℕ) (m : ℕ) → AreApart ms ns → AllByRecursion (λ n. m ≢ n) ns → AreApart (ms ++ (m ∷ [])) ns
apart_snoc ms ns m h k = all_append (λ m. AllByRecursion (λ n. m ≢ n) ns) ms (m ∷ []) h (k, tt)

pub no_repeat_append : (ms ns : List ℕ) → HasNoRepeat ms → HasNoRepeat ns → AreApart ms ns → HasNoRepeat (ms ++ ns)
no_repeat_append [] ns h k a = k
no_repeat_append (m ∷ ms) ns h k a = (all_append (λ n. m ≢ n) ms ns h.0 a.0, no_repeat_append ms ns h.1 k a.1)

pub no_repeat_snoc : (ms : List ℕ) (n : ℕ) → HasNoRepeat ms → AllByRecursion (λ m. m ≢ n) ms → HasNoRepeat (ms ++ (n ∷ []))
no_repeat_snoc ms n h k = no_repeat_append ms (n ∷ []) h (tt, tt) (all_map (λ m. m ≢ n) (λ m. AllByRecursion (λ k. m ≢ k) (n ∷ [])) (λ m t. (t, tt)) ms k)

pub last_snoc : (d : ℕ) (ms : List ℕ) (n : ℕ) → last_from d (ms ++ (n ∷ [])) ≡ n
last_snoc d [] n = refl
last_snoc d (m ∷ ms) n = last_snoc m ms n

-- a newer word at the end of a rising list
pub rising_snoc : (ws : List Word) (w : Word) → IsRising ws → AllByRecursion (λ x. x.round ≤ w.round) ws → IsRising (ws ++ (w ∷ []))
rising_snoc [] w h k = (tt, tt)
rising_snoc (x ∷ xs) w h k = (all_append (λ y. x.round ≤ y.round) xs (w ∷ []) h.0 (k.0, tt), rising_snoc xs w h.1 k.1)
