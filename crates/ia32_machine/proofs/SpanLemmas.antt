-- The bytes of numbers and elements that are mapped are spans.
use Rattle.std.proofs.Common.{◌≡◌, ℕ, zero, suc, ◌+◌, ◌*◌, ◌-◌, ◌%◌, ◌/◌, ◌^◌, ◌<◌, ◌≤◌, refl, sym, ap, ◌∙◌, subst, arith, eqb-true}
use Rattle.std.specs.Prelude.{Bool, true, false, ◌||◌, ◌==◌, nat_lt}
use Rattle.std.proofs.lemmas.Bool.{false≢true}
use Rattle.std.proofs.lemmas.Bool.Decides.{nat_tests}
use Rattle.std.proofs.Math.Nat.{add-mul-mod_self_right}
use Rattle.ia32_semantics.specs.State.{AtByte}
use Rattle.ia32_semantics.specs.Effects.{effects_write, effects_take, is_among, is_of_bytes, all_among}
use Rattle.ia32_semantics.specs.Operands.{number_bytes}
use Rattle.ia32_semantics.specs.Strings.{stepped, copied, filled}
use Rattle.ia32_semantics.proofs.EffectLemmas.{by_test, and_left, and_right}
use Rattle.ia32_memory.specs.Changes.{all_in_elements}
use Rattle.item_list.specs.Ranges.{within}

-- n elements of z bytes, from the one at an address on
abbrev pub in_elements : Bool → ℕ → ℕ → ℕ → ℕ → Bool
in_elements down z zero a x = false
in_elements down z (suc n) a x = is_among a z x || in_elements down z n (stepped down z 1 a) x

pub copied_write : (down : Bool) (z n from to x : ℕ) → effects_write (copied down z n from to) (AtByte x) ≡ in_elements down z n to x
copied_write down z zero from to x = refl
copied_write down z (suc n) from to x = ap (λ b. is_among to z x || b) (copied_write down z n (stepped down z 1 from) (stepped down z 1 to) x)

pub copied_take : (down : Bool) (z n from to x : ℕ) → effects_take (copied down z n from to) (AtByte x) ≡ in_elements down z n from x
copied_take down z zero from to x = refl
copied_take down z (suc n) from to x = ap (λ b. is_among from z x || b) (copied_take down z n (stepped down z 1 from) (stepped down z 1 to) x)

pub of_number : (a n v x : ℕ) → is_of_bytes a (number_bytes n v) x ≡ is_among a n x
of_number a zero v x = refl
of_number a (suc n) v x = ap (λ b. a == x || b) (of_number (a + 1) n (v / 256) x)

pub filled_write : (down : Bool) (z value n to x : ℕ) → effects_write (filled down z value n to) (AtByte x) ≡ in_elements down z n to x
filled_write down z value zero to x = refl
filled_write down z value (suc n) to x =
    ap (λ b. b || effects_write (filled down z value n (stepped down z 1 to)) (AtByte x)) (of_number to z value x)
    ∙ ap (λ b. is_among to z x || b) (filled_write down z value n (stepped down z 1 to) x)

pub filled_take : (down : Bool) (z value n to x : ℕ) → effects_take (filled down z value n to) (AtByte x) ≡ false
filled_take down z value zero to x = refl
filled_take down z value (suc n) to x = filled_take down z value n (stepped down z 1 to) x

-- -- Spans

pub here_or : (a e x : ℕ) → a < e → (a == x || within (a + 1) e x) ≡ within a e x
here_or a e x some =
    by_test (a == x)
    (λ same. let is : a ≡ x = eqb-true a x same in let there : within a e x ≡ true = grind (arith, nat_tests) in rw (same, there) refl)
    (λ other. by_test (within (a + 1) e x)
    (λ more. let there : within a e x ≡ true = grind (arith, nat_tests) in rw (other, more, there) refl)
    (λ none. let out : within a e x ≡ false = grind (arith, nat_tests) in rw (other, none, out) refl))

-- the n addresses from one on
pub among_within : (a n x : ℕ) → is_among a n x ≡ within a (a + n) x
among_within a zero x = by_test (within a (a + 0) x) (λ e. absurd (let f : within a (a + 0) x ≡ false = grind (arith, nat_tests) in false≢true (sym f ∙ e))) (λ e. sym e)
among_within a (suc n) x =
    let more : a + 1 + n ≡ a + suc n = omega arith in
    ap (λ b. a == x || b) (among_within (a + 1) n x ∙ ap (λ e. within (a + 1) e x) more) ∙ here_or a (a + suc n) x (omega arith)

pub joined : (a b e x : ℕ) → a ≤ b → b ≤ e → (within a b x || within b e x) ≡ within a e x
joined a b e x p q =
    by_test (within a e x)
    (λ there. by_test (nat_lt x b)
    (λ low. let l : within a b x ≡ true = grind (arith, nat_tests) in rw (l, there) refl)
    (λ high. let l : within a b x ≡ false = grind (arith, nat_tests) in let h : within b e x ≡ true = grind (arith, nat_tests) in rw (l, h, there) refl))
    (λ out. let l : within a b x ≡ false = grind (arith, nat_tests) in let h : within b e x ≡ false = grind (arith, nat_tests) in rw (l, h, out) refl)

-- the last of some addresses passes the test that all pass
pub last_of : (test : ℕ → Bool) (a n : ℕ) → all_among test a (suc n) ≡ true → test (a + n) ≡ true
last_of test a zero e = let none : a ≡ a + 0 = omega arith in ap test (sym none) ∙ and_left (test a) _ e
last_of test a (suc n) e = let more : a + 1 + n ≡ a + suc n = omega arith in ap test (sym more) ∙ last_of test (a + 1) n (and_right (test a) _ e)

-- an address that passes lies at least 4 below the end of the addresses
abbrev pub AreLow : (ℕ → Bool) → Type 0
AreLow test = (a : ℕ) → test a ≡ true → a + 4 < 2 ^ 32

pub end_low : (test : ℕ → Bool) → AreLow test → (a n m : ℕ) → n ≡ suc m → all_among test a n ≡ true → a + n < 2 ^ 32
end_low test low a n m is e = let last = low (a + m) (last_of test a m (subst (λ k. all_among test a k ≡ true) is e)) in omega arith

step_up : (z a : ℕ) → a + z < 2 ^ 32 → stepped false z 1 a ≡ a + z
unfolding stepped
step_up z a low = omega arith

-- upwards
pub record Upwards (z n a : ℕ) : Type 0 where
  pub low : a + n * z < 2 ^ 32
  pub span : (x : ℕ) → in_elements false z n a x ≡ within a (a + n * z) x

module _ (test : ℕ → Bool) (low : AreLow test) (y : ℕ) where
  -- an element has y + 1 bytes
  pub upwards : (n a : ℕ) → a < 2 ^ 32 → all_in_elements test false (suc y) n a ≡ true → Upwards (suc y) n a
  unfolding all_in_elements
  upwards zero a fits e = record { low = omega arith; span = λ x. among_within a 0 x ∙ ap (λ k. within a k x) (omega arith) }
  upwards (suc n) a fits e =
      let z = suc y in
      let first = end_low test low a (suc y) y refl (and_left (all_among test a (suc y)) _ e) in
      let step = step_up (suc y) a first in
      let rest = upwards n (a + suc y) first (ap (all_in_elements test false (suc y) n) (sym step) ∙ and_right (all_among test a (suc y)) _ e) in
      let more : a + suc y + n * suc y ≡ a + suc n * suc y = omega arith in
      record {
        low = subst (λ k. k < 2 ^ 32) more rest.low;
        span = λ x. ap (λ b. is_among a (suc y) x || in_elements false (suc y) n b x) step
            ∙ ap (λ b. b || in_elements false (suc y) n (a + suc y) x) (among_within a (suc y) x)
            ∙ ap (λ b. within a (a + suc y) x || b) (rest.span x ∙ ap (λ k. within (a + suc y) k x) more)
            ∙ joined a (a + suc y) (a + suc n * suc y) x (omega arith) (omega arith);
      }

-- downwards
pub record Downwards (z m a : ℕ) : Type 0 where
  pub low : m * z ≤ a
  pub span : (x : ℕ) → in_elements true z (suc m) a x ≡ within (a - m * z) (a + z) x

one_down : (z a : ℕ) → z ≤ 4 → a < 2 ^ 32 → stepped true z 1 a + 4 < 2 ^ 32 → (z ≤ a) × (stepped true z 1 a ≡ a - z)
unfolding stepped
one_down z a small fits low = (omega arith, omega arith)

first_passes : (test : ℕ → Bool) (down : Bool) (y n a : ℕ) → all_in_elements test down (suc y) (suc n) a ≡ true → test a ≡ true
unfolding all_in_elements
first_passes test down y n a e = and_left (test a) _ (and_left (all_among test a (suc y)) _ e)

module _ (test : ℕ → Bool) (low : AreLow test) (y : ℕ) (small : suc y ≤ 4) where
  pub downwards : (m a : ℕ) → a < 2 ^ 32 → all_in_elements test true (suc y) (suc m) a ≡ true → Downwards (suc y) m a
  unfolding all_in_elements
  downwards zero a fits e =
      let none : a - 0 * suc y ≡ a = omega arith in
      record {
        low = omega arith;
        span = λ x. or_none (is_among a (suc y) x) ∙ among_within a (suc y) x ∙ ap (λ k. within k (a + suc y) x) (sym none);
      }
    where
      or_none : (b : Bool) → (b || false) ≡ b
      or_none true = refl
      or_none false = refl
  downwards (suc m) a fits e =
      let later = and_right (all_among test a (suc y)) _ e in
      let here = first_passes test true y m (stepped true (suc y) 1 a) later in
      let step = one_down (suc y) a small fits (low (stepped true (suc y) 1 a) here) in
      let enough : suc y ≤ a = step.0 in
      let rest = downwards m (a - suc y) (omega arith) (ap (all_in_elements test true (suc y) (suc m)) (sym step.1) ∙ later) in
      let below : m * suc y ≤ a - suc y = rest.low in
      let back : a - suc y + suc y ≡ a = omega arith in
      let lower : a - suc y - m * suc y ≡ a - suc m * suc y = omega arith in
      record {
        low = omega arith;
        span = λ x. ap (λ b. is_among a (suc y) x || in_elements true (suc y) (suc m) b x) step.1
            ∙ ap (λ b. b || in_elements true (suc y) (suc m) (a - suc y) x) (among_within a (suc y) x)
            ∙ ap (λ b. within a (a + suc y) x || b) (rest.span x ∙ ap (λ k. within (a - suc y - m * suc y) k x) back ∙ ap (λ k. within k a x) lower)
            ∙ or_swap (within a (a + suc y) x) (within (a - suc m * suc y) a x)
            ∙ joined (a - suc m * suc y) a (a + suc y) x (omega arith) (omega arith);
      }
    where
      or_swap : (b c : Bool) → (b || c) ≡ (c || b)
      or_swap true true = refl
      or_swap true false = refl
      or_swap false true = refl
      or_swap false false = refl

pub stepped_down : (z m a : ℕ) → z ≤ 4 → a < 2 ^ 32 → m * z ≤ a → stepped true z m a ≡ a - m * z
unfolding stepped
stepped_down z m a small fits low =
    let sum : a + m * (2 ^ 32 - z) ≡ a - m * z + m * 2 ^ 32 = whole (2 ^ 32 - z) (omega arith) in
    ap (λ k. k % 2 ^ 32) sum ∙ add-mul-mod_self_right (a - m * z) m (2 ^ 32) ∙ (omega arith)
  where
    whole : (w : ℕ) → w + z ≡ 2 ^ 32 → a + m * w ≡ a - m * z + m * 2 ^ 32
    whole w is = let product : m * (w + z) ≡ m * 2 ^ 32 = ap (λ k. m * k) is in omega arith

pub stepped_up : (z n a : ℕ) → a + n * z < 2 ^ 32 → stepped false z n a ≡ a + n * z
unfolding stepped
stepped_up z n a low = omega arith
