-- What elements that are copied or filled one after another leave in memory, upwards: all of them are mapped, so that they are one span.
use Rattle.std.proofs.Common.{◌≡◌, ◌⊎◌, inl, inr, ⊎_elim, ℕ, zero, suc, ◌+◌, ◌-◌, ◌*◌, ◌/◌, ◌%◌, ◌^◌, ◌<◌, ◌≤◌, ◌==◌, ◌&&◌, ◌||◌, Bool, true, false, ◌∷◌, Option, Some, None, refl, sym, ◌∙◌, ap, subst, arith, lit<, eqb-true, eq-eqb}
use Rattle.std.specs.Prelude.{not, is_some}
use Rattle.std.proofs.lemmas.Bool.{false≢true, and_parts, cases_lt, or_left, or_right}
use Rattle.std.proofs.lemmas.Nat.{pow-add}
use Rattle.std.proofs.Math.Nat.{add-mod_right, mod-eq_of_lt, div-div-eq-div-mul}
use Rattle.image_map.specs.declared.image.Image.{Image}
use Rattle.image_map.specs.Queries.{is_in_segment, is_writable}
use Rattle.image_map.specs.Whole.{IsImage}
use Rattle.ia32_semantics.specs.CallModel.{IsLaidOut}
use Rattle.ia32_semantics.specs.Effects.{stores, copies, changed, all_changed, overwritten, byte_or_zero, bytes_from, is_among, is_of_bytes, is_open, is_mapped, all_among, effect_fits, effects_fit, effects_write, effects_take}
use Rattle.ia32_semantics.specs.Operands.{number_bytes}
use Rattle.ia32_semantics.specs.State.{State, Bytes, AtByte, bytes_at, joined, little_endian}
use Rattle.ia32_semantics.specs.Strings.{stepped, copied, filled}
use Rattle.ia32_semantics.proofs.EffectLemmas.{or_true, put_here, put_other, overwritten_other, of_bytes_from, overwritten_below, changed_maps, all_fit_same}
use Rattle.abs_semantics.specs.Stores.{with_memory}
use Rattle.abs_semantics.specs.Ranges.{repeated}
use Rattle.abs_semantics.proofs.StackLemmas.{mapped_high}
use Rattle.step_soundness.proofs.StoreLaws.{outside, each_passes}
use Rattle.step_soundness.proofs.WriteLaws.{stored_within, number_within}

-- -- Addresses in a row

same_place : (a : ℕ) → (a == a + 0) ≡ true
same_place a = eq-eqb a (a + 0) (omega arith)

later_place : (a k : ℕ) → (a == a + suc k) ≡ false
later_place a k = by (a == a + suc k) refl
  where
    by : (b : Bool) → (a == a + suc k) ≡ b → b ≡ false
    by true e = let same : a ≡ a + suc k = eqb-true a (a + suc k) e in absurd (omega (arith, same))
    by false e = refl

pub among_bounds : (a n x : ℕ) → is_among a n x ≡ true → (a ≤ x) × (x < a + n)
among_bounds a zero x e = absurd (false≢true e)
among_bounds a (suc n) x e =
    or_true (a == x) _ e
    (λ f. let same : a ≡ x = eqb-true a x f in (omega (arith, same), omega (arith, same)))
    (λ f. let rest : (a + 1 ≤ x) × (x < a + 1 + n) = among_bounds (a + 1) n x f in (omega (arith, rest), omega (arith, rest)))

pub among_there : (a n k : ℕ) → k < n → is_among a n (a + k) ≡ true
among_there a zero k lt = absurd (omega (arith, lt))
among_there a (suc n) zero lt = or_left (a == a + 0) _ (same_place a)
among_there a (suc n) (suc k) lt = or_right (a == a + suc k) _ (subst (λ x. is_among (a + 1) n x ≡ true) (let e : a + 1 + k ≡ a + suc k = omega arith in e) (among_there (a + 1) n k (omega (arith, lt))))

not_among : (a n x : ℕ) → (x < a) ⊎ (a + n ≤ x) → is_among a n x ≡ false
not_among a n x far = by (is_among a n x) refl
  where
    apart : (a ≤ x) × (x < a + n) → (x < a) ⊎ (a + n ≤ x) → ⊥
    apart in_ (inl low) = omega (arith, in_, low)
    apart in_ (inr high) = omega (arith, in_, high)

    by : (b : Bool) → is_among a n x ≡ b → b ≡ false
    by true e = absurd (apart (among_bounds a n x e) far)
    by false e = refl

pub each_among : (test : ℕ → Bool) (a n : ℕ) → all_among test a n ≡ true → (k : ℕ) → k < n → test (a + k) ≡ true
each_among test a zero e k lt = absurd (omega (arith, lt))
each_among test a (suc n) e zero lt = subst (λ x. test x ≡ true) (let same : a ≡ a + 0 = omega arith in same) (and_parts (test a) (all_among test (a + 1) n) e).0
each_among test a (suc n) e (suc k) lt =
    subst (λ x. test x ≡ true) (let same : a + 1 + k ≡ a + suc k = omega arith in same) (each_among test (a + 1) n (and_parts (test a) (all_among test (a + 1) n) e).1 k (omega (arith, lt)))

-- -- Bytes

module _ (m : Bytes) (small : (a byte : ℕ) → m a ≡ Some byte → byte < 256) where
  own_byte : (a : ℕ) → is_some (m a) ≡ true → Some (byte_or_zero (m a) % 256) ≡ m a
  own_byte a there = by (m a) refl there
    where
      by : (o : Option ℕ) → m a ≡ o → is_some o ≡ true → Some (byte_or_zero o % 256) ≡ o
      by None is e = absurd (false≢true e)
      by (Some byte) is e = let lt = small a byte is in ap (λ b. Some b) (let same : byte % 256 ≡ byte = omega (arith, lt) in same)

  -- bytes that were copied to an address
  copied_there : (base : Bytes) (from to n k : ℕ) → ((j : ℕ) → j < n → is_some (m (from + j)) ≡ true) → k < n → overwritten base to (bytes_from m from n) (to + k) ≡ m (from + k)
  copied_there base from to zero k there lt = absurd (omega (arith, lt))
  copied_there base from to (suc n) zero there lt =
      let none : from + 0 ≡ from = omega arith in
      put_here (overwritten base (to + 1) (bytes_from m (from + 1) n)) to (Some (byte_or_zero (m from) % 256)) (to + 0) (same_place to)
      ∙ own_byte from (subst (λ x. is_some (m x) ≡ true) none (there 0 (omega arith))) ∙ ap m (sym none)
  copied_there base from to (suc n) (suc k) there lt =
      let more : to + 1 + k ≡ to + suc k = omega arith in
      let next : from + 1 + k ≡ from + suc k = omega arith in
      put_other (overwritten base (to + 1) (bytes_from m (from + 1) n)) to (Some (byte_or_zero (m from) % 256)) (to + suc k) (later_place to k)
      ∙ ap (overwritten base (to + 1) (bytes_from m (from + 1) n)) (sym more)
      ∙ copied_there base (from + 1) (to + 1) n k
      (λ j less. subst (λ x. is_some (m x) ≡ true) (let step : from + suc j ≡ from + 1 + j = omega arith in step) (there (suc j) (omega (arith, less)))) (omega (arith, lt))
      ∙ ap m next

  -- bytes of a number that was stored
  number_there : (to n value k : ℕ) → k < n → overwritten m to (number_bytes n value) (to + k) ≡ Some (value / 2 ^ (8 * k) % 256)
  number_there to zero value k lt = absurd (omega (arith, lt))
  number_there to (suc n) value zero lt =
      put_here (overwritten m (to + 1) (number_bytes n (value / 256))) to (Some (value % 256 % 256)) (to + 0) (same_place to)
      ∙ ap (λ b. Some b) (let e : value % 256 % 256 ≡ value / 1 % 256 = omega arith in e)
  number_there to (suc n) value (suc k) lt =
      let more : to + 1 + k ≡ to + suc k = omega arith in
      let eight : 8 + 8 * k ≡ 8 * suc k = omega arith in
      let high : value / 256 / 2 ^ (8 * k) ≡ value / 2 ^ (8 * suc k) =
      div-div-eq-div-mul value 256 (2 ^ (8 * k)) ∙ ap (λ j. value / j) (sym (pow-add 2 8 (8 * k)) ∙ ap (λ j. 2 ^ j) eight) in
      put_other (overwritten m (to + 1) (number_bytes n (value / 256))) to (Some (value % 256 % 256)) (to + suc k) (later_place to k)
      ∙ ap (overwritten m (to + 1) (number_bytes n (value / 256))) (sym more)
      ∙ number_there (to + 1) n (value / 256) k (omega (arith, lt)) ∙ ap (λ j. Some (j % 256)) high

  -- bytes that are mapped are read as they are, and are those of the number that they make
  pub read_bytes : (a n : ℕ) → all_among (is_mapped m) a n ≡ true → bytes_at m a n ≡ Some (bytes_from m a n)
  unfolding bytes_at
  read_bytes a zero there = refl
  read_bytes a (suc n) there =
      let both = and_parts (is_mapped m a) (all_among (is_mapped m) (a + 1) n) there in
      by (m a) both.0 (read_bytes (a + 1) n both.1)
    where
      by : (o : Option ℕ) → is_some o ≡ true → bytes_at m (a + 1) n ≡ Some (bytes_from m (a + 1) n) → joined o (bytes_at m (a + 1) n) ≡ Some (byte_or_zero o ∷ bytes_from m (a + 1) n)
      by None e rest = absurd (false≢true e)
      by (Some byte) e rest = ap (joined (Some byte)) rest

  byte_small : (o : Option ℕ) → ((byte : ℕ) → o ≡ Some byte → byte < 256) → byte_or_zero o < 256
  byte_small None below = lit< tt
  byte_small (Some byte) below = below byte refl

  pub bytes_back : (a n : ℕ) → number_bytes n (little_endian (bytes_from m a n)) ≡ bytes_from m a n
  unfolding little_endian
  bytes_back a zero = refl
  bytes_back a (suc n) =
      let first = byte_or_zero (m a) in
      let rest = little_endian (bytes_from m (a + 1) n) in
      let below : first < 256 = byte_small (m a) (small a) in
      let low : (first + 256 * rest) % 256 ≡ first = omega (arith, below) in
      let high : (first + 256 * rest) / 256 ≡ rest = omega (arith, below) in
      (λ i. low i ∷ number_bytes n (high i)) ∙ ap (λ bs. first ∷ bs) (bytes_back (a + 1) n)

-- -- Mapped bytes lie below the end of the addresses

pub low_bytes : (image : Image) (s : State) → IsImage image → IsLaidOut image s → (a : ℕ) → is_some (s.memory a) ≡ true → a + 4 < 4294967296
low_bytes image s good laid a there =
    ⊎_elim
    (λ low. omega (arith, low))
    (λ high. let bounds : (0x90000000 ≤ a) × (a < 0xC0000000) = mapped_high image s good laid a there high in omega (arith, bounds))
    (cases_lt a 2147483648)

step_up : (z a : ℕ) → a + z < 4294967296 → stepped false z 1 a ≡ a + z
unfolding stepped
step_up z a low = omega arith

-- -- Elements upwards

-- what copying n elements of z bytes leaves
pub record Copies (image : Image) (s : State) (z n from to : ℕ) : Type 0 where
  pub is : all_changed (copied false z n from to) s ≡ with_memory s (all_changed (copied false z n from to) s).memory
  pub opened : (k : ℕ) → k < n * z → is_open image s.memory (to + k) ≡ true
  pub mapped : (k : ℕ) → k < n * z → is_some (s.memory (from + k)) ≡ true
  pub others : (y : ℕ) → (y < to) ⊎ (to + n * z ≤ y) → (all_changed (copied false z n from to) s).memory y ≡ s.memory y
  -- where neither range reaches into the other
  pub copied_is : (from + n * z ≤ to) ⊎ (to + n * z ≤ from) → (k : ℕ) → k < n * z → (all_changed (copied false z n from to) s).memory (to + k) ≡ s.memory (from + k)
  pub write : (x : ℕ) → effects_write (copied false z n from to) (AtByte x) ≡ true → (to ≤ x) × (x < to + n * z)
  pub take : (x : ℕ) → effects_take (copied false z n from to) (AtByte x) ≡ true → (from ≤ x) × (x < from + n * z)
  pub all : (k : ℕ) → k < n * z → effects_write (copied false z n from to) (AtByte (to + k)) ≡ true

-- what filling n elements of z bytes with a number leaves
pub record Fills (image : Image) (s : State) (z value n to : ℕ) : Type 0 where
  pub is : all_changed (filled false z value n to) s ≡ with_memory s (all_changed (filled false z value n to) s).memory
  pub opened : (k : ℕ) → k < n * z → is_open image s.memory (to + k) ≡ true
  pub others : (y : ℕ) → (y < to) ⊎ (to + n * z ≤ y) → (all_changed (filled false z value n to) s).memory y ≡ s.memory y
  pub held : (k : ℕ) → k < n * z → (all_changed (filled false z value n to) s).memory (to + k) ≡ Some (value / 2 ^ (8 * (k % z)) % 256)
  pub write : (x : ℕ) → effects_write (filled false z value n to) (AtByte x) ≡ true → (to ≤ x) × (x < to + n * z)
  pub take : (x : ℕ) → effects_take (filled false z value n to) (AtByte x) ≡ false
  pub all : (k : ℕ) → k < n * z → effects_write (filled false z value n to) (AtByte (to + k)) ≡ true

-- memory holds bytes, none of them near the end of the addresses
pub record IsLow (s : State) : Type 0 where
  pub bytes : (a byte : ℕ) → s.memory a ≡ Some byte → byte < 256
  pub low : (a : ℕ) → is_some (s.memory a) ≡ true → a + 4 < 4294967296

module _ (image : Image) (z : ℕ) (some : 1 ≤ z) (few : z ≤ 4) where
  -- the last of an element's bytes is mapped
  last_low : (s : State) → IsLow s → (a : ℕ) → ((k : ℕ) → k < z → is_some (s.memory (a + k)) ≡ true) → a + z < 4294967296
  last_low s is a there = let last : a + (z - 1) + 4 < 4294967296 = is.low (a + (z - 1)) (there (z - 1) (omega (arith, some))) in omega (arith, last, some)

  pub copies_up : (n : ℕ) (s : State) (from to : ℕ) → IsLow s → effects_fit image s.memory (copied false z n from to) ≡ true → Copies image s z n from to
  copies_up zero s from to is fits =
      record {
        is = refl;
        opened = λ k lt. absurd (omega (arith, lt));
        mapped = λ k lt. absurd (omega (arith, lt));
        others = λ y far. refl;
        copied_is = λ far k lt. absurd (omega (arith, lt));
        write = λ x e. absurd (false≢true e);
        take = λ x e. absurd (false≢true e);
        all = λ k lt. absurd (omega (arith, lt));
      }
  copies_up (suc n) s from to is fits = up (copies_up n)
    where
      both : (effect_fits image s.memory (copies to from z) ≡ true) × (effects_fit image s.memory (copied false z n (stepped false z 1 from) (stepped false z 1 to)) ≡ true)
      both = and_parts (effect_fits image s.memory (copies to from z)) (effects_fit image s.memory (copied false z n (stepped false z 1 from) (stepped false z 1 to))) fits

      two : (all_among (is_mapped s.memory) from z ≡ true) × (all_among (is_open image s.memory) to z ≡ true)
      two = and_parts (all_among (is_mapped s.memory) from z) (all_among (is_open image s.memory) to z) both.0

      there : (k : ℕ) → k < z → is_some (s.memory (from + k)) ≡ true
      there = each_among (is_mapped s.memory) from z two.0

      here : (k : ℕ) → k < z → is_open image s.memory (to + k) ≡ true
      here = each_among (is_open image s.memory) to z two.1

      next_from : stepped false z 1 from ≡ from + z
      next_from = step_up z from (last_low s is from there)

      next_to : stepped false z 1 to ≡ to + z
      next_to = step_up z to (last_low s is to (λ k lt. (and_parts _ _ (here k lt)).0))

      list_is : copied false z (suc n) from to ≡ copies to from z ∷ copied false z n (from + z) (to + z)
      list_is = λ i. copies to from z ∷ copied false z n (next_from i) (next_to i)

      same_maps : (a : ℕ) → is_some ((changed (copies to from z) s).memory a) ≡ is_some (s.memory a)
      same_maps = (changed_maps image (copies to from z) s both.0).same

      t_low : IsLow (changed (copies to from z) s)
      t_low = record { bytes = overwritten_below s.memory to (bytes_from s.memory from z) is.bytes; low = λ a e. is.low a (sym (same_maps a) ∙ e) }

      t_fits : effects_fit image (changed (copies to from z) s).memory (copied false z n (from + z) (to + z)) ≡ true
      t_fits =
          all_fit_same image (changed (copies to from z) s).memory s.memory (copied false z n (from + z) (to + z)) (changed_maps image (copies to from z) s both.0)
          ∙ (λ i. effects_fit image s.memory (copied false z n (sym next_from i) (sym next_to i))) ∙ both.1

      apart_here : (y : ℕ) → (y < to) ⊎ (to + z ≤ y) → (changed (copies to from z) s).memory y ≡ s.memory y
      apart_here y far = overwritten_other s.memory to (bytes_from s.memory from z) y (of_bytes_from s.memory from to z y ∙ not_among to z y far)

      up : ((u : State) (from to : ℕ) → IsLow u → effects_fit image u.memory (copied false z n from to) ≡ true → Copies image u z n from to) → Copies image s z (suc n) from to
      up more =
          let rest = more (changed (copies to from z) s) (from + z) (to + z) t_low t_fits in
          let sum : suc n * z ≡ z + n * z = omega arith in
          let end : to + suc n * z ≡ to + z + n * z = omega arith in
          let memory_is : (all_changed (copied false z (suc n) from to) s).memory ≡ (all_changed (copied false z n (from + z) (to + z)) (changed (copies to from z) s)).memory = ap (λ es. (all_changed es s).memory) list_is in
          record {
            is = ap (λ es. all_changed es s) list_is ∙ rest.is ∙ ap (with_memory s) (sym memory_is);
            opened = λ k lt. ⊎_elim (here k)
                (λ far. sym (open_same (to + k))
                ∙ subst (λ x. is_open image (changed (copies to from z) s).memory x ≡ true) (let e : to + z + (k - z) ≡ to + k = omega (arith, far) in e) (rest.opened (k - z) (omega (arith, far, lt, sum))))
                (cases_lt k z);
            mapped = λ k lt. ⊎_elim (there k)
                (λ far. sym (same_maps (from + k))
                ∙ subst (λ x. is_some ((changed (copies to from z) s).memory x) ≡ true) (let e : from + z + (k - z) ≡ from + k = omega (arith, far) in e) (rest.mapped (k - z) (omega (arith, far, lt, sum))))
                (cases_lt k z);
            others = λ y far. ap (λ m. m y) memory_is ∙ rest.others y (later far end) ∙ apart_here y (first far end);
            copied_is = λ far k lt. ap (λ m. m (to + k)) memory_is ∙ ⊎_elim
                (λ low. rest.others (to + k) (inl (omega (arith, low))) ∙ copied_there s.memory is.bytes s.memory from to z k there low)
                (λ high. moved rest.copied_is far k lt high)
                (cases_lt k z);
            write = λ x e. wrote rest.write x e;
            take = λ x e. took rest.take x e;
            all = λ k lt. ap (λ es. effects_write es (AtByte (to + k))) list_is ∙ ⊎_elim
                (λ low. or_left _ _ (among_there to z k low))
                (λ far. or_right _ _ (subst (λ x. effects_write (copied false z n (from + z) (to + z)) (AtByte x) ≡ true) (let e : to + z + (k - z) ≡ to + k = omega (arith, far) in e) (rest.all (k - z) (omega (arith, far, lt, sum)))))
                (cases_lt k z);
          }
        where
          open_same : (x : ℕ) → is_open image (changed (copies to from z) s).memory x ≡ is_open image s.memory x
          open_same x = ap (λ b. b && (not (is_in_segment image x) || is_writable image x)) (same_maps x)

          later : {y e : ℕ} → (y < to) ⊎ (e ≤ y) → e ≡ to + z + n * z → (y < to + z) ⊎ (to + z + n * z ≤ y)
          later (inl low) is = inl (omega (arith, low))
          later (inr high) is = inr (omega (arith, high, is))

          first : {y e : ℕ} → (y < to) ⊎ (e ≤ y) → e ≡ to + z + n * z → (y < to) ⊎ (to + z ≤ y)
          first (inl low) is = inl low
          first (inr high) is = inr (omega (arith, high, is))

          moved : ((from + z + n * z ≤ to + z) ⊎ (to + z + n * z ≤ from + z) → (k : ℕ) → k < n * z → (all_changed (copied false z n (from + z) (to + z)) (changed (copies to from z) s)).memory (to + z + k) ≡ (changed (copies to from z) s).memory (from + z + k))
              → (from + suc n * z ≤ to) ⊎ (to + suc n * z ≤ from) → (k : ℕ) → k < suc n * z → z ≤ k → (all_changed (copied false z n (from + z) (to + z)) (changed (copies to from z) s)).memory (to + k) ≡ s.memory (from + k)
          moved rest far k lt high =
              let sum : suc n * z ≡ z + n * z = omega arith in
              let place : to + z + (k - z) ≡ to + k = omega (arith, high) in
              let source : from + z + (k - z) ≡ from + k = omega (arith, high) in
              ap (all_changed (copied false z n (from + z) (to + z)) (changed (copies to from z) s)).memory (sym place)
              ∙ rest (shifted far) (k - z) (omega (arith, high, lt, sum))
              ∙ ap (changed (copies to from z) s).memory source ∙ apart_here (from + k) (away far)
            where
              shifted : (from + suc n * z ≤ to) ⊎ (to + suc n * z ≤ from) → (from + z + n * z ≤ to + z) ⊎ (to + z + n * z ≤ from + z)
              shifted (inl before) = let sum : suc n * z ≡ z + n * z = omega arith in inl (omega (arith, before, sum))
              shifted (inr after) = let sum : suc n * z ≡ z + n * z = omega arith in inr (omega (arith, after, sum))

              away : (from + suc n * z ≤ to) ⊎ (to + suc n * z ≤ from) → (from + k < to) ⊎ (to + z ≤ from + k)
              away (inl before) = inl (omega (arith, before, lt))
              away (inr after) = let sum : suc n * z ≡ z + n * z = omega arith in inr (omega (arith, after, sum))

          wrote : ((x : ℕ) → effects_write (copied false z n (from + z) (to + z)) (AtByte x) ≡ true → (to + z ≤ x) × (x < to + z + n * z))
              → (x : ℕ) → effects_write (copied false z (suc n) from to) (AtByte x) ≡ true → (to ≤ x) × (x < to + suc n * z)
          wrote rest x e =
              let sum : suc n * z ≡ z + n * z = omega arith in
              or_true (is_among to z x) _ (sym (ap (λ es. effects_write es (AtByte x)) list_is) ∙ e)
              (λ f. let near = among_bounds to z x f in (near.0, omega (arith, near, sum)))
              (λ f. let near = rest x f in (omega (arith, near), omega (arith, near, sum)))

          took : ((x : ℕ) → effects_take (copied false z n (from + z) (to + z)) (AtByte x) ≡ true → (from + z ≤ x) × (x < from + z + n * z))
              → (x : ℕ) → effects_take (copied false z (suc n) from to) (AtByte x) ≡ true → (from ≤ x) × (x < from + suc n * z)
          took rest x e =
              let sum : suc n * z ≡ z + n * z = omega arith in
              or_true (is_among from z x) _ (sym (ap (λ es. effects_take es (AtByte x)) list_is) ∙ e)
              (λ f. let near = among_bounds from z x f in (near.0, omega (arith, near, sum)))
              (λ f. let near = rest x f in (omega (arith, near), omega (arith, near, sum)))

  pub fills_up : (value n : ℕ) (s : State) (to : ℕ) → IsLow s → effects_fit image s.memory (filled false z value n to) ≡ true → Fills image s z value n to
  fills_up value zero s to is fits =
      record {
        is = refl;
        opened = λ k lt. absurd (omega (arith, lt));
        others = λ y far. refl;
        held = λ k lt. absurd (omega (arith, lt));
        write = λ x e. absurd (false≢true e);
        take = λ x. refl;
        all = λ k lt. absurd (omega (arith, lt));
      }
  fills_up value (suc n) s to is fits = up (fills_up value n)
    where
      both : (effect_fits image s.memory (stores to (number_bytes z value)) ≡ true) × (effects_fit image s.memory (filled false z value n (stepped false z 1 to)) ≡ true)
      both = and_parts (effect_fits image s.memory (stores to (number_bytes z value))) (effects_fit image s.memory (filled false z value n (stepped false z 1 to))) fits

      here : (k : ℕ) → k < z → is_open image s.memory (to + k) ≡ true
      here = each_passes (is_open image s.memory) z to value both.0

      next_to : stepped false z 1 to ≡ to + z
      next_to = step_up z to (last_low s is to (λ k lt. (and_parts _ _ (here k lt)).0))

      list_is : filled false z value (suc n) to ≡ stores to (number_bytes z value) ∷ filled false z value n (to + z)
      list_is = λ i. stores to (number_bytes z value) ∷ filled false z value n (next_to i)

      same_maps : (a : ℕ) → is_some ((changed (stores to (number_bytes z value)) s).memory a) ≡ is_some (s.memory a)
      same_maps = (changed_maps image (stores to (number_bytes z value)) s both.0).same

      t_low : IsLow (changed (stores to (number_bytes z value)) s)
      t_low = record { bytes = overwritten_below s.memory to (number_bytes z value) is.bytes; low = λ a e. is.low a (sym (same_maps a) ∙ e) }

      t_fits : effects_fit image (changed (stores to (number_bytes z value)) s).memory (filled false z value n (to + z)) ≡ true
      t_fits =
          all_fit_same image (changed (stores to (number_bytes z value)) s).memory s.memory (filled false z value n (to + z)) (changed_maps image (stores to (number_bytes z value)) s both.0)
          ∙ (λ i. effects_fit image s.memory (filled false z value n (sym next_to i))) ∙ both.1

      apart_here : (y : ℕ) → (y < to) ⊎ (to + z ≤ y) → (changed (stores to (number_bytes z value)) s).memory y ≡ s.memory y
      apart_here y far = overwritten_other s.memory to (number_bytes z value) y (outside z to value y far)

      up : ((s : State) (to : ℕ) → IsLow s → effects_fit image s.memory (filled false z value n to) ≡ true → Fills image s z value n to) → Fills image s z value (suc n) to
      up more =
          let rest = more (changed (stores to (number_bytes z value)) s) (to + z) t_low t_fits in
          let sum : suc n * z ≡ z + n * z = omega arith in
          let end : to + suc n * z ≡ to + z + n * z = omega arith in
          let memory_is : (all_changed (filled false z value (suc n) to) s).memory ≡ (all_changed (filled false z value n (to + z)) (changed (stores to (number_bytes z value)) s)).memory = ap (λ es. (all_changed es s).memory) list_is in
          record {
            is = ap (λ es. all_changed es s) list_is ∙ rest.is ∙ ap (with_memory s) (sym memory_is);
            opened = λ k lt. ⊎_elim (here k)
                (λ far. sym (open_same (to + k))
                ∙ subst (λ x. is_open image (changed (stores to (number_bytes z value)) s).memory x ≡ true) (let e : to + z + (k - z) ≡ to + k = omega (arith, far) in e) (rest.opened (k - z) (omega (arith, far, lt, sum))))
                (cases_lt k z);
            others = λ y far. ap (λ m. m y) memory_is ∙ rest.others y (later far end) ∙ apart_here y (first far end);
            held = λ k lt. ap (λ m. m (to + k)) memory_is ∙ ⊎_elim
                (λ low. rest.others (to + k) (inl (omega (arith, low))) ∙ number_there s.memory is.bytes to z value k low ∙ ap (λ j. Some (value / 2 ^ (8 * j) % 256)) (sym (mod-eq_of_lt low)))
                (λ high. ap (all_changed (filled false z value n (to + z)) (changed (stores to (number_bytes z value)) s)).memory (let place : to + k ≡ to + z + (k - z) = omega (arith, high) in place)
                ∙ rest.held (k - z) (omega (arith, high, lt, sum)) ∙ ap (λ j. Some (value / 2 ^ (8 * j) % 256)) (turn k high))
                (cases_lt k z);
            write = λ x e. or_true (is_of_bytes to (number_bytes z value) x) _ (sym (ap (λ es. effects_write es (AtByte x)) list_is) ∙ e)
                (λ f. let near : (to ≤ x) × (x < to + z) = stored_within z to value x f in (near.0, omega (arith, near, sum)))
                (λ f. let near : (to + z ≤ x) × (x < to + z + n * z) = rest.write x f in (omega (arith, near), omega (arith, near, sum)));
            take = λ x. ap (λ es. effects_take es (AtByte x)) list_is ∙ rest.take x;
            all = λ k lt. ap (λ es. effects_write es (AtByte (to + k))) list_is ∙ ⊎_elim
                (λ low. or_left _ _ (number_within z to value k low))
                (λ far. or_right _ _ (subst (λ x. effects_write (filled false z value n (to + z)) (AtByte x) ≡ true) (let e : to + z + (k - z) ≡ to + k = omega (arith, far) in e) (rest.all (k - z) (omega (arith, far, lt, sum)))))
                (cases_lt k z);
          }
        where
          open_same : (x : ℕ) → is_open image (changed (stores to (number_bytes z value)) s).memory x ≡ is_open image s.memory x
          open_same x = ap (λ b. b && (not (is_in_segment image x) || is_writable image x)) (same_maps x)

          later : {y e : ℕ} → (y < to) ⊎ (e ≤ y) → e ≡ to + z + n * z → (y < to + z) ⊎ (to + z + n * z ≤ y)
          later (inl low) is = inl (omega (arith, low))
          later (inr high) is = inr (omega (arith, high, is))

          first : {y e : ℕ} → (y < to) ⊎ (e ≤ y) → e ≡ to + z + n * z → (y < to) ⊎ (to + z ≤ y)
          first (inl low) is = inl low
          first (inr high) is = inr (omega (arith, high, is))

          -- a full element further
          turn : (k : ℕ) → z ≤ k → (k - z) % z ≡ k % z
          turn k high = sym (add-mod_right (k - z) z) ∙ ap (λ j. j % z) (let back : k - z + z ≡ k = omega (arith, high) in back)

-- the bytes that a range of such elements holds
pub repeated_read : (m : Bytes) (at z value len : ℕ) → ((k : ℕ) → k < len → m (at + k) ≡ Some (value / 2 ^ (8 * (k % z)) % 256))
    → (distance count : ℕ) → distance + count ≤ len → bytes_at m (at + distance) count ≡ Some (repeated z value distance count)
unfolding bytes_at repeated
repeated_read m at z value len held distance zero within = refl
repeated_read m at z value len held distance (suc count) within =
    let first = held distance (omega (arith, within)) in
    let further : at + distance + 1 ≡ at + (distance + 1) = omega arith in
    let rest : bytes_at m (at + distance + 1) count ≡ Some (repeated z value (distance + 1) count) =
    ap (λ x. bytes_at m x count) further ∙ repeated_read m at z value len held (distance + 1) count (omega (arith, within)) in
    (λ i. joined (first i) (rest i))
