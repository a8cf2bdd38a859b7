-- An offset in an activation whose base is known modulo 16, lowered to a multiple of a power of 2: what `and` with the negative of the
-- power gives.
use Rattle.std.proofs.Common.{◌≡◌, inl, inr, ℕ, ◌+◌, ◌-◌, ◌*◌, ◌/◌, ◌%◌, ◌<◌, ◌==◌, Bool, true, false, cond, [], ◌∷◌, Option, Some, None, refl, sym, ◌∙◌, ap, subst, arith, lit<}
use Rattle.std.proofs.lemmas.Int.{ints, int_rem_euclid_is}
use Rattle.std.proofs.lemmas.Bool.{cond_both, eqb-true}
use Rattle.std.proofs.lemmas.Option.{none-some, same_Some}
use Rattle.std.proofs.lemmas.Nat.Bits.{and_high_mask}
use Rattle.std.specs.Prelude.{ℤ, pos, negsuc, ◌+ℤ◌, unsigned_abs, bit_and}
use Rattle.std.specs.Ordering.{int_eq}
use Rattle.std.specs.Int.{int_rem_euclid, int_wrap}
use Rattle.image_map.specs.declared.region.RegionId.{RegionId}
use Rattle.image_map.specs.declared.region.RegionId.TheVariants.{Global, Frame, OldFrame, Heap, OldHeap}
use Rattle.ia32_semantics.specs.State.{State}
use Rattle.strided.specs.Concrete.{signed}
use Rattle.strided.specs.Interval.{Interval}
use Rattle.strided.specs.Operations.{only}
use Rattle.si_bits.specs.Concrete as concrete
use Rattle.si_bits.proofs.MemberLemmas.{member_single}
use Rattle.si_bits.proofs.SignLemmas.{word-number}
use Rattle.vset.specs.declared.part.Part.{Part}
use Rattle.vset.specs.Members.{HasValue, IsPartMember}
use Rattle.vset.specs.Operations.{sub}
use Rattle.vset.specs.Values.{Values, Top, Parts, CanonicalValues, only_number}
use Rattle.vset.specs.World.{base_of}
use Rattle.abs_alu.specs.Words.{number}
use Rattle.abs_alu.proofs.CanonicalLemmas.{sub_values_canonical}
use Rattle.abs_alu.proofs.WordLemmas.{only_has}
use Rattle.abs_semantics.specs.States.{AbsState, known_of}
use Rattle.abs_semantics.specs.StandsFor.{StandsFor, world_of}
use Rattle.std.specs.Cmp.{signed_Decides}
use Rattle.abs_steps.specs.Calls.{remainder}
use Rattle.abs_steps.specs.Results.{power_of, only_of, align_of, lowered, lowered_by}
use Rattle.step_soundness.proofs.PointerLaws.{lowered_has}
use Rattle.step_soundness.proofs.ValueForms.{small_form}

-- -- The powers

each_power : (P : ℤ → ℕ → Type 0) → P (negsuc 0) 1 → P (negsuc 1) 2 → P (negsuc 3) 4 → P (negsuc 7) 8 → P (negsuc 15) 16 → (z : ℤ) (k : ℕ) → power_of (Some z) ≡ Some k → P z k
each_power P p1 p2 p4 p8 p16 z k =
    cond_both (int_eq z (negsuc 0)) (Some 1) _ (λ o. o ≡ Some k → P z k) (λ e. found (negsuc 0) 1 e p1)
    (λ _. cond_both (int_eq z (negsuc 1)) (Some 2) _ (λ o. o ≡ Some k → P z k) (λ e. found (negsuc 1) 2 e p2)
    (λ _. cond_both (int_eq z (negsuc 3)) (Some 4) _ (λ o. o ≡ Some k → P z k) (λ e. found (negsuc 3) 4 e p4)
    (λ _. cond_both (int_eq z (negsuc 7)) (Some 8) _ (λ o. o ≡ Some k → P z k) (λ e. found (negsuc 7) 8 e p8)
    (λ _. cond_both (int_eq z (negsuc 15)) (Some 16) None (λ o. o ≡ Some k → P z k) (λ e. found (negsuc 15) 16 e p16)
    (λ _ f. absurd (none-some k f))))))
  where
    found : (y : ℤ) (j : ℕ) → int_eq z y ≡ true → P y j → Some j ≡ Some k → P z k
    found y j e h f = subst (λ x. P x k) (sym ((signed_Decides z y).0 e)) (subst (P y) (same_Some j k f) h)

-- remainders by a number that isn't 0
rem_above : (b n : ℕ) → 0 < n → int_rem_euclid (pos b) (pos n) ≡ pos (b % n)
rem_above b n some = int_rem_euclid_is (pos b) (pos n) n 0 b some refl (omega (arith, ints))

rem_1 : (b : ℕ) → int_rem_euclid (negsuc b) (pos 1) ≡ pos ((b + 1) * 0 % 1)
rem_1 b = int_rem_euclid_is (negsuc b) (pos 1) 1 (b + 1) ((b + 1) * 0) (lit< tt) refl (omega (arith, ints))

rem_2 : (b : ℕ) → int_rem_euclid (negsuc b) (pos 2) ≡ pos ((b + 1) * 1 % 2)
rem_2 b = int_rem_euclid_is (negsuc b) (pos 2) 2 (b + 1) ((b + 1) * 1) (lit< tt) refl (omega (arith, ints))

rem_4 : (b : ℕ) → int_rem_euclid (negsuc b) (pos 4) ≡ pos ((b + 1) * 3 % 4)
rem_4 b = int_rem_euclid_is (negsuc b) (pos 4) 4 (b + 1) ((b + 1) * 3) (lit< tt) refl (omega (arith, ints))

rem_8 : (b : ℕ) → int_rem_euclid (negsuc b) (pos 8) ≡ pos ((b + 1) * 7 % 8)
rem_8 b = int_rem_euclid_is (negsuc b) (pos 8) 8 (b + 1) ((b + 1) * 7) (lit< tt) refl (omega (arith, ints))

rem_16 : (b : ℕ) → int_rem_euclid (negsuc b) (pos 16) ≡ pos ((b + 1) * 15 % 16)
rem_16 b = int_rem_euclid_is (negsuc b) (pos 16) 16 (b + 1) ((b + 1) * 15) (lit< tt) refl (omega (arith, ints))

rem_4294967296 : (b : ℕ) → int_rem_euclid (negsuc b) (pos 4294967296) ≡ pos ((b + 1) * 4294967295 % 4294967296)
rem_4294967296 b = int_rem_euclid_is (negsuc b) (pos 4294967296) 4294967296 (b + 1) ((b + 1) * 4294967295) (lit< tt) refl (omega (arith, ints))

-- a word that is an integer modulo 2^32 leaves the same by each power
word_of : (z : ℤ) (n : ℕ) → n < 4294967296 → int_rem_euclid z (pos 4294967296) ≡ pos n → concrete.word (signed z) ≡ n
unfolding int_wrap
word_of z n lt e = ap (λ y. concrete.word (concrete.number (unsigned_abs y))) e ∙ word-number n lt

word_is : (z : ℤ) (m n : ℕ) → m < 4294967296 → n < 4294967296 → int_rem_euclid z (pos 4294967296) ≡ pos n → signed (pos m) ≡ signed z → m ≡ n
word_is z m n lm ln e same =
    let own : int_rem_euclid (pos m) (pos 4294967296) ≡ pos m = rem_above m 4294967296 (lit< tt) ∙ ap pos (let f : m % 4294967296 ≡ m = omega (arith, lm) in f) in
    sym (word_of (pos m) m lm own) ∙ ap concrete.word same ∙ word_of z n ln e

abbrev Leaves : ℕ → Type 0
Leaves k = (z y : ℤ) (q m : ℕ) → m < 4294967296 → z ≡ y +ℤ pos (q * 16) → signed (pos m) ≡ signed z → unsigned_abs (int_rem_euclid y (pos k)) ≡ m % k

leaves_1 : Leaves 1
leaves_1 (pos a) (pos b) q m lm e f =
    let same : a ≡ b + q * 16 = omega (arith, ints) in
    let word_ : m ≡ a % 4294967296 = word_is (pos a) m (a % 4294967296) lm (omega arith) (rem_above a 4294967296 (lit< tt)) f in
    ap unsigned_abs (rem_above b 1 (lit< tt)) ∙ (let g : b % 1 ≡ m % 1 = omega (arith, same, word_) in g)
leaves_1 (pos a) (negsuc b) q m lm e f =
    let same : a + b + 1 ≡ q * 16 = omega (arith, ints) in
    let word_ : m ≡ a % 4294967296 = word_is (pos a) m (a % 4294967296) lm (omega arith) (rem_above a 4294967296 (lit< tt)) f in
    ap unsigned_abs (rem_1 b) ∙ (let g : (b + 1) * 0 % 1 ≡ m % 1 = omega (arith, same, word_) in g)
leaves_1 (negsuc a) (pos b) q m lm e f = absurd (omega (arith, ints))
leaves_1 (negsuc a) (negsuc b) q m lm e f =
    let same : b ≡ a + q * 16 = omega (arith, ints) in
    let word_ : m ≡ (a + 1) * 4294967295 % 4294967296 = word_is (negsuc a) m ((a + 1) * 4294967295 % 4294967296) lm (omega arith) (rem_4294967296 a) f in
    ap unsigned_abs (rem_1 b) ∙ (let g : (b + 1) * 0 % 1 ≡ m % 1 = omega (arith, same, word_) in g)

leaves_2 : Leaves 2
leaves_2 (pos a) (pos b) q m lm e f =
    let same : a ≡ b + q * 16 = omega (arith, ints) in
    let word_ : m ≡ a % 4294967296 = word_is (pos a) m (a % 4294967296) lm (omega arith) (rem_above a 4294967296 (lit< tt)) f in
    ap unsigned_abs (rem_above b 2 (lit< tt)) ∙ (let g : b % 2 ≡ m % 2 = omega (arith, same, word_) in g)
leaves_2 (pos a) (negsuc b) q m lm e f =
    let same : a + b + 1 ≡ q * 16 = omega (arith, ints) in
    let word_ : m ≡ a % 4294967296 = word_is (pos a) m (a % 4294967296) lm (omega arith) (rem_above a 4294967296 (lit< tt)) f in
    ap unsigned_abs (rem_2 b) ∙ (let g : (b + 1) * 1 % 2 ≡ m % 2 = omega (arith, same, word_) in g)
leaves_2 (negsuc a) (pos b) q m lm e f = absurd (omega (arith, ints))
leaves_2 (negsuc a) (negsuc b) q m lm e f =
    let same : b ≡ a + q * 16 = omega (arith, ints) in
    let word_ : m ≡ (a + 1) * 4294967295 % 4294967296 = word_is (negsuc a) m ((a + 1) * 4294967295 % 4294967296) lm (omega arith) (rem_4294967296 a) f in
    ap unsigned_abs (rem_2 b) ∙ (let g : (b + 1) * 1 % 2 ≡ m % 2 = omega (arith, same, word_) in g)

leaves_4 : Leaves 4
leaves_4 (pos a) (pos b) q m lm e f =
    let same : a ≡ b + q * 16 = omega (arith, ints) in
    let word_ : m ≡ a % 4294967296 = word_is (pos a) m (a % 4294967296) lm (omega arith) (rem_above a 4294967296 (lit< tt)) f in
    ap unsigned_abs (rem_above b 4 (lit< tt)) ∙ (let g : b % 4 ≡ m % 4 = omega (arith, same, word_) in g)
leaves_4 (pos a) (negsuc b) q m lm e f =
    let same : a + b + 1 ≡ q * 16 = omega (arith, ints) in
    let word_ : m ≡ a % 4294967296 = word_is (pos a) m (a % 4294967296) lm (omega arith) (rem_above a 4294967296 (lit< tt)) f in
    ap unsigned_abs (rem_4 b) ∙ (let g : (b + 1) * 3 % 4 ≡ m % 4 = omega (arith, same, word_) in g)
leaves_4 (negsuc a) (pos b) q m lm e f = absurd (omega (arith, ints))
leaves_4 (negsuc a) (negsuc b) q m lm e f =
    let same : b ≡ a + q * 16 = omega (arith, ints) in
    let word_ : m ≡ (a + 1) * 4294967295 % 4294967296 = word_is (negsuc a) m ((a + 1) * 4294967295 % 4294967296) lm (omega arith) (rem_4294967296 a) f in
    ap unsigned_abs (rem_4 b) ∙ (let g : (b + 1) * 3 % 4 ≡ m % 4 = omega (arith, same, word_) in g)

leaves_8 : Leaves 8
leaves_8 (pos a) (pos b) q m lm e f =
    let same : a ≡ b + q * 16 = omega (arith, ints) in
    let word_ : m ≡ a % 4294967296 = word_is (pos a) m (a % 4294967296) lm (omega arith) (rem_above a 4294967296 (lit< tt)) f in
    ap unsigned_abs (rem_above b 8 (lit< tt)) ∙ (let g : b % 8 ≡ m % 8 = omega (arith, same, word_) in g)
leaves_8 (pos a) (negsuc b) q m lm e f =
    let same : a + b + 1 ≡ q * 16 = omega (arith, ints) in
    let word_ : m ≡ a % 4294967296 = word_is (pos a) m (a % 4294967296) lm (omega arith) (rem_above a 4294967296 (lit< tt)) f in
    ap unsigned_abs (rem_8 b) ∙ (let g : (b + 1) * 7 % 8 ≡ m % 8 = omega (arith, same, word_) in g)
leaves_8 (negsuc a) (pos b) q m lm e f = absurd (omega (arith, ints))
leaves_8 (negsuc a) (negsuc b) q m lm e f =
    let same : b ≡ a + q * 16 = omega (arith, ints) in
    let word_ : m ≡ (a + 1) * 4294967295 % 4294967296 = word_is (negsuc a) m ((a + 1) * 4294967295 % 4294967296) lm (omega arith) (rem_4294967296 a) f in
    ap unsigned_abs (rem_8 b) ∙ (let g : (b + 1) * 7 % 8 ≡ m % 8 = omega (arith, same, word_) in g)

leaves_16 : Leaves 16
leaves_16 (pos a) (pos b) q m lm e f =
    let same : a ≡ b + q * 16 = omega (arith, ints) in
    let word_ : m ≡ a % 4294967296 = word_is (pos a) m (a % 4294967296) lm (omega arith) (rem_above a 4294967296 (lit< tt)) f in
    ap unsigned_abs (rem_above b 16 (lit< tt)) ∙ (let g : b % 16 ≡ m % 16 = omega (arith, same, word_) in g)
leaves_16 (pos a) (negsuc b) q m lm e f =
    let same : a + b + 1 ≡ q * 16 = omega (arith, ints) in
    let word_ : m ≡ a % 4294967296 = word_is (pos a) m (a % 4294967296) lm (omega arith) (rem_above a 4294967296 (lit< tt)) f in
    ap unsigned_abs (rem_16 b) ∙ (let g : (b + 1) * 15 % 16 ≡ m % 16 = omega (arith, same, word_) in g)
leaves_16 (negsuc a) (pos b) q m lm e f = absurd (omega (arith, ints))
leaves_16 (negsuc a) (negsuc b) q m lm e f =
    let same : b ≡ a + q * 16 = omega (arith, ints) in
    let word_ : m ≡ (a + 1) * 4294967295 % 4294967296 = word_is (negsuc a) m ((a + 1) * 4294967295 % 4294967296) lm (omega arith) (rem_4294967296 a) f in
    ap unsigned_abs (rem_16 b) ∙ (let g : (b + 1) * 15 % 16 ≡ m % 16 = omega (arith, same, word_) in g)

-- what `and` with the negative of a power leaves
abbrev Lowers : ℤ → ℕ → Type 0
Lowers x k = (m : ℕ) → m < 4294967296 → bit_and m (concrete.word x) % 4294967296 ≡ (m + 4294967296 - m % k) % 4294967296

lowers_1 : Lowers (negsuc 0) 1
lowers_1 m lt = let cleared : bit_and m 4294967295 ≡ m / 1 * 1 = and_high_mask 32 0 (omega arith) m lt in ap (λ n. n % 4294967296) cleared ∙ (let e : m / 1 * 1 % 4294967296 ≡ (m + 4294967296 - m % 1) % 4294967296 = omega arith in e)

lowers_2 : Lowers (negsuc 1) 2
lowers_2 m lt = let cleared : bit_and m 4294967294 ≡ m / 2 * 2 = and_high_mask 32 1 (omega arith) m lt in ap (λ n. n % 4294967296) cleared ∙ (let e : m / 2 * 2 % 4294967296 ≡ (m + 4294967296 - m % 2) % 4294967296 = omega arith in e)

lowers_4 : Lowers (negsuc 3) 4
lowers_4 m lt = let cleared : bit_and m 4294967292 ≡ m / 4 * 4 = and_high_mask 32 2 (omega arith) m lt in ap (λ n. n % 4294967296) cleared ∙ (let e : m / 4 * 4 % 4294967296 ≡ (m + 4294967296 - m % 4) % 4294967296 = omega arith in e)

lowers_8 : Lowers (negsuc 7) 8
lowers_8 m lt = let cleared : bit_and m 4294967288 ≡ m / 8 * 8 = and_high_mask 32 3 (omega arith) m lt in ap (λ n. n % 4294967296) cleared ∙ (let e : m / 8 * 8 % 4294967296 ≡ (m + 4294967296 - m % 8) % 4294967296 = omega arith in e)

lowers_16 : Lowers (negsuc 15) 16
lowers_16 m lt = let cleared : bit_and m 4294967280 ≡ m / 16 * 16 = and_high_mask 32 4 (omega arith) m lt in ap (λ n. n % 4294967296) cleared ∙ (let e : m / 16 * 16 % 4294967296 ≡ (m + 4294967296 - m % 16) % 4294967296 = omega arith in e)

-- -- Values

module _ (lane : ℕ) (a : AbsState) (s : State) (stands : StandsFor lane a s) (m n : ℕ) (lm : m < 4294967296) (ln : n < 4294967296) where
  abbrev Lowered : Option Values → Type 0
  Lowered None = Unit {0}
  Lowered (Some w) = CanonicalValues w × HasValue lane (world_of s) (bit_and m n % 4294967296) w

  -- the part that is lowered lies in an activation of this procedure, and its offset is this one
  module _ (q base : ℕ) (x : Part) (offset : ℤ) (region : x.region ≡ Frame q) (is_base : known_of (Frame q) a.aligns ≡ Some base) (alone : only x.si ≡ Some offset)
      (has : IsPartMember lane (world_of s) m x) where
    offset_is : has.offset ≡ offset
    unfolding only
    offset_is = by (x.si.stride == 0) refl alone
      where
        by : (t : Bool) → (x.si.stride == 0) ≡ t → cond t (Some x.si.lo) None ≡ Some offset → has.offset ≡ offset
        by true e f = member_single has.offset x.si (eqb-true x.si.stride 0 e) has.within ∙ same_Some x.si.lo offset f
        by false e f = absurd (none-some offset f)

    base_is : base_of has.thing % 16 ≡ base
    base_is = stands.aligns has.thing base has.is_in (subst (λ r. known_of r a.aligns ≡ Some base) (sym (has.region ∙ region)) is_base)

    remainder_is : (z : ℤ) (k : ℕ) → power_of (Some z) ≡ Some k → remainder (pos base +ℤ offset) k ≡ m % k
    remainder_is z k power =
        each_power (λ z k. Leaves k) leaves_1 leaves_2 leaves_4 leaves_8 leaves_16 z k power
        (pos (base_of has.thing) +ℤ has.offset) (pos base +ℤ offset) (base_of has.thing / 16) m lm moved has.reached
      where
        moved : pos (base_of has.thing) +ℤ has.offset ≡ (pos base +ℤ offset) +ℤ pos (base_of has.thing / 16 * 16)
        moved =
            let split : base_of has.thing ≡ base_of has.thing % 16 + base_of has.thing / 16 * 16 = omega arith in
            let same_base = base_is in
            let same_offset = offset_is in
            omega (arith, ints)

  small_part : (z : ℤ) (k : ℕ) → power_of (Some z) ≡ Some k → m % k < 2147483648
  small_part z k power = each_power (λ z k. m % k < 2147483648) (omega arith) (omega arith) (omega arith) (omega arith) (omega arith) z k power

  lowered_at : (x : Part) (fx : CanonicalValues (Parts (x ∷ []))) (has : IsPartMember lane (world_of s) m x) (z : ℤ) → concrete.number n ≡ z
      → (q : ℕ) → x.region ≡ Frame q → (b : Option ℕ) → known_of (Frame q) a.aligns ≡ b → (o : Option ℤ) → only x.si ≡ o → (k : Option ℕ) → power_of (Some z) ≡ k → Lowered (lowered b o k (Parts (x ∷ [])))
  lowered_at x fx has z word_ q region None e o f k g = tt
  lowered_at x fx has z word_ q region (Some base) e None f k g = tt
  lowered_at x fx has z word_ q region (Some base) e (Some offset) f None g = tt
  lowered_at x fx has z word_ q region (Some base) e (Some offset) f (Some k) g =
      let same : remainder (pos base +ℤ offset) k ≡ m % k = remainder_is q base x offset region e f has z k g in
      let small : m % k < 2147483648 = small_part z k g in
      let word_n : concrete.word z ≡ n = ap concrete.word (sym word_) ∙ word-number n ln in
      let low : bit_and m n % 4294967296 ≡ (m + 4294967296 - m % k) % 4294967296 =
      ap (λ j. bit_and m j % 4294967296) (sym word_n) ∙ each_power Lowers lowers_1 lowers_2 lowers_4 lowers_8 lowers_16 z k g m lm in (
        sub_values_canonical (Parts (x ∷ [])) (number (pos (remainder (pos base +ℤ offset) k))) fx (subst (λ j. CanonicalValues (number (pos j))) (sym same) (small_form (m % k) small)),
        subst (λ j. HasValue lane (world_of s) (bit_and m n % 4294967296) (sub (Parts (x ∷ [])) (number (pos j)))) (sym same)
            (subst (λ j. HasValue lane (world_of s) j (sub (Parts (x ∷ [])) (number (pos (m % k))))) (sym low)
            (lowered_has lane (world_of s) (Parts (x ∷ [])) fx m (inl has) (m % k) small)),
      )

  lowered_in : (x : Part) (fx : CanonicalValues (Parts (x ∷ []))) (has : IsPartMember lane (world_of s) m x) (z : ℤ) → concrete.number n ≡ z
      → (r : RegionId) → x.region ≡ r → Lowered (lowered (align_of a.aligns r) (only x.si) (power_of (Some z)) (Parts (x ∷ [])))
  lowered_in x fx has z word_ Global region = tt
  lowered_in x fx has z word_ (Frame q) region = lowered_at x fx has z word_ q region (known_of (Frame q) a.aligns) refl (only x.si) refl (power_of (Some z)) refl
  lowered_in x fx has z word_ (OldFrame q) region = tt
  lowered_in x fx has z word_ (Heap q) region = tt
  lowered_in x fx has z word_ (OldHeap q) region = tt

  no_power : (b : Option ℕ) (o : Option ℤ) (v : Values) → Lowered (lowered b o None v)
  no_power None o v = tt
  no_power (Some b) None v = tt
  no_power (Some b) (Some o) v = tt

  -- a lone part under a mask
  pub lowered_by_has : (v mask : Values) → CanonicalValues v → HasValue lane (world_of s) m v → HasValue lane (world_of s) n mask → Lowered (lowered_by a.aligns v mask)
  unfolding only
  lowered_by_has Top mask fv hm hn = tt
  lowered_by_has (Parts []) mask fv hm hn = tt
  lowered_by_has (Parts (x ∷ y ∷ rest)) mask fv hm hn = tt
  lowered_by_has (Parts (x ∷ [])) mask fv hm hn = by_interval (only_number mask) refl
    where
      here : HasValue lane (world_of s) m (Parts (x ∷ [])) → IsPartMember lane (world_of s) m x
      here (inl h) = h
      here (inr none) = absurd none

      by_test : (si : Interval) → only_number mask ≡ Some si → (t : Bool) → (si.stride == 0) ≡ t
          → Lowered (lowered (align_of a.aligns x.region) (only x.si) (power_of (cond t (Some si.lo) None)) (Parts (x ∷ [])))
      by_test si e true f =
          lowered_in x fv (here hm) si.lo (member_single (concrete.number n) si (eqb-true si.stride 0 f) (only_has lane (world_of s) n ln mask si e hn)) x.region refl
      by_test si e false f = no_power (align_of a.aligns x.region) (only x.si) (Parts (x ∷ []))

      by_interval : (o : Option Interval) → only_number mask ≡ o → Lowered (lowered (align_of a.aligns x.region) (only x.si) (power_of (only_of o)) (Parts (x ∷ [])))
      by_interval None e = no_power (align_of a.aligns x.region) (only x.si) (Parts (x ∷ []))
      by_interval (Some si) e = by_test si e (si.stride == 0) refl
