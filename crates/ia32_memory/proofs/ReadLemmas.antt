-- What the bytes of segments are, the first segment that has an address before the others; and numbers of some bytes.
use Rattle.std.proofs.Common.{◌≡◌, ℕ, suc, ◌+◌, ◌-◌, ◌<◌, ◌≤◌, ◌^◌, List, [], ◌∷◌, refl, sym, ap, ◌∙◌, arith}
use Rattle.std.specs.Prelude.{Bool, true, false, cond, ◌&&◌, nat_lt, Option, Some, None, slice_get, option_map}
use Rattle.std.proofs.lemmas.Bool.Decides.{nat_tests}
use Rattle.image_map.specs.declared.image.Segment.{Segment}
use Rattle.image_map.specs.Memory.{holds, has_flag, byte_in}
use Rattle.image_map.specs.Whole.{end_of}
use Rattle.ia32_semantics.specs.State.{Bytes, bytes_at, little_endian, joined}
use Rattle.ia32_semantics.specs.Effects.{all_among}
use Rattle.ia32_semantics.proofs.EffectLemmas.{by_test}
use Rattle.image_map.proofs.SegmentLaws.{head_in}
use Rattle.ia32_memory.specs.Mapped.{bytes_of, is_open_at, number_at, AreWithin, two, four}
use Rattle.ia32_memory.proofs.ShapeLaws.{open_head}

-- -- Segments

past_one : (s : Segment) (a : ℕ) → end_of s ≤ 2 ^ 32 → 2 ^ 32 ≤ a → holds a s ≡ false
past_one s a within past = grind (arith, nat_tests)

-- no byte is mapped past the end of the addresses
pub past_none : (ss : List Segment) (a : ℕ) → AreWithin ss → 2 ^ 32 ≤ a → bytes_of ss a ≡ None
past_none [] a within past = refl
past_none (s ∷ ss) a within past =
    head_in s ss a ∙ (ap (λ h. cond h (slice_get s.bytes (a - s.start)) (byte_in ss a)) (past_one s a within.0 past) ∙ past_none ss a within.1 past)

-- -- Numbers

one_go : (b : Option ℕ) → option_map little_endian (joined b (Some [])) ≡ b
unfolding little_endian
one_go None = refl
one_go (Some b) = ap (λ v. Some v) (omega arith)

pub one_is : (memory : Bytes) (a : ℕ) → number_at memory 1 a ≡ memory a
unfolding bytes_at
one_is memory a = one_go (memory a)

two_go : (low high : Option ℕ) → option_map little_endian (joined low (joined high (Some []))) ≡ two low high
unfolding little_endian
two_go None high = refl
two_go (Some low) None = refl
two_go (Some low) (Some high) = ap (λ v. Some v) (omega arith)

pub two_is : (memory : Bytes) (a : ℕ) → number_at memory 2 a ≡ two (memory a) (memory (a + 1))
unfolding bytes_at
two_is memory a = two_go (memory a) (memory (a + 1))

four_go : (a b c d : Option ℕ) → option_map little_endian (joined a (joined b (joined c (joined d (Some []))))) ≡ four (two a b) (two c d)
unfolding little_endian
four_go None b c d = refl
four_go (Some a) None c d = refl
four_go (Some a) (Some b) None d = refl
four_go (Some a) (Some b) (Some c) None = refl
four_go (Some a) (Some b) (Some c) (Some d) = ap (λ v. Some v) (omega arith)

four_by : (memory : Bytes) (a : ℕ) → number_at memory 4 a ≡ four (two (memory a) (memory (a + 1))) (two (memory (a + 1 + 1)) (memory (a + 1 + 1 + 1)))
unfolding bytes_at
four_by memory a = four_go (memory a) (memory (a + 1)) (memory (a + 1 + 1)) (memory (a + 1 + 1 + 1))

two_up : (a : ℕ) → a + 1 + 1 ≡ a + 2
two_up a = omega arith

-- a number of four bytes is one of two halves
pub four_is : (memory : Bytes) (a : ℕ) → number_at memory 4 a ≡ four (number_at memory 2 a) (number_at memory 2 (a + 2))
four_is memory a =
    four_by memory a
    ∙ ap (λ h. four h (two (memory (a + 1 + 1)) (memory (a + 1 + 1 + 1)))) (sym (two_is memory a))
    ∙ ap (λ b. four (number_at memory 2 a) (two (memory b) (memory (b + 1)))) (two_up a)
    ∙ ap (λ h. four (number_at memory 2 a) h) (sym (two_is memory (a + 2)))

-- -- As code has them

pub half_of : (m : Bytes) (a d : ℕ) (low high r : Option ℕ) → low ≡ m (a + d) → high ≡ m (a + (d + 1)) → r ≡ two low high → r ≡ number_at m 2 (a + d)
half_of m a d low high r l h is =
    let up : a + (d + 1) ≡ a + d + 1 = omega arith in
    is ∙ ap (λ x. two x high) l ∙ ap (λ y. two (m (a + d)) y) (h ∙ ap m up) ∙ sym (two_is m (a + d))

pub word_of : (m : Bytes) (a : ℕ) (low high r : Option ℕ) → low ≡ number_at m 2 (a + 0) → high ≡ number_at m 2 (a + 2) → r ≡ four low high → r ≡ number_at m 4 a
word_of m a low high r l h is =
    let none : a + 0 ≡ a = omega arith in
    is ∙ ap (λ x. four x high) (l ∙ ap (number_at m 2) none) ∙ ap (λ y. four (number_at m 2 a) y) h ∙ sym (four_is m a)

-- what is past the end of the addresses may not be written
pub past_open : (ss : List Segment) (a : ℕ) → AreWithin ss → 2 ^ 32 ≤ a → is_open_at ss a ≡ false
past_open [] a within past = refl
past_open (s ∷ ss) a within past = open_head s ss a ∙ (ap (λ h. cond h (has_flag 2 s) (is_open_at ss a)) (past_one s a within.0 past) ∙ past_open ss a within.1 past)

pub not_below : (a b : ℕ) → ¬ (a < b) → b ≤ a
not_below a b none = by_test (nat_lt a b) (λ e. let low : a < b = grind (arith, nat_tests) in absurd (none low)) (λ e. grind (arith, nat_tests))

-- -- Tests of one address after another

pub all_next : (test : ℕ → Bool) (b c n m : ℕ) (whole : Bool) → whole ≡ all_among test b n → n ≡ m + 1 → c ≡ b + 1 → test b ≡ true → whole ≡ all_among test c m
all_next test b c n m whole is more up passes =
    let e : n ≡ suc m = omega arith in
    is ∙ ap (all_among test b) e ∙ ap (λ t. t && all_among test (b + 1) m) passes ∙ ap (λ x. all_among test x m) (sym up)

pub all_fails : (test : ℕ → Bool) (b n m : ℕ) (whole : Bool) → whole ≡ all_among test b n → n ≡ m + 1 → test b ≡ false → false ≡ whole
all_fails test b n m whole is more fails =
    let e : n ≡ suc m = omega arith in
    sym (is ∙ ap (all_among test b) e ∙ ap (λ t. t && all_among test (b + 1) m) fails)

pub all_done : (test : ℕ → Bool) (b n : ℕ) (whole : Bool) → whole ≡ all_among test b n → n ≡ 0 → true ≡ whole
all_done test b n whole is none = sym (is ∙ ap (all_among test b) none)
