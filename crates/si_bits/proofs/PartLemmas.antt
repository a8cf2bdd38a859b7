-- The low bits of a member, and what they are as a signed number of fewer bits.
use Rattle.std.proofs.Common.{◌≡◌, ℕ, ◌+◌, ◌-◌, ◌*◌, ◌%◌, ◌^◌, ◌<◌, ◌≤◌, arith, ap, ◌∙◌, sym, ◌&&◌, mod-eq_of_lt}
use Rattle.std.proofs.lemmas.Int.{ints, by_lt_z}
use Rattle.std.proofs.lemmas.Bool.{cond_both, eqb-true, lt-ltb, le-ltb}
use Rattle.std.proofs.lemmas.Nat.{mod_below, pow_pos, pow-add}
use Rattle.std.specs.Prelude.{ℤ, pos, negsuc, neg_ℤ, ◌≤ℤ◌, ◌<ℤ◌, ◌-ℤ◌, FitsSigned, int_lt, int_le}
use Rattle.std.specs.Int.{w32}
use Rattle.strided.specs.Interval.{Interval, IsMember, IsCanonical}
use Rattle.strided.specs.Operations.{spaced}
use Rattle.strided.proofs.MemberLemmas.{member_above}
use Rattle.si_bits.specs.Concrete.{word, number, low_of, extension_of, extended_word}
use Rattle.si_bits.specs.Operations.{low, sign_extend, is_single, is_natural, up_to}
use Rattle.si_bits.proofs.ShiftLemmas.{power_le}
use Rattle.si_bits.proofs.MemberLemmas.{member_single, member_fits, member-one, member-spaced, member-dense, member-up_to}
use Rattle.std.proofs.lemmas.Bool.{and_parts}
use Rattle.si_bits.proofs.SignLemmas.{number-low, number-high}

low_of-small : (w : ℕ) (v : ℤ) → pos 0 ≤ℤ v → v <ℤ pos (2 ^ w) → FitsSigned w32 v → low_of w v ≡ v
unfolding low_of
low_of-small w (pos x) low high f =
    let less : x < 2 ^ w = omega (arith, ints) in
    ap number (mod-eq_of_lt less) ∙ number-low x f.sfits
low_of-small w (negsuc k) low high f = absurd (omega (arith, ints))

low_of-up_to : (w : ℕ) (v : ℤ) → w < 32 → IsMember (low_of w v) (up_to (2 ^ w - 1))
unfolding low_of
low_of-up_to w v h =
    let less = mod_below (word v) (2 ^ w) (pow_pos w) in
    let most = power_le w 31 (omega arith) in member-up_to (2 ^ w - 1) (word v % 2 ^ w) (omega arith) (omega arith)

pub member-low : (w : ℕ) (a : Interval) (v : ℤ) → w < 32 → IsCanonical a → IsMember v a → IsMember (low_of w v) (low w a)
unfolding low
member-low w a v h ca m =
    let above = member_above v a m in
    let below = m.in_range in
    cond_both (is_single a) _ _ (IsMember (low_of w v))
    (λ yes. member-one (low_of w v) (low_of w a.lo) (ap (low_of w) (member_single v a (eqb-true a.stride 0 yes) m)))
    (λ _. cond_both (is_natural a && int_lt a.hi (pos (2 ^ w))) _ _ (IsMember (low_of w v))
    (λ yes.
    let s = and_parts (is_natural a) (int_lt a.hi (pos (2 ^ w))) yes in
    let low-a = s.0 in
    let high-a = s.1 in
    rw (low_of-small w v (omega (arith, ints)) (omega (arith, ints)) (member_fits v a ca m)) m)
    (λ _. low_of-up_to w v h))

-- ---- sign extension

half_of : (w : ℕ) → 0 < w → 2 ^ (w - 1) * 2 ≡ 2 ^ w
half_of w some = let e : (w - 1) + 1 ≡ w = omega arith in sym (pow-add 2 (w - 1) 1) ∙ ap (λ (k : ℕ). 2 ^ k) e

extended_word-low : (w x : ℕ) → 0 < w → x < 2 ^ (w - 1) → extended_word w x ≡ x
unfolding extended_word
extended_word-low w x some less =
    let double = half_of w some in
    let whole : x % 2 ^ w ≡ x = mod-eq_of_lt (omega arith) in
    rw (whole, lt-ltb x (2 ^ (w - 1)) less) (omega arith)

extended_word-high : (w x : ℕ) → 2 ^ (w - 1) ≤ x → x < 2 ^ w → extended_word w x ≡ x + (2 ^ 32 - 2 ^ w)
unfolding extended_word
extended_word-high w x ge less =
    let whole : x % 2 ^ w ≡ x = mod-eq_of_lt less in
    rw (whole, le-ltb x (2 ^ (w - 1)) ge) (omega arith)

-- the sign bit of w bits is clear
extension_of-low : (w : ℕ) (v : ℤ) → 0 < w → w < 32 → pos 0 ≤ℤ v → v <ℤ pos (2 ^ (w - 1)) → extension_of w v ≡ v
unfolding extension_of
extension_of-low w (pos x) some h low high =
    let less : x < 2 ^ (w - 1) = omega (arith, ints) in
    let most = power_le (w - 1) 31 (omega arith) in
    ap number (extended_word-low w x some less) ∙ number-low x (omega arith)
extension_of-low w (negsuc k) some h low high = absurd (omega (arith, ints))

-- and set
extension_of-high : (w : ℕ) (v : ℤ) → w < 32 → pos (2 ^ (w - 1)) ≤ℤ v → v <ℤ pos (2 ^ w) → extension_of w v ≡ (v -ℤ pos (2 ^ w))
unfolding extension_of
extension_of-high w (pos x) h low high =
    let ge : 2 ^ (w - 1) ≤ x = omega (arith, ints) in
    let less : x < 2 ^ w = omega (arith, ints) in
    let most = power_le w 31 (omega arith) in
    ap number (extended_word-high w x ge less)
    ∙ number-high (x + (2 ^ 32 - 2 ^ w)) (2 ^ w - 1 - x) (omega arith) (omega arith)
    ∙ omega (arith, ints)
extension_of-high w (negsuc k) h low high = absurd (omega (arith, ints))

extension_of-between : (w : ℕ) (v : ℤ) → 0 < w → w < 32 → pos 0 ≤ℤ v → v <ℤ pos (2 ^ w)
    → IsMember (extension_of w v) (spaced 1 (neg_ℤ (pos (2 ^ (w - 1)))) (pos (2 ^ (w - 1) - 1)))
extension_of-between w v some h low high =
    let double = half_of w some in
    let most = power_le w 31 (omega arith) in
    by_lt_z v (pos (2 ^ (w - 1)))
    (λ less.
    let is = extension_of-low w v some h low less in
    member-dense (neg_ℤ (pos (2 ^ (w - 1)))) (pos (2 ^ (w - 1) - 1)) (extension_of w v) (omega (arith, ints)) (omega (arith, ints)))
    (λ ge.
    let is = extension_of-high w v h ge high in
    member-dense (neg_ℤ (pos (2 ^ (w - 1)))) (pos (2 ^ (w - 1) - 1)) (extension_of w v) (omega (arith, ints)) (omega (arith, ints)))

pub member-sign_extend : (w : ℕ) (a : Interval) (v : ℤ) → 0 < w → w < 32 → pos 0 ≤ℤ a.lo → a.hi <ℤ pos (2 ^ w) → IsMember v a → IsMember (extension_of w v) (sign_extend w a)
unfolding sign_extend
member-sign_extend w a v some h low high m =
    let above = member_above v a m in
    let below = m.in_range in
    let at = m.reached in
    let double = half_of w some in
    cond_both (is_single a) _ _ (IsMember (extension_of w v))
    (λ yes. member-one (extension_of w v) (extension_of w a.lo) (ap (extension_of w) (member_single v a (eqb-true a.stride 0 yes) m)))
    (λ _. cond_both (int_lt a.hi (pos (2 ^ (w - 1)))) _ _ (IsMember (extension_of w v))
    (λ clear. rw (extension_of-low w v some h (omega (arith, ints)) (omega (arith, ints))) m)
    (λ _. cond_both (int_le (pos (2 ^ (w - 1))) a.lo) _ _ (IsMember (extension_of w v))
    (λ set.
    rw (extension_of-high w v h (omega (arith, ints)) (omega (arith, ints)))
    (member-spaced a.stride (a.lo -ℤ pos (2 ^ w)) (a.hi -ℤ pos (2 ^ w)) (v -ℤ pos (2 ^ w)) m.turns (omega (arith, ints)) (omega (arith, ints))))
    (λ _. extension_of-between w v some h (omega (arith, ints)) (omega (arith, ints)))))
