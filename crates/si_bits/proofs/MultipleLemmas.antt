-- A product of members is a member of the product.
use Rattle.std.proofs.Common.{◌≡◌, ℕ, zero, suc, ◌*◌, ◌^◌, ◌<◌, arith, refl, ap, ◌∙◌, sym, ◌&&◌, ap₂, mod-eq_of_lt}
use Rattle.std.proofs.lemmas.Int.{ints, clamps, wrapping_mul_is, wrapping_mul-bits, int_wrap-mul_right}
use Rattle.std.proofs.lemmas.Nat.{pow_below}
use Rattle.std.proofs.Math.IntN.{*ℤ_comm}
use Rattle.si_bits.proofs.SignLemmas.{word-lt, number-word}
use Rattle.std.proofs.lemmas.Bool.{cond_both, eqb-true}
use Rattle.std.specs.Prelude.{ℤ, pos, negsuc, ◌≤ℤ◌, ◌*ℤ◌, unsigned_abs, FitsSigned}
use Rattle.std.specs.Int.{int_min, int_max, int_wrap, w32}
use Rattle.strided.specs.Interval.{Interval, IsMember, IsCanonical, least, greatest}
use Rattle.si_bits.specs.Concrete.{word, number, product_of, shl_of}
use Rattle.si_bits.specs.Operations.{least_product, greatest_product, multiple, span, mul, shl, is_single}
use Rattle.si_bits.proofs.FloorLemmas.{mul_moved}
use Rattle.si_bits.proofs.ProductLemmas.{mul_moved_negsuc, mul_pos-le, mul_negsuc-le, products_between}
use Rattle.strided.proofs.MemberLemmas.{member_above}
use Rattle.si_bits.proofs.MemberLemmas.{member_single, member_fits, member-one, member-bounded, member-bounded_dense, steps_to_top}
use Rattle.std.proofs.lemmas.Bool.{and_parts}

-- one stride fits between the ends, or it is 0
some_turn : (a : Interval) → (c : IsCanonical a) → c.last.turns ≡ 0 → a.stride ≡ 0
some_turn a c none =
    let at = c.last.reached in
    let still : c.last.turns * a.stride ≡ 0 * a.stride = ap (λ (t : ℕ). t * a.stride) none in
    c.alone.1 (omega (arith, ints))

stride_below : (s t n : ℕ) → (t ≡ 0 → s ≡ 0) → t * s * n < 2 ^ 32 → s * n < 2 ^ 32
stride_below s zero n none h = let z : s * n ≡ 0 * n = ap (λ (k : ℕ). k * n) (none refl) in omega arith
stride_below s (suc t) n none h = omega arith

pub member-multiple : (a : Interval) (c v : ℤ) → IsCanonical a → IsMember v a → IsMember (int_wrap w32 (v *ℤ c)) (multiple a c)
unfolding multiple
member-multiple a (pos n) v canonical m =
    let ends = mul_pos-le a.lo a.hi n (member_above a.hi a canonical.last) in
    let top = mul_pos-le v a.hi n m.in_range in
    let moved = mul_moved v a.lo (m.turns * a.stride) n m.reached in
    member-bounded (a.stride * n) (int_min (a.lo *ℤ pos n) (a.hi *ℤ pos n)) (int_max (a.lo *ℤ pos n) (a.hi *ℤ pos n)) (v *ℤ pos n) m.turns
    (omega (arith, ints, clamps)) (omega (arith, ints, clamps))
member-multiple a (negsuc n) v canonical m =
    let ends = mul_negsuc-le a.lo a.hi n (member_above a.hi a canonical.last) in
    let top = mul_negsuc-le a.lo v n (member_above v a m) in
    let steps = steps_to_top a v canonical m in
    let moved = mul_moved_negsuc a.hi v (steps.0 * a.stride) n steps.1 in
    member-bounded (a.stride * suc n) (int_min (a.lo *ℤ negsuc n) (a.hi *ℤ negsuc n)) (int_max (a.lo *ℤ negsuc n) (a.hi *ℤ negsuc n)) (v *ℤ negsuc n) steps.0
    (omega (arith, ints, clamps)) (omega (arith, ints, clamps))

-- the stride fits where the ends do
pub multiple_narrow : (a : Interval) (c : ℤ) → IsCanonical a → least ≤ℤ least_product a c → greatest_product a c ≤ℤ greatest → a.stride * unsigned_abs c < 2 ^ 32
multiple_narrow a (pos n) canonical low high =
    let moved = mul_moved a.hi a.lo (canonical.last.turns * a.stride) n canonical.last.reached in
    stride_below a.stride canonical.last.turns n (some_turn a canonical) (omega (arith, ints, clamps))
multiple_narrow a (negsuc n) canonical low high =
    let moved = mul_moved_negsuc a.hi a.lo (canonical.last.turns * a.stride) n canonical.last.reached in
    stride_below a.stride canonical.last.turns (suc n) (some_turn a canonical) (omega (arith, ints, clamps))

pub member-span : (a b : Interval) (v w : ℤ) → IsMember v a → IsMember w b → IsMember (int_wrap w32 (v *ℤ w)) (span a b)
unfolding span
member-span a b v w m n =
    let ends = products_between a.lo v a.hi b.lo w b.hi (member_above v a m) m.in_range (member_above w b n) n.in_range in
    member-bounded_dense
    (int_min (least_product a b.lo) (least_product a b.hi)) (int_max (greatest_product a b.lo) (greatest_product a b.hi)) (v *ℤ w) ends.0 ends.1

pub product_of-is : (v w : ℤ) → FitsSigned w32 v → FitsSigned w32 w → product_of v w ≡ int_wrap w32 (v *ℤ w)
unfolding product_of
product_of-is v w f g = wrapping_mul_is w32 v w f g

int_wrap-pos : (n : ℕ) → n < 2 ^ 32 → int_wrap w32 (pos n) ≡ number n
unfolding int_wrap
int_wrap-pos n h = ap number (mod-eq_of_lt h)

pub shl_of-is : (n : ℕ) (v : ℤ) → n < 32 → FitsSigned w32 v → shl_of n v ≡ int_wrap w32 (v *ℤ pos (2 ^ n))
unfolding shl_of
shl_of-is n v h f =
    let power : 2 ^ n < 2 ^ 32 = pow_below n 32 h in
    let fits = word-lt v f in
    wrapping_mul-bits w32 (word v) (2 ^ n) fits power
    ∙ ap (λ (z : ℤ). int_wrap w32 (z *ℤ number (2 ^ n))) (number-word v f)
    ∙ ap (λ (z : ℤ). int_wrap w32 (v *ℤ z)) (sym (int_wrap-pos (2 ^ n) power))
    ∙ int_wrap-mul_right w32 v (pos (2 ^ n))

pub member-mul : (a b : Interval) (v w : ℤ) → IsCanonical a → IsCanonical b → IsMember v a → IsMember w b → IsMember (product_of v w) (mul a b)
unfolding mul
member-mul a b v w ca cb m n =
    let wide : product_of v w ≡ int_wrap w32 (v *ℤ w) = product_of-is v w (member_fits v a ca m) (member_fits w b cb n) in
    cond_both (is_single a && is_single b) _ _ (IsMember (product_of v w))
    (λ yes.
    let s = and_parts (is_single a) (is_single b) yes in
    member-one (product_of v w) (product_of a.lo b.lo)
    (ap₂ product_of (member_single v a (eqb-true a.stride 0 s.0) m) (member_single w b (eqb-true b.stride 0 s.1) n)))
    (λ _. cond_both (is_single b) _ _ (IsMember (product_of v w))
    (λ yes. rw (wide, member_single w b (eqb-true b.stride 0 yes) n) (member-multiple a b.lo v ca m))
    (λ _. cond_both (is_single a) _ _ (IsMember (product_of v w))
    (λ yes. rw (wide, member_single v a (eqb-true a.stride 0 yes) m, *ℤ_comm a.lo w) (member-multiple b a.lo w cb n))
    (λ _. rw wide (member-span a b v w m n))))

pub member-shl : (a : Interval) (n : ℕ) (v : ℤ) → n < 32 → IsCanonical a → IsMember v a → IsMember (shl_of n v) (shl a n)
unfolding shl
member-shl a n v h ca m =
    cond_both (is_single a) _ _ (IsMember (shl_of n v))
    (λ yes. member-one (shl_of n v) (shl_of n a.lo) (ap (shl_of n) (member_single v a (eqb-true a.stride 0 yes) m)))
    (λ _. rw (shl_of-is n v h (member_fits v a ca m)) (member-multiple a (pos (2 ^ n)) v ca m))
