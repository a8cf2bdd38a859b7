-- Products of integers lie between the products of the ends.
use Rattle.std.proofs.Common.{◌≡◌, ℕ, suc, ◌+◌, ◌*◌, arith, ap}
use Rattle.std.proofs.lemmas.Int.{ints, clamps}
use Rattle.std.specs.Prelude.{ℤ, pos, negsuc, ◌≤ℤ◌, ◌+ℤ◌, ◌*ℤ◌}
use Rattle.std.proofs.Math.IntN.{*ℤ_comm}
use Rattle.std.specs.Int.{int_min, int_max}
use Rattle.si_bits.proofs.FloorLemmas.{distance, mul_moved}
use borrow.Author.Differences.{up, down}

-- z lies between p and q, whichever is less
pub record IsBetween (p q z : ℤ) : Type 0 where
  pub above : int_min p q ≤ℤ z
  pub below : z ≤ℤ int_max p q

-- a product of a sum, with a negative factor
pub mul_moved_negsuc : (b a : ℤ) (d n : ℕ) → b ≡ (a +ℤ pos d) → (a *ℤ negsuc n) ≡ (b *ℤ negsuc n +ℤ pos (d * suc n))
mul_moved_negsuc b a d n e =
    let sums : up b + down a ≡ down b + up a + d = omega (arith, ints) in
    let scaled : (up b + down a) * suc n ≡ (down b + up a + d) * suc n = ap (λ (t : ℕ). t * suc n) sums in
    omega (arith, ints)

pub mul_pos-le : (l v : ℤ) (n : ℕ) → l ≤ℤ v → (l *ℤ pos n) ≤ℤ (v *ℤ pos n)
mul_pos-le l v n h =
    let moved = mul_moved v l (distance l v h).0 n (distance l v h).1 in
    omega (arith, ints)

pub mul_negsuc-le : (l v : ℤ) (n : ℕ) → l ≤ℤ v → (v *ℤ negsuc n) ≤ℤ (l *ℤ negsuc n)
mul_negsuc-le l v n h =
    let moved = mul_moved_negsuc v l (distance l v h).0 n (distance l v h).1 in
    omega (arith, ints)

-- one factor is fixed
pub mul_between : (l v h c : ℤ) → l ≤ℤ v → v ≤ℤ h → IsBetween (l *ℤ c) (h *ℤ c) (v *ℤ c)
mul_between l v h (pos n) low high =
    let a = mul_pos-le l v n low in
    let b = mul_pos-le v h n high in
    record { above = omega (arith, ints, clamps); below = omega (arith, ints, clamps) }
mul_between l v h (negsuc n) low high =
    let a = mul_negsuc-le l v n low in
    let b = mul_negsuc-le v h n high in
    record { above = omega (arith, ints, clamps); below = omega (arith, ints, clamps) }

pub mul_between_right : (l v h c : ℤ) → l ≤ℤ v → v ≤ℤ h → IsBetween (c *ℤ l) (c *ℤ h) (c *ℤ v)
mul_between_right l v h c low high = rw (*ℤ_comm c l, *ℤ_comm c h, *ℤ_comm c v) (mul_between l v h c low high)

-- between numbers that lie between the ends
between_between : (p q r s a b z : ℤ) → IsBetween a b z → IsBetween p q a → IsBetween r s b
    → (int_min (int_min p q) (int_min r s) ≤ℤ z) × (z ≤ℤ int_max (int_max p q) (int_max r s))
between_between p q r s a b z f g h =
    let above = f.above in let below = f.below in
    let above-p = g.above in let below-p = g.below in
    let above-r = h.above in let below-r = h.below in (omega (arith, ints, clamps), omega (arith, ints, clamps))

-- both factors range
pub products_between : (l v h l' w h' : ℤ) → l ≤ℤ v → v ≤ℤ h → l' ≤ℤ w → w ≤ℤ h'
    → (int_min (int_min (l *ℤ l') (h *ℤ l')) (int_min (l *ℤ h') (h *ℤ h')) ≤ℤ (v *ℤ w)) × ((v *ℤ w) ≤ℤ int_max (int_max (l *ℤ l') (h *ℤ l')) (int_max (l *ℤ h') (h *ℤ h')))
products_between l v h l' w h' low high low' high' =
    between_between (l *ℤ l') (h *ℤ l') (l *ℤ h') (h *ℤ h') (v *ℤ l') (v *ℤ h') (v *ℤ w)
    (mul_between_right l' w h' v low' high') (mul_between l v h l' low high) (mul_between l v h h' low high)
