-- Quotients by a divisor, of integers, rounded down.
use Rattle.std.proofs.Common.{◌≡◌, ℕ, suc, ◌+◌, ◌-◌, ◌*◌, ◌%◌, ◌<◌, arith, ap}
use Rattle.std.proofs.lemmas.Int.{ints, by_lt_z}
use Rattle.std.specs.Prelude.{ℤ, pos, negsuc, ◌≤ℤ◌, ◌<ℤ◌, ◌+ℤ◌, ◌*ℤ◌}
use Rattle.std.specs.Int.Signed.{shr_z}
use borrow.Author.Differences.{up, down}

-- z is q times m and a rest below m
pub record IsFloor (m : ℕ) (z q : ℤ) : Type 0 where
  pub rest : ℕ
  pub below : rest < m
  pub split : z ≡ (q *ℤ pos m +ℤ pos rest)

pub floor_is : (z : ℤ) (m : ℕ) → 0 < m → IsFloor m z (shr_z z m)
floor_is (pos a) m h = record { rest = a % m; below = omega arith; split = omega (arith, ints) }
floor_is (negsuc a) m h = record { rest = m - 1 - a % m; below = omega arith; split = omega (arith, ints) }

-- how far b lies above a
pub distance : (a b : ℤ) → a ≤ℤ b → (d : ℕ) × (b ≡ (a +ℤ pos d))
distance a b h = ((up b + down a) - (up a + down b), omega (arith, ints))

pub distance_below : (a b : ℤ) → a <ℤ b → (d : ℕ) × (b ≡ (a +ℤ pos (suc d)))
distance_below a b h = ((up b + down a) - (up a + down b) - 1, omega (arith, ints))

-- a product of a sum
pub mul_moved : (b a : ℤ) (d m : ℕ) → b ≡ (a +ℤ pos d) → (b *ℤ pos m) ≡ (a *ℤ pos m +ℤ pos (d * m))
mul_moved b a d m e =
    let sums : up b + down a ≡ down b + up a + d = omega (arith, ints) in
    let scaled : (up b + down a) * m ≡ (down b + up a + d) * m = ap (λ (t : ℕ). t * m) sums in
    omega (arith, ints)

not_above : (m : ℕ) (z z' q q' : ℤ) (d : ℕ) → q' ≡ (q +ℤ pos (suc d)) → IsFloor m z q' → IsFloor m z' q → z ≤ℤ z' → ⊥
not_above m z z' q q' d e f g h =
    let turned = mul_moved q' q (suc d) m e in
    let split = f.split in let split' = g.split in let below = g.below in
    omega (arith, ints)

-- a greater number has no lesser floor
pub floor-le : (m : ℕ) (z z' q q' : ℤ) → IsFloor m z q → IsFloor m z' q' → z ≤ℤ z' → q ≤ℤ q'
floor-le m z z' q q' f g h =
    by_lt_z q' q (λ lt. absurd (not_above m z z' q' q (distance_below q' q lt).0 (distance_below q' q lt).1 f g h)) (λ le. le)

pub same_floor : (m : ℕ) (z q q' : ℤ) → IsFloor m z q → IsFloor m z q' → q ≡ q'
same_floor m z q q' f g =
    let none : z ≤ℤ z = omega (arith, ints) in
    let low = floor-le m z z q q' f g none in
    let high = floor-le m z z q' q g f none in
    omega (arith, ints)

pub shr-le : (z z' : ℤ) (m : ℕ) → 0 < m → z ≤ℤ z' → shr_z z m ≤ℤ shr_z z' m
shr-le z z' m p h = floor-le m z z' (shr_z z m) (shr_z z' m) (floor_is z m p) (floor_is z' m p) h
