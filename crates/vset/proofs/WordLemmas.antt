-- Words and the signed numbers that stand for them modulo 2^32.

use Rattle.std.proofs.Common.{◌≡◌, ℕ, ◌+◌, ◌-◌, ◌%◌, ◌/◌, ◌^◌, ◌<◌, refl, sym, ◌∙◌, ap, ℤ, pos, ◌+ℤ◌, arith}
use Rattle.std.specs.Prelude.{◌-ℤ◌, neg_ℤ}
use Rattle.std.specs.Int.{w32}
use Rattle.std.proofs.lemmas.Int.{ints, int_wrap-add_right, int_wrap-add_left, int_wrap-sub_right}
use Rattle.strided.specs.Concrete.{signed, sum_of, difference_of}
use Rattle.strided.specs.Rows.{turned}
use Rattle.strided.proofs.SumLemmas.{signed_turned}

-- a number modulo 2^32
cut : (n : ℕ) → signed (pos (n % 2 ^ 32)) ≡ signed (pos n)
cut n =
    let turns : pos n ≡ turned (pos (n % 2 ^ 32)) (pos (n / 2 ^ 32)) = omega (arith, ints) in
    sym (ap signed turns ∙ signed_turned (pos (n % 2 ^ 32)) (pos (n / 2 ^ 32)))

pub word_sum : (m n : ℕ) → signed (pos ((m + n) % 2 ^ 32)) ≡ signed (pos m +ℤ pos n)
word_sum m n = cut (m + n) ∙ ap signed (let e : pos (m + n) ≡ pos m +ℤ pos n = omega (arith, ints) in e)

pub word_difference : (m n : ℕ) → n < 2 ^ 32 → signed (pos ((m + 2 ^ 32 - n) % 2 ^ 32)) ≡ signed (pos m -ℤ pos n)
word_difference m n lt =
    let e : pos (m + 2 ^ 32 - n) ≡ turned (pos m -ℤ pos n) (pos 1) = omega (arith, ints) in
    cut (m + 2 ^ 32 - n) ∙ ap signed e ∙ signed_turned (pos m -ℤ pos n) (pos 1)

-- sums and differences of what stands for the same words stand for the same word
same_sum : (x y u v : ℤ) → signed x ≡ signed u → signed y ≡ signed v → signed (x +ℤ y) ≡ signed (u +ℤ v)
same_sum x y u v e f =
    sym (int_wrap-add_left w32 x y) ∙ ap (λ z. signed (z +ℤ y)) e ∙ int_wrap-add_left w32 u y
    ∙ sym (int_wrap-add_right w32 u y) ∙ ap (λ z. signed (u +ℤ z)) f ∙ int_wrap-add_right w32 u v

same_difference : (x y u v : ℤ) → signed x ≡ signed u → signed y ≡ signed v → signed (x -ℤ y) ≡ signed (u -ℤ v)
same_difference x y u v e f =
    sym (int_wrap-sub_right w32 x y) ∙ ap (λ z. signed (x -ℤ z)) f ∙ int_wrap-sub_right w32 x v
    ∙ same_sum x (neg_ℤ v) u (neg_ℤ v) e refl

-- a sum of words at offsets from two bases is at the sum of the offsets from the sum of the bases
pub sum_reached : (m n base other : ℕ) (x y : ℤ) → signed (pos m) ≡ signed (pos base +ℤ x) → signed (pos n) ≡ signed (pos other +ℤ y) → signed (pos ((m + n) % 2 ^ 32)) ≡ signed (pos (base + other) +ℤ sum_of x y)
sum_reached m n base other x y e f =
    let parts : (pos base +ℤ x) +ℤ (pos other +ℤ y) ≡ pos (base + other) +ℤ (x +ℤ y) = omega (arith, ints) in
    word_sum m n
    ∙ same_sum (pos m) (pos n) (pos base +ℤ x) (pos other +ℤ y) e f
    ∙ ap signed parts
    ∙ sym (int_wrap-add_right w32 (pos (base + other)) (x +ℤ y))

-- a difference of a word at an offset from a base and of a number is at the difference from the base
pub difference_reached : (m n base : ℕ) (x y : ℤ) → n < 2 ^ 32 → signed (pos m) ≡ signed (pos base +ℤ x) → signed (pos n) ≡ signed (pos 0 +ℤ y) → signed (pos ((m + 2 ^ 32 - n) % 2 ^ 32)) ≡ signed (pos base +ℤ difference_of x y)
difference_reached m n base x y lt e f =
    let parts : (pos base +ℤ x) -ℤ (pos 0 +ℤ y) ≡ pos base +ℤ (x -ℤ y) = omega (arith, ints) in
    word_difference m n lt
    ∙ same_difference (pos m) (pos n) (pos base +ℤ x) (pos 0 +ℤ y) e f
    ∙ ap signed parts
    ∙ sym (int_wrap-add_right w32 (pos base) (x -ℤ y))

-- a difference of two words at offsets from one base is a number
pub distance_reached : (m n base : ℕ) (x y : ℤ) → n < 2 ^ 32 → signed (pos m) ≡ signed (pos base +ℤ x) → signed (pos n) ≡ signed (pos base +ℤ y) → signed (pos ((m + 2 ^ 32 - n) % 2 ^ 32)) ≡ signed (pos 0 +ℤ difference_of x y)
distance_reached m n base x y lt e f =
    let parts : (pos base +ℤ x) -ℤ (pos base +ℤ y) ≡ pos 0 +ℤ (x -ℤ y) = omega (arith, ints) in
    word_difference m n lt
    ∙ same_difference (pos m) (pos n) (pos base +ℤ x) (pos base +ℤ y) e f
    ∙ ap signed parts
    ∙ sym (int_wrap-add_right w32 (pos 0) (x -ℤ y))
