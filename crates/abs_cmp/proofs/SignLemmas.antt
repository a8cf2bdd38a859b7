-- Words as signed numbers, and what the signs of two words and of their difference tell of their order.

use Rattle.std.proofs.Common.{◌≡◌, ℕ, ◌+◌, ◌-◌, ◌%◌, ◌<◌, ◌≤◌, ◌&&◌, ◌⊎◌, inl, inr, Bool, true, false, ℤ, pos, ◌+ℤ◌, ◌∙◌, ap, ⊎_elim, arith}
use Rattle.std.specs.Prelude.{◌≤ℤ◌, ◌<ℤ◌, ◌-ℤ◌, nat_le}
use Rattle.std.specs.Int.{w32}
use Rattle.std.proofs.lemmas.Bool.{leb-true, leb-false, cases_lt}
use Rattle.std.proofs.lemmas.Int.{ints, int_wrap_fits}
use Rattle.strided.specs.Concrete.{signed}
use Rattle.strided.specs.Rows.{turned}
use Rattle.strided.proofs.SumLemmas.{signed_turned}
use Rattle.ia32_semantics.specs.Alu.{differ}

-- the word n has this sign and stands for x
abbrev pub IsRead : Bool → ℕ → ℤ → Type 0
IsRead true n x = (2147483648 ≤ n) × ((x +ℤ pos 4294967296) ≡ pos n)
IsRead false n x = (n < 2147483648) × (x ≡ pos n)

read_high : (n : ℕ) → 2147483648 ≤ n → n < 4294967296 → (signed (pos n) +ℤ pos 4294967296) ≡ pos n
read_high n high lt =
    let z : ℤ = pos n -ℤ pos 4294967296 in
    let whole : pos n ≡ turned z (pos 1) = omega (arith, ints) in
    let fits : signed z ≡ z = int_wrap_fits w32 z (omega (arith, ints)) in
    let is : signed (pos n) ≡ z = ap signed whole ∙ signed_turned z (pos 1) ∙ fits in
    omega (arith, ints)

pub is_read : (s : Bool) (n : ℕ) → nat_le 2147483648 n ≡ s → n < 4294967296 → IsRead s n (signed (pos n))
is_read true n e lt = let high : 2147483648 ≤ n = leb-true 2147483648 n e in (high, read_high n high lt)
is_read false n e lt = let low : n < 2147483648 = leb-false 2147483648 n e in (low, int_wrap_fits w32 (pos n) (omega (arith, ints)))

-- the difference d of the words n and k, modulo 2^32
abbrev pub IsApart : ℕ → ℕ → ℕ → Type 0
IsApart n k d = ((k ≤ n) × (d + k ≡ n)) ⊎ ((n < k) × (d + k ≡ n + 4294967296))

pub is_apart : (n k d : ℕ) → n < 4294967296 → k < 4294967296 → d ≡ (n + 4294967296 - k) % 4294967296 → IsApart n k d
is_apart n k d ln lk e =
    ⊎_elim
    (λ (under : n < k). inr (under, omega arith))
    (λ (over : k ≤ n). inl (over, omega arith))
    (cases_lt n k)

-- x is less than y, or it isn't
abbrev pub IsLess : Bool → ℤ → ℤ → Type 0
IsLess true x y = x <ℤ y
IsLess false x y = y ≤ℤ x

-- the sign of a difference differs from its overflow exactly where the first number is less
module _ (n k d : ℕ) (ln : n < 4294967296) (lk : k < 4294967296) (x y z : ℤ) where
  less_over : (sn sk sd : Bool) → k ≤ n → d + k ≡ n → IsRead sn n x → IsRead sk k y → IsRead sd d z → IsLess (differ sd (differ sn sk && differ sn sd)) x y
  less_over true true true h e rn rk rd = let a = rn.1 in let b = rk.1 in let l = rd.0 in let u = rk.0 in absurd (omega (arith, ints))
  less_over true true false h e rn rk rd = let a = rn.1 in let b = rk.1 in omega (arith, ints)
  less_over true false true h e rn rk rd = let a = rn.1 in let b = rk.1 in let u = rk.0 in omega (arith, ints)
  less_over true false false h e rn rk rd = let a = rn.1 in let b = rk.1 in let u = rk.0 in omega (arith, ints)
  less_over false true true h e rn rk rd = let u = rn.0 in let l = rk.0 in absurd (omega arith)
  less_over false true false h e rn rk rd = let u = rn.0 in let l = rk.0 in absurd (omega arith)
  less_over false false true h e rn rk rd = let u = rn.0 in let l = rd.0 in absurd (omega arith)
  less_over false false false h e rn rk rd = let a = rn.1 in let b = rk.1 in omega (arith, ints)

  less_under : (sn sk sd : Bool) → n < k → d + k ≡ n + 4294967296 → IsRead sn n x → IsRead sk k y → IsRead sd d z → IsLess (differ sd (differ sn sk && differ sn sd)) x y
  less_under true true true h e rn rk rd = let a = rn.1 in let b = rk.1 in omega (arith, ints)
  less_under true true false h e rn rk rd = let a = rn.1 in let b = rk.1 in omega (arith, ints)
  less_under true false true h e rn rk rd = let l = rn.0 in let u = rk.0 in absurd (omega arith)
  less_under true false false h e rn rk rd = let l = rn.0 in let u = rk.0 in absurd (omega arith)
  less_under false true true h e rn rk rd = let a = rn.1 in let b = rk.1 in let u = rn.0 in let l = rk.0 in omega (arith, ints)
  less_under false true false h e rn rk rd = let a = rn.1 in let b = rk.1 in let u = rn.0 in let l = rk.0 in omega (arith, ints)
  less_under false false true h e rn rk rd = let a = rn.1 in let b = rk.1 in omega (arith, ints)
  less_under false false false h e rn rk rd = let u = rn.0 in let l = rk.0 in let m = rd.0 in absurd (omega arith)

  pub less_tells : (sn sk sd : Bool) → IsApart n k d → IsRead sn n x → IsRead sk k y → IsRead sd d z → IsLess (differ sd (differ sn sk && differ sn sd)) x y
  less_tells sn sk sd (inl over) rn rk rd = less_over sn sk sd over.0 over.1 rn rk rd
  less_tells sn sk sd (inr under) rn rk rd = less_under sn sk sd under.0 under.1 rn rk rd

-- -- Numbers without a sign

-- a word that stands for a natural number is that number
pub natural_read : (s : Bool) (n : ℕ) (x : ℤ) → n < 4294967296 → IsRead s n x → pos 0 ≤ℤ x → x ≡ pos n
natural_read true n x lt r h = let e = r.1 in absurd (omega (arith, ints))
natural_read false n x lt r h = r.1

pub low_read : (s : Bool) (n : ℕ) (x : ℤ) → IsRead s n x → n < 2147483648 → x ≡ pos n
low_read true n x r h = let l = r.0 in absurd (omega arith)
low_read false n x r h = r.1

pub natural_low : (s : Bool) (n : ℕ) (x : ℤ) → n < 4294967296 → IsRead s n x → pos 0 ≤ℤ x → n < 2147483648
natural_low true n x lt r h = let e = r.1 in absurd (omega (arith, ints))
natural_low false n x lt r h = r.0

pub zero_word : (s : Bool) (n : ℕ) (x : ℤ) → n < 4294967296 → IsRead s n x → x ≡ pos 0 → n ≡ 0
zero_word true n x lt r h = let e = r.1 in absurd (omega (arith, ints))
zero_word false n x lt r h = let e = r.1 in omega (arith, ints)

pub negative_read : (s : Bool) (n : ℕ) (x : ℤ) → n < 4294967296 → IsRead s n x → s ≡ true → x <ℤ pos 0
negative_read true n x lt r h = let e = r.1 in omega (arith, ints)
negative_read false n x lt r h = cc

pub positive_read : (s : Bool) (n : ℕ) (x : ℤ) → IsRead s n x → s ≡ false → pos 0 ≤ℤ x
positive_read true n x r h = cc
positive_read false n x r h = let e = r.1 in omega (arith, ints)
