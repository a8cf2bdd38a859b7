-- A range of addresses that is cut at an address.
use Rattle.std.proofs.Common.{◌≡◌, ℕ, ◌≤◌, ◌<◌, min, max, true, false, ◌&&◌, nat_le, nat_lt, arith}
use Rattle.std.proofs.lemmas.Bool.Decides.{nat_tests}
use Rattle.item_list.specs.Ranges.{within}

pub cut_below : (low high limit a : ℕ) → nat_lt low limit ≡ true → within low (min high limit) a ≡ (within low high a && nat_lt a limit)
cut_below low high limit a h = grind (arith, nat_tests)

pub none_below : (low high limit a : ℕ) → nat_lt low limit ≡ false → (within low high a && nat_lt a limit) ≡ false
none_below low high limit a h = grind (arith, nat_tests)

pub cut_above : (low high limit a : ℕ) → nat_lt limit high ≡ true → within (max low limit) high a ≡ (within low high a && nat_le limit a)
cut_above low high limit a h = grind (arith, nat_tests)

pub none_above : (low high limit a : ℕ) → nat_lt limit high ≡ false → (within low high a && nat_le limit a) ≡ false
none_above low high limit a h = grind (arith, nat_tests)

pub none_within : (start x : ℕ) → within start start x ≡ false
none_within start x = grind (arith, nat_tests)
