-- An extern's number and its address tell each other.
use Rattle.std.proofs.Common.{◌≡◌, ℕ, ◌-◌, ◌/◌, ◌%◌, ◌<◌, ◌≤◌, Bool, true, false, cond, nat_lt, Some, None, refl, ap, arith, ltb-true, ltb-false, eqb-true}
use Rattle.std.specs.Prelude.{IfSome, ◌==◌}
use Rattle.std.proofs.lemmas.Bool.Decides.{nat_tests}
use Rattle.image_map.specs.Names.{extern_address, extern_number}

there_go : (low level below : Bool) (n count a : ℕ) → (low ≡ false → level ≡ true → extern_address n ≡ a) → (below ≡ true → n < count)
    → IfSome (cond low None (cond level (cond below (Some n) None) None)) (λ i. (i < count) × (extern_address i ≡ a))
there_go true level below n count a is small = tt
there_go false false below n count a is small = tt
there_go false true false n count a is small = tt
there_go false true true n count a is small = (small refl, is refl refl)

stands : (a : ℕ) → nat_lt a 0xF0000000 ≡ false → ((a - 0xF0000000) % 16 == 0) ≡ true → extern_address ((a - 0xF0000000) / 16) ≡ a
stands a low level =
    let above : 0xF0000000 ≤ a = ltb-false a 0xF0000000 low in
    let rest : (a - 0xF0000000) % 16 ≡ 0 = eqb-true _ _ level in
    omega (arith, above, rest)

-- the extern that is found stands at the address
pub extern_number-there : (count a : ℕ) → IfSome (extern_number count a) (λ i. (i < count) × (extern_address i ≡ a))
unfolding extern_number
extern_number-there count a = there_go _ _ _ _ count a (stands a) (λ t. ltb-true _ _ t)

found_go : (low level below : Bool) (n i : ℕ) → low ≡ false → level ≡ true → below ≡ true → n ≡ i → cond low None (cond level (cond below (Some n) None) None) ≡ Some i
found_go low level below n i a b c e = rw (a, b, c, e) refl

not_low : (i : ℕ) → nat_lt (extern_address i) 0xF0000000 ≡ false
not_low i = grind (arith, nat_tests)

-- each extern is found at its address
pub extern_number-found : (count i : ℕ) → i < count → extern_number count (extern_address i) ≡ Some i
unfolding extern_number
extern_number-found count i lt =
    let a = extern_address i in
    let n : (a - 0xF0000000) / 16 ≡ i = omega arith in
    let rest : (a - 0xF0000000) % 16 ≡ 0 = omega arith in
    let below : nat_lt ((a - 0xF0000000) / 16) count ≡ true = grind (arith, nat_tests) in
    found_go (nat_lt a 0xF0000000) ((a - 0xF0000000) % 16 == 0) (nat_lt ((a - 0xF0000000) / 16) count) ((a - 0xF0000000) / 16) i (not_low i) (ap (λ r. r == 0) rest) below n
