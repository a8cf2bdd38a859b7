-- Laws of sets of registers and flags as bits.

use Rattle.std.proofs.Common.{◌≡◌, ℕ, zero, suc, ◌*◌, ◌<◌, ◌==◌, Bool, true, false, not, ◌||◌, ◌&&◌, max, min, List, [], ◌∷◌, ◌++◌, refl, sym, ◌∙◌, ap, arith, lit<}
use Rattle.std.specs.Int.{bit_at}
use Rattle.std.specs.Int.RustNames.{bit_and, bit_or}
use Rattle.std.proofs.lemmas.Bool.{eq-eqb, ne_eqb}
use Rattle.std.proofs.Math.Bool.{or-false}
use Rattle.std.proofs.lemmas.Nat.Bits.{bit_at_or, bit_at_and, bit_at-lt, and_pow, same_from_bits}
use Rattle.std.specs.Int.Bits.{or_zero_l, or_zero_r}
use Rattle.ia32_types.specs.declared.Reg.{Reg}
use Rattle.ia32_types.specs.declared.Reg.TheVariants.{Eax, Ecx, Edx, Ebx, Esp, Ebp, Esi, Edi}
use Rattle.ia32_types.specs.declared.Flag.{Flag}
use Rattle.ia32_types.specs.declared.Flag.TheVariants.{Cf, Pf, Zf, Sf, Of, Df}
use Rattle.ia32_types.specs.Numbers.{reg_number, flag_number, is_same_reg, is_same_flag}
use Rattle.ia32_types.specs.declared.sets.RegSet.{RegSet}
use Rattle.ia32_types.specs.declared.sets.FlagSet.{FlagSet}
use Rattle.ia32_types.specs.Sets.{reg_bit, flag_bit, has_reg, has_flag, flags_of_both, flag_if, flag_set, reg_numbers, flag_numbers, has_number, is_listed_reg, is_listed_flag, HasRegs, HasFlags}
use Rattle.ia32_types.specs.Places.{reg_bits, flag_bits}
use Rattle.ia32_types.proofs.NumberLemmas.{each_reg, each_flag}

pub or_assoc : (a b c : ℕ) → bit_or (bit_or a b) c ≡ bit_or a (bit_or b c)
or_assoc a b c = same_from_bits _ _ (λ i. omega (arith, bit_at_or (bit_or a b) c i, bit_at_or a b i, bit_at_or a (bit_or b c) i, bit_at_or b c i))

-- the bits of two lists are those of both
pub bits_of_both : (xs ys : List Reg) → reg_bits (xs ++ ys) ≡ bit_or (reg_bits xs) (reg_bits ys)
unfolding reg_bits
bits_of_both [] ys = sym (or_zero_l (reg_bits ys))
bits_of_both (x ∷ xs) ys = ap (bit_or (reg_bit x)) (bits_of_both xs ys) ∙ sym (or_assoc (reg_bit x) (reg_bits xs) (reg_bits ys))

pub bits_of_both_flags : (xs ys : List Flag) → flag_bits (xs ++ ys) ≡ bit_or (flag_bits xs) (flag_bits ys)
unfolding flag_bits
bits_of_both_flags [] ys = sym (or_zero_l (flag_bits ys))
bits_of_both_flags (x ∷ xs) ys = ap (bit_or (flag_bit x)) (bits_of_both_flags xs ys) ∙ sym (or_assoc (flag_bit x) (flag_bits xs) (flag_bits ys))

-- the bits of one
pub bits_of_one : (r : Reg) → reg_bits (r ∷ []) ≡ reg_bit r
unfolding reg_bits
bits_of_one r = or_zero_r (reg_bit r)

pub bits_of_one_flag : (f : Flag) → flag_bits (f ∷ []) ≡ flag_bit f
unfolding flag_bits
bits_of_one_flag f = or_zero_r (flag_bit f)

-- the bits of one and some more
pub bits_of_more : (r : Reg) (rest : List Reg) → reg_bits (r ∷ rest) ≡ bit_or (reg_bits (r ∷ [])) (reg_bits rest)
bits_of_more r rest = bits_of_both (r ∷ []) rest

pub bits_of_more_flags : (f : Flag) (rest : List Flag) → flag_bits (f ∷ rest) ≡ bit_or (flag_bits (f ∷ [])) (flag_bits rest)
bits_of_more_flags f rest = bits_of_both_flags (f ∷ []) rest

-- -- Members

-- a bit is set where the test of its mask holds
is_scaled : (x b : ℕ) → x < 2 → 0 < b → (x * b == b) ≡ (x == 1)
is_scaled zero b lt some = ne_eqb (0 * b) b (λ e. let none : 0 ≡ b = omega (arith, e) in absurd (omega arith))
is_scaled (suc zero) b lt some = eq-eqb (1 * b) b (omega arith)
is_scaled (suc (suc x)) b lt some = absurd (omega arith)

is_bit : (n b k : ℕ) → bit_and n b ≡ bit_at n k * b → 0 < b → (bit_and n b == b) ≡ (bit_at n k == 1)
is_bit n b k e some = ap (λ x. x == b) e ∙ is_scaled (bit_at n k) b (bit_at-lt n k) some

max_one : (x y : ℕ) → x < 2 → y < 2 → (max x y == 1) ≡ ((x == 1) || (y == 1))
max_one zero zero p q = refl
max_one zero (suc zero) p q = refl
max_one zero (suc (suc y)) p q = absurd (omega arith)
max_one (suc zero) zero p q = refl
max_one (suc zero) (suc zero) p q = refl
max_one (suc zero) (suc (suc y)) p q = absurd (omega arith)
max_one (suc (suc x)) y p q = absurd (omega arith)

either_bit : (a b k : ℕ) → (bit_at (bit_or a b) k == 1) ≡ ((bit_at a k == 1) || (bit_at b k == 1))
either_bit a b k = ap (λ x. x == 1) (bit_at_or a b k) ∙ max_one (bit_at a k) (bit_at b k) (bit_at-lt a k) (bit_at-lt b k)

-- the test of one bit
abbrev pub has_bit : ℕ → ℕ → Bool
has_bit n bit = bit_and n bit == bit

either : (a b c d : Bool) → a ≡ c → b ≡ d → (a || b) ≡ (c || d)
either a b c d p q = ap (λ x. x || b) p ∙ ap (λ y. c || y) q

has_either : (a b bit k : ℕ) → ((n : ℕ) → has_bit n bit ≡ (bit_at n k == 1)) → has_bit (bit_or a b) bit ≡ (has_bit a bit || has_bit b bit)
has_either a b bit k is = is (bit_or a b) ∙ either_bit a b k ∙ sym (either _ _ _ _ (is a) (is b))

reg_test : (r : Reg) (n : ℕ) → has_bit n (reg_bit r) ≡ (bit_at n (reg_number r) == 1)
reg_test = each_reg (λ r. (n : ℕ) → has_bit n (reg_bit r) ≡ (bit_at n (reg_number r) == 1))
    (λ n. is_bit n 1 0 (and_pow n 0) (lit< tt)) (λ n. is_bit n 2 1 (and_pow n 1) (lit< tt))
    (λ n. is_bit n 4 2 (and_pow n 2) (lit< tt)) (λ n. is_bit n 8 3 (and_pow n 3) (lit< tt))
    (λ n. is_bit n 16 4 (and_pow n 4) (lit< tt)) (λ n. is_bit n 32 5 (and_pow n 5) (lit< tt))
    (λ n. is_bit n 64 6 (and_pow n 6) (lit< tt)) (λ n. is_bit n 128 7 (and_pow n 7) (lit< tt))

flag_test : (f : Flag) (n : ℕ) → has_bit n (flag_bit f) ≡ (bit_at n (flag_number f) == 1)
flag_test = each_flag (λ f. (n : ℕ) → has_bit n (flag_bit f) ≡ (bit_at n (flag_number f) == 1))
    (λ n. is_bit n 1 0 (and_pow n 0) (lit< tt)) (λ n. is_bit n 2 1 (and_pow n 1) (lit< tt))
    (λ n. is_bit n 4 2 (and_pow n 2) (lit< tt)) (λ n. is_bit n 8 3 (and_pow n 3) (lit< tt))
    (λ n. is_bit n 16 4 (and_pow n 4) (lit< tt)) (λ n. is_bit n 32 5 (and_pow n 5) (lit< tt))

-- a set of both has what either has
pub has_reg_of_both : (a b : ℕ) (r : Reg) → has_bit (bit_or a b) (reg_bit r) ≡ (has_bit a (reg_bit r) || has_bit b (reg_bit r))
has_reg_of_both a b r = has_either a b (reg_bit r) (reg_number r) (reg_test r)

pub has_flag_of_both : (a b : ℕ) (f : Flag) → has_bit (bit_or a b) (flag_bit f) ≡ (has_bit a (flag_bit f) || has_bit b (flag_bit f))
has_flag_of_both a b f = has_either a b (flag_bit f) (flag_number f) (flag_test f)

-- a set of one has it alone
IsAlone : Reg → Reg → Type 0
IsAlone q r = has_bit (reg_bit q) (reg_bit r) ≡ is_same_reg r q

pub has_reg_alone : (q r : Reg) → has_bit (reg_bit q) (reg_bit r) ≡ is_same_reg r q
unfolding IsAlone
has_reg_alone = each_reg (λ q. (r : Reg) → IsAlone q r)
    (each_reg (IsAlone Eax) refl refl refl refl refl refl refl refl) (each_reg (IsAlone Ecx) refl refl refl refl refl refl refl refl)
    (each_reg (IsAlone Edx) refl refl refl refl refl refl refl refl) (each_reg (IsAlone Ebx) refl refl refl refl refl refl refl refl)
    (each_reg (IsAlone Esp) refl refl refl refl refl refl refl refl) (each_reg (IsAlone Ebp) refl refl refl refl refl refl refl refl)
    (each_reg (IsAlone Esi) refl refl refl refl refl refl refl refl) (each_reg (IsAlone Edi) refl refl refl refl refl refl refl refl)

IsFlagAlone : Flag → Flag → Type 0
IsFlagAlone g f = has_bit (flag_bit g) (flag_bit f) ≡ is_same_flag f g

pub has_flag_alone : (g f : Flag) → has_bit (flag_bit g) (flag_bit f) ≡ is_same_flag f g
unfolding IsFlagAlone
has_flag_alone = each_flag (λ g. (f : Flag) → IsFlagAlone g f)
    (each_flag (IsFlagAlone Cf) refl refl refl refl refl refl) (each_flag (IsFlagAlone Pf) refl refl refl refl refl refl)
    (each_flag (IsFlagAlone Zf) refl refl refl refl refl refl) (each_flag (IsFlagAlone Sf) refl refl refl refl refl refl)
    (each_flag (IsFlagAlone Of) refl refl refl refl refl refl) (each_flag (IsFlagAlone Df) refl refl refl refl refl refl)

-- the set of a list has what the list has
pub has_listed_regs : (regs : List Reg) (r : Reg) → has_bit (reg_bits regs) (reg_bit r) ≡ is_listed_reg regs r
unfolding reg_bits
has_listed_regs [] = each_reg (λ r. has_bit 0 (reg_bit r) ≡ false) refl refl refl refl refl refl refl refl
has_listed_regs (q ∷ regs) = λ r. has_reg_of_both (reg_bit q) (reg_bits regs) r ∙ either _ _ _ _ (has_reg_alone q r) (has_listed_regs regs r)

pub has_listed_flags : (flags : List Flag) (f : Flag) → has_bit (flag_bits flags) (flag_bit f) ≡ is_listed_flag flags f
unfolding flag_bits
has_listed_flags [] = each_flag (λ f. has_bit 0 (flag_bit f) ≡ false) refl refl refl refl refl refl
has_listed_flags (g ∷ flags) = λ f. has_flag_of_both (flag_bit g) (flag_bits flags) f ∙ either _ _ _ _ (has_flag_alone g f) (has_listed_flags flags f)

pub has_regs : (s : RegSet) (regs : List Reg) → s.0 ≡ reg_bits regs → HasRegs s regs
has_regs s regs is r = ap (λ n. has_bit n (reg_bit r)) is ∙ has_listed_regs regs r

pub has_flags : (s : FlagSet) (flags : List Flag) → s.0 ≡ flag_bits flags → HasFlags s flags
has_flags s flags is f = ap (λ n. has_bit n (flag_bit f)) is ∙ has_listed_flags flags f

-- -- Sets of fixed members

pub no_reg_has : (r : Reg) → has_bit 0 (reg_bit r) ≡ false
unfolding reg_bits
no_reg_has = has_listed_regs []

pub no_flag_has : (f : Flag) → has_bit 0 (flag_bit f) ≡ false
unfolding flag_bits
no_flag_has = has_listed_flags []

pub all_flags_have : (f : Flag) → has_bit 63 (flag_bit f) ≡ true
all_flags_have = each_flag (λ f. has_bit 63 (flag_bit f) ≡ true) refl refl refl refl refl refl

pub five_flags_have : (f : Flag) → has_bit 31 (flag_bit f) ≡ not (is_same_flag f Df)
five_flags_have = each_flag (λ f. has_bit 31 (flag_bit f) ≡ not (is_same_flag f Df)) refl refl refl refl refl refl

and_true : (b : Bool) → b ≡ (b && true)
and_true true = refl
and_true false = refl

and_false : (b : Bool) → false ≡ (b && false)
and_false true = refl
and_false false = refl

pub flag_asked_for : (s : FlagSet) (has : Bool) (f : Flag) → s ≡ flag_if has f → (x : Flag) → has_flag s x ≡ (is_same_flag x f && has)
flag_asked_for s true f is x = ap (λ t. has_flag t x) is ∙ has_flag_alone f x ∙ and_true (is_same_flag x f)
flag_asked_for s false f is x = ap (λ t. has_flag t x) is ∙ no_flag_has x ∙ and_false (is_same_flag x f)

min_one : (x y : ℕ) → x < 2 → y < 2 → (min x y == 1) ≡ ((x == 1) && (y == 1))
min_one zero zero p q = refl
min_one zero (suc zero) p q = refl
min_one zero (suc (suc y)) p q = absurd (omega arith)
min_one (suc zero) zero p q = refl
min_one (suc zero) (suc zero) p q = refl
min_one (suc zero) (suc (suc y)) p q = absurd (omega arith)
min_one (suc (suc x)) y p q = absurd (omega arith)

each_bit : (a b k : ℕ) → (bit_at (bit_and a b) k == 1) ≡ ((bit_at a k == 1) && (bit_at b k == 1))
each_bit a b k = ap (λ x. x == 1) (bit_at_and a b k) ∙ min_one (bit_at a k) (bit_at b k) (bit_at-lt a k) (bit_at-lt b k)

-- what is in both sets
pub has_flag_of_each : (a b : ℕ) (f : Flag) → has_bit (bit_and a b) (flag_bit f) ≡ (has_bit a (flag_bit f) && has_bit b (flag_bit f))
has_flag_of_each a b f = flag_test f (bit_and a b) ∙ each_bit a b (flag_number f) ∙ sym (λ i. flag_test f a i && flag_test f b i)

-- -- By number

pub reg_by_number : (s : RegSet) (r : Reg) → has_number (reg_numbers s) (reg_number r) ≡ has_reg s r
reg_by_number s = each_reg (λ r. has_number (reg_numbers s) (reg_number r) ≡ has_reg s r) refl refl refl refl refl refl refl refl

pub flag_by_number : (s : FlagSet) (f : Flag) → has_number (flag_numbers s) (flag_number f) ≡ has_flag s f
flag_by_number s = each_flag (λ f. has_number (flag_numbers s) (flag_number f) ≡ has_flag s f) refl refl refl refl refl refl

-- -- The flags that pass a test

has_asked : (t : Bool) (g x : Flag) → has_flag (flag_if t g) x ≡ (is_same_flag x g && t)
has_asked t g x = flag_asked_for (flag_if t g) t g refl x

has_more : (t : Bool) (g x : Flag) (rest : FlagSet) (r : Bool) → has_flag rest x ≡ r → has_flag (flags_of_both (flag_if t g) rest) x ≡ ((is_same_flag x g && t) || r)
has_more t g x rest r is = has_flag_of_both (flag_if t g).0 rest.0 x ∙ (λ i. has_asked t g x i || is i)

-- a flag is in the set where it passes the test
pub flag_set_has : (has : Flag → Bool) (x : Flag) → has_flag (flag_set has) x ≡ has x
unfolding flag_set
flag_set_has has x =
    has_more (has Cf) Cf x _ _ (has_more (has Pf) Pf x _ _ (has_more (has Zf) Zf x _ _ (has_more (has Sf) Sf x _ _ (has_more (has Of) Of x _ _ (has_asked (has Df) Df x)))))
    ∙ each_flag
    (λ x. ((is_same_flag x Cf && has Cf) || ((is_same_flag x Pf && has Pf) || ((is_same_flag x Zf && has Zf) || ((is_same_flag x Sf && has Sf) || ((is_same_flag x Of && has Of) || (is_same_flag x Df && has Df)))))) ≡ has x)
    (or-false (has Cf)) (or-false (has Pf)) (or-false (has Zf)) (or-false (has Sf)) (or-false (has Of)) refl x
