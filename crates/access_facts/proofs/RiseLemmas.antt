-- What is picked rises.
use Rattle.std.proofs.Common.{◌≤◌, ℕ, ◌+◌, Bool, List, [], ◌∷◌, ◌++◌, length, arith}
use Rattle.std.proofs.lemmas.Bool.{cond_both}
use Rattle.ia32_types.specs.declared.Reg.{Reg}
use Rattle.ia32_types.specs.declared.Flag.{Flag}
use Rattle.ia32_types.specs.Sets.{is_listed_reg, is_listed_flag}
use Rattle.image_map.specs.declared.region.Cell.{Cell}
use Rattle.access_facts.specs.Places.{picked, register_places, flag_places, cell_places, all_registers, all_flags}
use Rattle.access_facts.specs.Rising.{RisesFrom, AreBelow}

rise_lower : (low high : ℕ) (ns : List ℕ) → low ≤ high → RisesFrom high ns → RisesFrom low ns
rise_lower low high [] le h = tt
rise_lower low high (n ∷ ns) le h = let first = h.0 in (omega arith, h.1)

pub rise_append : (low mid : ℕ) (xs ys : List ℕ) → low ≤ mid → RisesFrom low xs → AreBelow mid xs → RisesFrom mid ys → RisesFrom low (xs ++ ys)
rise_append low mid [] ys le h below rest = rise_lower low mid ys le rest
rise_append low mid (x ∷ xs) ys le h below rest = let first = below.0 in (h.0, rise_append (x + 1) mid xs ys (omega arith) h.1 below.1 rest)

pub below_append : (high : ℕ) (xs ys : List ℕ) → AreBelow high xs → AreBelow high ys → AreBelow high (xs ++ ys)
below_append high [] ys h rest = rest
below_append high (x ∷ xs) ys h rest = (h.0, below_append high xs ys h.1 rest)

below_raise : (low high : ℕ) (ns : List ℕ) → low ≤ high → AreBelow low ns → AreBelow high ns
below_raise low high [] le h = tt
below_raise low high (n ∷ ns) le h = let first = h.0 in (omega arith, below_raise low high ns le h.1)

pub picked_rises : {A : Type 0} (test : A → Bool) (n : ℕ) (xs : List A) → RisesFrom n (picked test n xs)
unfolding picked
picked_rises test n [] = tt
picked_rises test n (x ∷ xs) =
    let rest = picked_rises test (n + 1) xs in
    cond_both (test x) (n ∷ picked test (n + 1) xs) (picked test (n + 1) xs) (RisesFrom n) (λ _. (omega arith, rest)) (λ _. rise_lower n (n + 1) (picked test (n + 1) xs) (omega arith) rest)

pub picked_below : {A : Type 0} (test : A → Bool) (n high : ℕ) (xs : List A) → n + length xs ≤ high → AreBelow high (picked test n xs)
unfolding picked
picked_below test n high [] le = tt
picked_below test n high (x ∷ xs) le =
    let rest = picked_below test (n + 1) high xs (omega (arith, le)) in
    cond_both (test x) (n ∷ picked test (n + 1) xs) (picked test (n + 1) xs) (AreBelow high) (λ _. (omega (arith, le), rest)) (λ _. rest)

pub registers_below : (rs : List Reg) → AreBelow 8 (register_places rs)
unfolding register_places
registers_below rs = picked_below (is_listed_reg rs) 0 8 all_registers (omega arith)

pub flags_below : (fs : List Flag) → AreBelow 14 (flag_places fs)
unfolding flag_places
flags_below fs = picked_below (is_listed_flag fs) 8 14 all_flags (omega arith)

-- registers, then flags, then cells
pub places_rise : (rs : List Reg) (fs : List Flag) (test : Cell → Bool) (cs : List Cell) → RisesFrom 0 (register_places rs ++ flag_places fs ++ cell_places test cs)
unfolding register_places flag_places
places_rise rs fs test cs =
    let registers = picked (is_listed_reg rs) 0 all_registers in
    let flags = picked (is_listed_flag fs) 8 all_flags in
    let low = picked_below (is_listed_reg rs) 0 8 all_registers (omega arith) in
    let high = picked_below (is_listed_flag fs) 8 14 all_flags (omega arith) in
    rise_append 0 14 (registers ++ flags) (cell_places test cs) (omega arith)
    (rise_append 0 8 registers flags (omega arith) (picked_rises (is_listed_reg rs) 0 all_registers) low (picked_rises (is_listed_flag fs) 8 all_flags))
    (below_append 14 registers flags (below_raise 8 14 registers (omega arith) low) high) (picked_rises test 14 cs)

pub flags_rise : (fs : List Flag) → RisesFrom 8 (flag_places fs)
unfolding flag_places
flags_rise fs = picked_rises (is_listed_flag fs) 8 all_flags
