-- The forms of each layout have proper operands.

use Rattle.std.proofs.Common.{◌≡◌, ℕ, ◌+◌, ◌<◌, Bool, true, false, ◌&&◌, Option, Some, None, refl, sym, subst, arith, lit<}
use Rattle.std.proofs.lemmas.Bool.{or_parts}
use Rattle.ia32_types.specs.declared.Width.{Width}
use Rattle.ia32_types.specs.declared.Width.TheVariants.{B8, W16, D32}
use Rattle.ia32_types.specs.declared.Mem.{Mem}
use Rattle.ia32_types.specs.declared.Operand.{Operand}
use Rattle.ia32_types.specs.declared.Operand.TheVariants as operand
use Rattle.ia32_types.specs.declared.Op.{Op}
use Rattle.ia32_types.specs.declared.forms.Size.{Size}
use Rattle.ia32_types.specs.declared.forms.Size.TheVariants as size
use Rattle.ia32_types.specs.declared.forms.Slot.TheVariants as slot
use Rattle.ia32_types.specs.declared.forms.Count.{Count}
use Rattle.ia32_types.specs.declared.forms.Count.TheVariants as count
use Rattle.ia32_types.specs.Numbers.{size as width_size}
use Rattle.ia32_types.specs.Forms.{plain, unary, binary, ternary, width_of, width_limit, reg_mem, reg_operand, reg_field, is_gs, is_dword, at_address, writes_first}
use Rattle.ia32_types.specs.Rows.{count_slot}
use Rattle.ia32_types.specs.Spells.{is_read_only}
use Rattle.ia32_types.specs.Operands.{IsPlace, IsWide, Shape, pair, exchanged, loaded, pushed, popped, changed, factor, product, shifted, extended, tested, chosen, branched, returned, idle, alone, string, shape_of, Fits, HasOperands}
use Rattle.ia32_types.proofs.EveryLemmas.{number_limit}
use Rattle.ia32_types.proofs.OperandLemmas.{FitsMemory, IsProper, is_register, register_target, register_value, register_first, no_memory, first_elsewhere, not_from_gs, place_named, value_named, target_named, free_of, first_named, extended_below, address_alone, middle_below}

by_shape : (o : Op) (h : Shape) → shape_of o ≡ h → (width : Width) (dst src : Option Operand) (imm : Option ℕ) → Fits h width dst src imm → HasOperands o width dst src imm
by_shape o h e width dst src imm fits = subst (λ v. Fits v width dst src imm) (sym e) fits

-- the number of an immediate that stands alone at the end
imm_below : (width : Width) (n : ℕ) → n < number_limit ((0 + width_size width) + 0) → n < width_limit width
imm_below B8 n lt = lt
imm_below W16 n lt = lt
imm_below D32 n lt = lt

wide_full : (operand16 : Bool) → IsWide (width_of size.Full operand16)
wide_full true = tt
wide_full false = tt

-- the register or memory that a form reads, and that a form writes
module _ (o : Op) (s : Size) where
  -- -- Pairs

  pub pair_rm_reg : shape_of o ≡ pair (writes_first o) → IsProper (binary o s slot.RegMem slot.Reg)
  pair_rm_reg e p modrm number m h next =
      let width = width_of s p.operand16 in
      by_shape o _ e width _ _ None (
        first_named (writes_first o) p (binary o s slot.RegMem slot.Reg) width modrm m h.memory (λ is free. free_of (writes_first o) (is_read_only p.segment) is free),
        register_value width (reg_field modrm) (middle_below modrm),
        (λ _. no_memory width (reg_field modrm) (middle_below modrm)),
      )

  pub pair_reg_rm : shape_of o ≡ pair (writes_first o) → IsProper (binary o s slot.Reg slot.RegMem)
  pair_reg_rm e p modrm number m h next =
      let width = width_of s p.operand16 in
      by_shape o _ e width _ _ None (
        register_first (writes_first o) width (reg_field modrm) (middle_below modrm),
        value_named p (binary o s slot.Reg slot.RegMem) width modrm m h.memory,
        first_elsewhere (reg_operand width (reg_field modrm)) (reg_mem width modrm m) (no_memory width (reg_field modrm) (middle_below modrm)),
      )

  pub pair_rm_imm : shape_of o ≡ pair (writes_first o) → IsProper (binary o s slot.RegMem slot.Imm)
  pair_rm_imm e p modrm number m h next =
      let width = width_of s p.operand16 in
      by_shape o _ e width _ _ None (
        first_named (writes_first o) p (binary o s slot.RegMem slot.Imm) width modrm m h.memory (λ is free. free_of (writes_first o) (is_read_only p.segment) is free),
        imm_below width number h.below,
        (λ _. refl),
      )

  pub pair_rm_signed : shape_of o ≡ pair (writes_first o) → IsProper (binary o s slot.RegMem slot.SignedImm8)
  pair_rm_signed e p modrm number m h next =
      let width = width_of s p.operand16 in
      by_shape o _ e width _ _ None (
        first_named (writes_first o) p (binary o s slot.RegMem slot.SignedImm8) width modrm m h.memory (λ is free. free_of (writes_first o) (is_read_only p.segment) is free),
        extended_below width number h.below,
        (λ _. refl),
      )

  pub pair_fixed_imm : shape_of o ≡ pair (writes_first o) → (n : ℕ) → n < 8 → IsProper (binary o s (slot.Fixed n) slot.Imm)
  pair_fixed_imm e n lt p modrm number m h next =
      let width = width_of s p.operand16 in
      by_shape o _ e width _ _ None (register_first (writes_first o) width n lt, imm_below width number h.below, (λ _. refl))

  pub pair_fixed_offset : shape_of o ≡ pair (writes_first o) → (n : ℕ) → n < 8 → IsProper (binary o s (slot.Fixed n) slot.Offset)
  pair_fixed_offset e n lt p modrm number m h next =
      let width = width_of s p.operand16 in
      by_shape o _ e width _ _ None (
        register_first (writes_first o) width n lt,
        address_alone (is_gs p.segment) number h.below,
        first_elsewhere (reg_operand width n) (operand.Mem (at_address (is_gs p.segment) number)) (no_memory width n lt),
      )

  pub pair_offset_fixed : shape_of o ≡ pair true → (n : ℕ) → n < 8 → IsProper (binary o s slot.Offset (slot.Fixed n))
  pair_offset_fixed e n lt p modrm number m h next =
      let width = width_of s p.operand16 in
      by_shape o _ e width _ _ None (
        (address_alone (is_gs p.segment) number h.below, not_from_gs p.segment (or_parts (p.operand16 && is_dword s) (is_read_only p.segment) h.refused).1),
        register_value width n lt,
        (λ _. no_memory width n lt),
      )

  -- -- Two registers or one and memory

  pub exchanged_rm_reg : shape_of o ≡ exchanged → writes_first o ≡ true → IsProper (binary o s slot.RegMem slot.Reg)
  exchanged_rm_reg e is p modrm number m h next =
      let width = width_of s p.operand16 in
      by_shape o _ e width _ _ None (
        target_named p (binary o s slot.RegMem slot.Reg) width modrm m h.memory (λ free. free_of (writes_first o) (is_read_only p.segment) is free),
        is_register width (reg_field modrm) (middle_below modrm),
      )

  pub exchanged_fixed : shape_of o ≡ exchanged → (a b : ℕ) → a < 8 → b < 8 → IsProper (binary o s (slot.Fixed a) (slot.Fixed b))
  exchanged_fixed e a b la lb p modrm number m h next =
      let width = width_of s p.operand16 in
      by_shape o _ e width _ _ None (register_target width a la, is_register width b lb)

  -- -- One place

  pub changed_rm : shape_of o ≡ changed → writes_first o ≡ true → IsProper (unary o s slot.RegMem)
  changed_rm e is p modrm number m h next =
      let width = width_of s p.operand16 in
      by_shape o _ e width _ _ None (target_named p (unary o s slot.RegMem) width modrm m h.memory (λ free. free_of (writes_first o) (is_read_only p.segment) is free))

  pub changed_fixed : shape_of o ≡ changed → (n : ℕ) → n < 8 → IsProper (unary o s (slot.Fixed n))
  changed_fixed e n lt p modrm number m h next = by_shape o _ e _ _ None None (register_target (width_of s p.operand16) n lt)

  pub factor_rm : shape_of o ≡ factor → IsProper (unary o s slot.RegMem)
  factor_rm e p modrm number m h next = by_shape o _ e _ _ None None (place_named p (unary o s slot.RegMem) (width_of s p.operand16) modrm m h.memory)

  pub product_rm : shape_of o ≡ product → IsProper (unary o s slot.RegMem)
  product_rm e p modrm number m h next = by_shape o _ e _ _ None None (place_named p (unary o s slot.RegMem) (width_of s p.operand16) modrm m h.memory)

  -- -- Shifts

  pub shifted_by : shape_of o ≡ shifted → writes_first o ≡ true → (by : Count) → IsProper (binary o s slot.RegMem (count_slot by))
  shifted_by e is count.Imm8 p modrm number m h next =
      by_shape o _ e _ _ _ None (target_named p (binary o s slot.RegMem slot.Imm8) (width_of s p.operand16) modrm m h.memory (λ free. free_of (writes_first o) (is_read_only p.segment) is free), h.below)
  shifted_by e is count.One p modrm number m h next =
      by_shape o _ e _ _ _ None (target_named p (binary o s slot.RegMem slot.One) (width_of s p.operand16) modrm m h.memory (λ free. free_of (writes_first o) (is_read_only p.segment) is free), lit< tt)
  shifted_by e is count.Cl p modrm number m h next =
      by_shape o _ e _ _ _ None (target_named p (binary o s slot.RegMem slot.Cl) (width_of s p.operand16) modrm m h.memory (λ free. free_of (writes_first o) (is_read_only p.segment) is free), refl)

module _ (o : Op) where
  -- -- Operands of 32 bits

  pub loaded_reg : shape_of o ≡ loaded → IsProper (binary o size.Dword slot.Reg slot.Memory)
  loaded_reg e p modrm number None h next = cc
  loaded_reg e p modrm number (Some m) h next = by_shape o _ e D32 _ _ None (refl, (is_register D32 (reg_field modrm) (middle_below modrm), h.memory.0))

  pub pushed_fixed : shape_of o ≡ pushed → (n : ℕ) → n < 8 → IsProper (unary o size.Dword (slot.Fixed n))
  pushed_fixed e n lt p modrm number m h next = by_shape o _ e D32 _ None None (refl, register_value D32 n lt)

  pub pushed_rm : shape_of o ≡ pushed → IsProper (unary o size.Dword slot.RegMem)
  pushed_rm e p modrm number m h next = by_shape o _ e D32 _ None None (refl, value_named p (unary o size.Dword slot.RegMem) D32 modrm m h.memory)

  pub pushed_imm : shape_of o ≡ pushed → IsProper (unary o size.Dword slot.Imm)
  pushed_imm e p modrm number m h next = by_shape o _ e D32 _ None None (refl, h.below)

  pub pushed_signed : shape_of o ≡ pushed → IsProper (unary o size.Dword slot.SignedImm8)
  pushed_signed e p modrm number m h next = by_shape o _ e D32 _ None None (refl, extended_below D32 number h.below)

  pub pushed_near : shape_of o ≡ pushed → IsProper (unary o size.Dword slot.Rel8)
  pushed_near e p modrm number m h next = by_shape o _ e D32 _ None None (refl, omega arith)

  pub pushed_far : shape_of o ≡ pushed → IsProper (unary o size.Dword slot.Rel32)
  pushed_far e p modrm number m h next = by_shape o _ e D32 _ None None (refl, omega arith)

  pub popped_fixed : shape_of o ≡ popped → (n : ℕ) → n < 8 → IsProper (unary o size.Dword (slot.Fixed n))
  popped_fixed e n lt p modrm number m h next = by_shape o _ e D32 _ None None (refl, register_target D32 n lt)

  pub popped_rm : shape_of o ≡ popped → writes_first o ≡ true → IsProper (unary o size.Dword slot.RegMem)
  popped_rm e is p modrm number m h next =
      by_shape o _ e D32 _ None None (refl, target_named p (unary o size.Dword slot.RegMem) D32 modrm m h.memory (λ free. free_of (writes_first o) (is_read_only p.segment) is free))

  pub branched_near : (cond : ℕ) → shape_of o ≡ branched cond → cond < 16 → IsProper (unary o size.Dword slot.Rel8)
  branched_near cond e lt p modrm number m h next = by_shape o _ e D32 _ None None (lt, refl, omega arith)

  pub branched_far : (cond : ℕ) → shape_of o ≡ branched cond → cond < 16 → IsProper (unary o size.Dword slot.Rel32)
  branched_far cond e lt p modrm number m h next = by_shape o _ e D32 _ None None (lt, refl, omega arith)

  pub returned_plain : shape_of o ≡ returned → IsProper (plain o size.Dword)
  returned_plain e p modrm number m h next = by_shape o _ e D32 None None None (refl, tt)

  pub returned_by : shape_of o ≡ returned → IsProper (unary o size.Dword slot.Imm16)
  returned_by e p modrm number m h next = by_shape o _ e D32 _ None None (refl, h.below)

  pub alone_long : shape_of o ≡ alone → IsProper (plain o size.Dword)
  alone_long e p modrm number m h next = by_shape o _ e D32 None None None (refl, tt)

  pub alone_any : shape_of o ≡ alone → IsProper (plain o size.Any)
  alone_any e p modrm number m h next = by_shape o _ e D32 None None None (refl, tt)

  pub idle_any : shape_of o ≡ idle → IsProper (plain o size.Any)
  idle_any e p modrm number m h next = by_shape o _ e D32 None None None refl

  pub tested_rm : (cond : ℕ) → shape_of o ≡ tested cond → writes_first o ≡ true → cond < 16 → IsProper (unary o size.Byte slot.RegMem)
  tested_rm cond e is lt p modrm number m h next =
      by_shape o _ e B8 _ None None (lt, refl, target_named p (unary o size.Byte slot.RegMem) B8 modrm m h.memory (λ free. free_of (writes_first o) (is_read_only p.segment) is free))

  -- -- Operands of 16 or 32 bits

  pub idle_rm : shape_of o ≡ idle → IsProper (unary o size.Full slot.RegMem)
  idle_rm e p modrm number m h next =
      let width = width_of size.Full p.operand16 in
      by_shape o _ e width _ None None (wide_full p.operand16, place_named p (unary o size.Full slot.RegMem) width modrm m h.memory)

  pub chosen_reg : (cond : ℕ) → shape_of o ≡ chosen cond → cond < 16 → IsProper (binary o size.Full slot.Reg slot.RegMem)
  chosen_reg cond e lt p modrm number m h next =
      let width = width_of size.Full p.operand16 in
      by_shape o _ e width _ _ None (
        lt,
        wide_full p.operand16,
        (is_register width (reg_field modrm) (middle_below modrm), place_named p (binary o size.Full slot.Reg slot.RegMem) width modrm m h.memory),
      )

  pub product_two : shape_of o ≡ product → IsProper (binary o size.Full slot.Reg slot.RegMem)
  product_two e p modrm number m h next =
      let width = width_of size.Full p.operand16 in
      by_shape o _ e width _ _ None (
        wide_full p.operand16,
        is_register width (reg_field modrm) (middle_below modrm),
        place_named p (binary o size.Full slot.Reg slot.RegMem) width modrm m h.memory,
      )

  pub product_imm : shape_of o ≡ product → IsProper (ternary o size.Full slot.Reg slot.RegMem slot.Imm)
  product_imm e p modrm number m h next =
      let width = width_of size.Full p.operand16 in
      by_shape o _ e width _ _ _ (
        wide_full p.operand16,
        is_register width (reg_field modrm) (middle_below modrm),
        place_named p (ternary o size.Full slot.Reg slot.RegMem slot.Imm) width modrm m h.memory,
        third_below width number h.below,
      )
    where
      third_below : (width : Width) (n : ℕ) → n < number_limit ((0 + 0) + width_size width) → n < width_limit width
      third_below B8 n lt = lt
      third_below W16 n lt = lt
      third_below D32 n lt = lt

  pub product_signed : shape_of o ≡ product → IsProper (ternary o size.Full slot.Reg slot.RegMem slot.SignedImm8)
  product_signed e p modrm number m h next =
      let width = width_of size.Full p.operand16 in
      by_shape o _ e width _ _ _ (
        wide_full p.operand16,
        is_register width (reg_field modrm) (middle_below modrm),
        place_named p (ternary o size.Full slot.Reg slot.RegMem slot.SignedImm8) width modrm m h.memory,
        extended_below width number h.below,
      )

  pub extended_byte : shape_of o ≡ extended B8 → IsProper (binary o size.Full slot.Reg slot.RegMem8)
  extended_byte e p modrm number m h next =
      let width = width_of size.Full p.operand16 in
      by_shape o _ e width _ _ None (
        wide_full p.operand16,
        tt,
        (is_register width (reg_field modrm) (middle_below modrm), place_named p (binary o size.Full slot.Reg slot.RegMem8) B8 modrm m h.memory),
      )

  pub extended_word : shape_of o ≡ extended W16 → IsProper (binary o size.Full slot.Reg slot.RegMem)
  extended_word e p modrm number m h next =
      let width = width_of size.Full p.operand16 in
      by_shape o _ e width _ _ None (
        wide_full p.operand16,
        tt,
        (is_register width (reg_field modrm) (middle_below modrm), word p.operand16 m h.memory),
      )
    where
      word : (operand16 : Bool) (m : Option Mem) → FitsMemory p (binary o size.Full slot.Reg slot.RegMem) m → IsPlace W16 (reg_mem (width_of size.Full operand16) modrm m)
      word true None fits = tt
      word false None fits = tt
      word operand16 (Some m) fits = fits.0

  pub string_byte : shape_of o ≡ string → IsProper (plain o size.Byte)
  string_byte e p modrm number m h next = by_shape o _ e B8 None None None tt

  pub string_full : shape_of o ≡ string → IsProper (plain o size.Full)
  string_full e p modrm number m h next = by_shape o _ e _ None None None tt
