-- Each form of the opcode map has proper operands.

use Rattle.std.proofs.Common.{◌≡◌, ℕ, ◌-◌, ◌/◌, ◌%◌, ◌<◌, ◌≤◌, ◌==◌, ◌&&◌, ◌||◌, nat_le, nat_lt, Bool, true, false, Option, Some, None, option_map, refl, arith, lit<, lit≤, ◌+◌}
use Rattle.std.proofs.lemmas.Bool.{cond_both, and_parts, leb-true}
use Rattle.ia32_types.specs.declared.Op.{Op}
use Rattle.ia32_types.specs.declared.Op.TheVariants as op
use Rattle.ia32_types.specs.declared.Width.TheVariants.{B8, W16}
use Rattle.ia32_types.specs.declared.forms.Size.{Size}
use Rattle.ia32_types.specs.declared.forms.Size.TheVariants as size
use Rattle.ia32_types.specs.declared.forms.Slot.TheVariants as slot
use Rattle.ia32_types.specs.declared.forms.Count.{Count}
use Rattle.ia32_types.specs.declared.forms.Count.TheVariants as count
use Rattle.ia32_types.specs.declared.forms.Form.{Form}
use Rattle.ia32_types.specs.declared.forms.Group.{Group}
use Rattle.ia32_types.specs.declared.forms.Group.TheVariants as group
use Rattle.ia32_types.specs.declared.forms.Row.{Row}
use Rattle.ia32_types.specs.declared.forms.Row.TheVariants.{Missing, One, Grouped}
use Rattle.ia32_types.specs.declared.forms.Prefixes.{Prefixes}
use Rattle.ia32_types.specs.Forms.{plain, unary, binary, is_memory, writes_first}
use Rattle.ia32_types.specs.Rows.{row_00, row_40, row_80, row_c0, row_of, row_0f, arith_op, arith_form, shift_form, count_slot, unary_form, group_form, string_form}
use Rattle.ia32_types.specs.Spells.{is_refused}
use Rattle.ia32_types.specs.Operands.{pair, string, shape_of}
use Rattle.ia32_types.proofs.OperandLemmas.{IsProper}
use Rattle.ia32_types.proofs.FormLemmas.{pair_rm_reg, pair_reg_rm, pair_rm_imm, pair_rm_signed, pair_fixed_imm, pair_fixed_offset, pair_offset_fixed, exchanged_rm_reg, exchanged_fixed, changed_rm, changed_fixed, factor_rm, product_rm, shifted_by, loaded_reg, pushed_fixed, pushed_rm, pushed_imm, pushed_signed, pushed_near, pushed_far, popped_fixed, popped_rm, branched_near, branched_far, returned_plain, returned_by, alone_long, alone_any, idle_any, tested_rm, idle_rm, chosen_reg, product_two, product_imm, product_signed, extended_byte, extended_word, string_byte, string_full}

abbrev pub IsProperForm : Option Form → Type 0
IsProperForm None = Unit {0}
IsProperForm (Some f) = IsProper f

abbrev pub IsProperRow : Row → Type 0
IsProperRow Missing = Unit {0}
IsProperRow (One f) = IsProper f
IsProperRow (Grouped g) = (n : ℕ) → IsProperForm (group_form g n)

-- a number in a range, counted from its beginning
counted : (low high b size : ℕ) → (nat_le low b && nat_le b high) ≡ true → high < low + size → b - low < size
counted low high b size is lt =
    let both = and_parts (nat_le low b) (nat_le b high) is in
    let above : low ≤ b = leb-true low b both.0 in
    let below : b ≤ high = leb-true b high both.1 in
    omega arith

-- the same, counted from a number before
counted_from : (low base high b size : ℕ) → (nat_le low b && nat_le b high) ≡ true → base ≤ low → high < base + size → b - base < size
counted_from low base high b size is before lt =
    let both = and_parts (nat_le low b) (nat_le b high) is in
    let above : low ≤ b = leb-true low b both.0 in
    let below : b ≤ high = leb-true b high both.1 in
    omega arith

-- -- Arithmetic

abbrev IsPairOp : Op → Type 0
IsPairOp o = shape_of o ≡ pair (writes_first o)

arith_pair : (n : ℕ) → shape_of (arith_op n) ≡ pair (writes_first (arith_op n))
unfolding writes_first
arith_pair n =
    cond_both (n == 0) _ _ IsPairOp (λ _. refl) (λ _.
    cond_both (n == 1) _ _ IsPairOp (λ _. refl) (λ _.
    cond_both (n == 2) _ _ IsPairOp (λ _. refl) (λ _.
    cond_both (n == 3) _ _ IsPairOp (λ _. refl) (λ _.
    cond_both (n == 4) _ _ IsPairOp (λ _. refl) (λ _.
    cond_both (n == 5) _ _ IsPairOp (λ _. refl) (λ _.
    cond_both (n == 6) _ _ IsPairOp (λ _. refl) (λ _. refl)))))))

arith_proper : (o : Op) (n : ℕ) → shape_of o ≡ pair (writes_first o) → IsProper (arith_form o n)
arith_proper o n e =
    cond_both (n == 0) _ _ IsProper (λ _. pair_rm_reg o size.Byte e) (λ _.
    cond_both (n == 1) _ _ IsProper (λ _. pair_rm_reg o size.Full e) (λ _.
    cond_both (n == 2) _ _ IsProper (λ _. pair_reg_rm o size.Byte e) (λ _.
    cond_both (n == 3) _ _ IsProper (λ _. pair_reg_rm o size.Full e) (λ _.
    cond_both (n == 4) _ _ IsProper (λ _. pair_fixed_imm o size.Byte e 0 (lit< tt)) (λ _. pair_fixed_imm o size.Full e 0 (lit< tt))))))

proper_00 : (b : ℕ) → IsProperRow (row_00 b)
unfolding row_00
proper_00 b = cond_both (nat_lt (b % 8) 6) _ _ IsProperRow (λ _. arith_proper (arith_op (b / 8)) (b % 8) (arith_pair (b / 8))) (λ _. tt)

-- -- Groups

abbrev IsProperShift : Size → Count → Option Op → Type 0
IsProperShift s by o = IsProperForm (option_map (λ op. binary op s slot.RegMem (count_slot by)) o)

proper_shift : (s : Size) (by : Count) (n : ℕ) → IsProperForm (shift_form s by n)
unfolding writes_first
proper_shift s by n =
    cond_both (n == 0) _ _ (IsProperShift s by) (λ _. shifted_by op.Rol s refl refl by) (λ _.
    cond_both (n == 1) _ _ (IsProperShift s by) (λ _. shifted_by op.Ror s refl refl by) (λ _.
    cond_both (n == 4) _ _ (IsProperShift s by) (λ _. shifted_by op.Shl s refl refl by) (λ _.
    cond_both (n == 5) _ _ (IsProperShift s by) (λ _. shifted_by op.Shr s refl refl by) (λ _.
    cond_both (n == 7) _ _ (IsProperShift s by) (λ _. shifted_by op.Sar s refl refl by) (λ _. tt)))))

abbrev IsProperOp : Size → Option Op → Type 0
IsProperOp s o = IsProperForm (option_map (λ op. unary op s slot.RegMem) o)

proper_unary : (s : Size) (n : ℕ) → IsProperForm (unary_form s n)
unfolding writes_first
proper_unary s n =
    cond_both (n == 0) _ _ IsProperForm (λ _. pair_rm_imm op.Test s refl) (λ _.
    cond_both (n == 2) _ _ (IsProperOp s) (λ _. changed_rm op.Not s refl refl) (λ _.
    cond_both (n == 3) _ _ (IsProperOp s) (λ _. changed_rm op.Neg s refl refl) (λ _.
    cond_both (n == 4) _ _ (IsProperOp s) (λ _. factor_rm op.Mul s refl) (λ _.
    cond_both (n == 5) _ _ (IsProperOp s) (λ _. product_rm op.Imul s refl) (λ _.
    cond_both (n == 6) _ _ (IsProperOp s) (λ _. factor_rm op.Div s refl) (λ _.
    cond_both (n == 7) _ _ (IsProperOp s) (λ _. factor_rm op.Idiv s refl) (λ _. tt)))))))

proper_step : (n : ℕ) → IsProperForm (group_form group.Step n)
unfolding group_form writes_first
proper_step n =
    cond_both (n == 0) _ _ IsProperForm (λ _. changed_rm op.Inc size.Full refl refl) (λ _.
    cond_both (n == 1) _ _ IsProperForm (λ _. changed_rm op.Dec size.Full refl refl) (λ _.
    cond_both (n == 2) _ _ IsProperForm (λ _. pushed_rm op.Call refl) (λ _.
    cond_both (n == 4) _ _ IsProperForm (λ _. pushed_rm op.Jmp refl) (λ _.
    cond_both (n == 6) _ _ IsProperForm (λ _. pushed_rm op.Push refl) (λ _. tt)))))

pub proper_group : (g : Group) (n : ℕ) → IsProperForm (group_form g n)
unfolding group_form writes_first
proper_group group.Arith8 n = pair_rm_imm (arith_op n) size.Byte (arith_pair n)
proper_group group.Arith n = pair_rm_imm (arith_op n) size.Full (arith_pair n)
proper_group group.ArithSigned n = pair_rm_signed (arith_op n) size.Full (arith_pair n)
proper_group (group.Shift8 by) n = proper_shift size.Byte by n
proper_group (group.Shift by) n = proper_shift size.Full by n
proper_group group.Mov8 n = cond_both (n == 0) _ _ IsProperForm (λ _. pair_rm_imm op.Mov size.Byte refl) (λ _. tt)
proper_group group.Mov n = cond_both (n == 0) _ _ IsProperForm (λ _. pair_rm_imm op.Mov size.Full refl) (λ _. tt)
proper_group group.Pop n = cond_both (n == 0) _ _ IsProperForm (λ _. popped_rm op.Pop refl refl) (λ _. tt)
proper_group group.Nop n = cond_both (n == 0) _ _ IsProperForm (λ _. idle_rm op.Nop refl) (λ _. tt)
proper_group group.Unary8 n = proper_unary size.Byte n
proper_group group.Unary n = proper_unary size.Full n
proper_group group.Step8 n =
    cond_both (n == 0) _ _ IsProperForm (λ _. changed_rm op.Inc size.Byte refl refl) (λ _.
    cond_both (n == 1) _ _ IsProperForm (λ _. changed_rm op.Dec size.Byte refl refl) (λ _. tt))
proper_group group.Step n = proper_step n

-- -- Opcodes of one byte

proper_40 : (b : ℕ) → IsProperRow (row_40 b)
unfolding row_40
proper_40 b =
    cond_both (nat_le 0x40 b && nat_le b 0x47) _ _ IsProperRow (λ is. changed_fixed op.Inc size.Full refl (b - 0x40) (counted 0x40 0x47 b 8 is (lit< tt))) (λ _.
    cond_both (nat_le 0x48 b && nat_le b 0x4F) _ _ IsProperRow (λ is. changed_fixed op.Dec size.Full refl (b - 0x48) (counted 0x48 0x4F b 8 is (lit< tt))) (λ _.
    cond_both (nat_le 0x50 b && nat_le b 0x57) _ _ IsProperRow (λ is. pushed_fixed op.Push refl (b - 0x50) (counted 0x50 0x57 b 8 is (lit< tt))) (λ _.
    cond_both (nat_le 0x58 b && nat_le b 0x5F) _ _ IsProperRow (λ is. popped_fixed op.Pop refl (b - 0x58) (counted 0x58 0x5F b 8 is (lit< tt))) (λ _.
    cond_both (b == 0x68) _ _ IsProperRow (λ _. pushed_imm op.Push refl) (λ _.
    cond_both (b == 0x69) _ _ IsProperRow (λ _. product_imm op.Imul refl) (λ _.
    cond_both (b == 0x6A) _ _ IsProperRow (λ _. pushed_signed op.Push refl) (λ _.
    cond_both (b == 0x6B) _ _ IsProperRow (λ _. product_signed op.Imul refl) (λ _.
    cond_both (nat_le 0x70 b && nat_le b 0x7F) _ _ IsProperRow (λ is. branched_near (op.Jcc (b - 0x70)) (b - 0x70) refl (counted 0x70 0x7F b 16 is (lit< tt))) (λ _.
    tt)))))))))

proper_80 : (b : ℕ) → IsProperRow (row_80 b)
unfolding row_80 writes_first
proper_80 b =
    cond_both (b == 0x80) _ _ IsProperRow (λ _. proper_group group.Arith8) (λ _.
    cond_both (b == 0x81) _ _ IsProperRow (λ _. proper_group group.Arith) (λ _.
    cond_both (b == 0x83) _ _ IsProperRow (λ _. proper_group group.ArithSigned) (λ _.
    cond_both (b == 0x84) _ _ IsProperRow (λ _. pair_rm_reg op.Test size.Byte refl) (λ _.
    cond_both (b == 0x85) _ _ IsProperRow (λ _. pair_rm_reg op.Test size.Full refl) (λ _.
    cond_both (b == 0x86) _ _ IsProperRow (λ _. exchanged_rm_reg op.Xchg size.Byte refl refl) (λ _.
    cond_both (b == 0x87) _ _ IsProperRow (λ _. exchanged_rm_reg op.Xchg size.Full refl refl) (λ _.
    cond_both (b == 0x88) _ _ IsProperRow (λ _. pair_rm_reg op.Mov size.Byte refl) (λ _.
    cond_both (b == 0x89) _ _ IsProperRow (λ _. pair_rm_reg op.Mov size.Full refl) (λ _.
    cond_both (b == 0x8A) _ _ IsProperRow (λ _. pair_reg_rm op.Mov size.Byte refl) (λ _.
    cond_both (b == 0x8B) _ _ IsProperRow (λ _. pair_reg_rm op.Mov size.Full refl) (λ _.
    cond_both (b == 0x8D) _ _ IsProperRow (λ _. loaded_reg op.Lea refl) (λ _.
    cond_both (b == 0x8F) _ _ IsProperRow (λ _. proper_group group.Pop) (λ _.
    cond_both (b == 0x90) _ _ IsProperRow (λ _. idle_any op.Nop refl) (λ _.
    cond_both (nat_le 0x91 b && nat_le b 0x97) _ _ IsProperRow (λ is. exchanged_fixed op.Xchg size.Full refl 0 (b - 0x90) (lit< tt) (counted_from 0x91 0x90 0x97 b 8 is (lit≤ tt) (lit< tt))) (λ _.
    cond_both (b == 0x98) _ _ IsProperRow (λ _. alone_long op.Cwde refl) (λ _.
    cond_both (b == 0x99) _ _ IsProperRow (λ _. alone_long op.Cdq refl) (λ _.
    cond_both (b == 0xA0) _ _ IsProperRow (λ _. pair_fixed_offset op.Mov size.Byte refl 0 (lit< tt)) (λ _.
    cond_both (b == 0xA1) _ _ IsProperRow (λ _. pair_fixed_offset op.Mov size.Full refl 0 (lit< tt)) (λ _.
    cond_both (b == 0xA2) _ _ IsProperRow (λ _. pair_offset_fixed op.Mov size.Byte refl 0 (lit< tt)) (λ _.
    cond_both (b == 0xA3) _ _ IsProperRow (λ _. pair_offset_fixed op.Mov size.Full refl 0 (lit< tt)) (λ _.
    cond_both (b == 0xA8) _ _ IsProperRow (λ _. pair_fixed_imm op.Test size.Byte refl 0 (lit< tt)) (λ _.
    cond_both (b == 0xA9) _ _ IsProperRow (λ _. pair_fixed_imm op.Test size.Full refl 0 (lit< tt)) (λ _.
    cond_both (nat_le 0xB0 b && nat_le b 0xB7) _ _ IsProperRow (λ is. pair_fixed_imm op.Mov size.Byte refl (b - 0xB0) (counted 0xB0 0xB7 b 8 is (lit< tt))) (λ _.
    cond_both (nat_le 0xB8 b && nat_le b 0xBF) _ _ IsProperRow (λ is. pair_fixed_imm op.Mov size.Full refl (b - 0xB8) (counted 0xB8 0xBF b 8 is (lit< tt))) (λ _.
    tt)))))))))))))))))))))))))

proper_c0 : (b : ℕ) → IsProperRow (row_c0 b)
unfolding row_c0
proper_c0 b =
    cond_both (b == 0xC0) _ _ IsProperRow (λ _. proper_group (group.Shift8 count.Imm8)) (λ _.
    cond_both (b == 0xC1) _ _ IsProperRow (λ _. proper_group (group.Shift count.Imm8)) (λ _.
    cond_both (b == 0xC2) _ _ IsProperRow (λ _. returned_by op.Ret refl) (λ _.
    cond_both (b == 0xC3) _ _ IsProperRow (λ _. returned_plain op.Ret refl) (λ _.
    cond_both (b == 0xC6) _ _ IsProperRow (λ _. proper_group group.Mov8) (λ _.
    cond_both (b == 0xC7) _ _ IsProperRow (λ _. proper_group group.Mov) (λ _.
    cond_both (b == 0xC9) _ _ IsProperRow (λ _. alone_long op.Leave refl) (λ _.
    cond_both (b == 0xCC) _ _ IsProperRow (λ _. alone_any op.Int3 refl) (λ _.
    cond_both (b == 0xD0) _ _ IsProperRow (λ _. proper_group (group.Shift8 count.One)) (λ _.
    cond_both (b == 0xD1) _ _ IsProperRow (λ _. proper_group (group.Shift count.One)) (λ _.
    cond_both (b == 0xD2) _ _ IsProperRow (λ _. proper_group (group.Shift8 count.Cl)) (λ _.
    cond_both (b == 0xD3) _ _ IsProperRow (λ _. proper_group (group.Shift count.Cl)) (λ _.
    cond_both (b == 0xE8) _ _ IsProperRow (λ _. pushed_far op.Call refl) (λ _.
    cond_both (b == 0xE9) _ _ IsProperRow (λ _. pushed_far op.Jmp refl) (λ _.
    cond_both (b == 0xEB) _ _ IsProperRow (λ _. pushed_near op.Jmp refl) (λ _.
    cond_both (b == 0xF4) _ _ IsProperRow (λ _. alone_any op.Hlt refl) (λ _.
    cond_both (b == 0xF6) _ _ IsProperRow (λ _. proper_group group.Unary8) (λ _.
    cond_both (b == 0xF7) _ _ IsProperRow (λ _. proper_group group.Unary) (λ _.
    cond_both (b == 0xFC) _ _ IsProperRow (λ _. alone_any op.Cld refl) (λ _.
    cond_both (b == 0xFD) _ _ IsProperRow (λ _. alone_any op.Std refl) (λ _.
    cond_both (b == 0xFE) _ _ IsProperRow (λ _. proper_group group.Step8) (λ _.
    cond_both (b == 0xFF) _ _ IsProperRow (λ _. proper_group group.Step) (λ _.
    tt))))))))))))))))))))))

pub proper_row : (b : ℕ) → IsProperRow (row_of b)
proper_row b =
    cond_both (nat_lt b 0x40) _ _ IsProperRow (λ _. proper_00 b) (λ _.
    cond_both (nat_lt b 0x80) _ _ IsProperRow (λ _. proper_40 b) (λ _.
    cond_both (nat_lt b 0xC0) _ _ IsProperRow (λ _. proper_80 b) (λ _. proper_c0 b)))

pub proper_row_0f : (b : ℕ) → IsProperRow (row_0f b)
unfolding row_0f writes_first
proper_row_0f b =
    cond_both (b == 0x0B) _ _ IsProperRow (λ _. alone_any op.Ud2 refl) (λ _.
    cond_both (b == 0x1F) _ _ IsProperRow (λ _. proper_group group.Nop) (λ _.
    cond_both (nat_le 0x40 b && nat_le b 0x4F) _ _ IsProperRow (λ is. chosen_reg (op.Cmov (b - 0x40)) (b - 0x40) refl (counted 0x40 0x4F b 16 is (lit< tt))) (λ _.
    cond_both (nat_le 0x80 b && nat_le b 0x8F) _ _ IsProperRow (λ is. branched_far (op.Jcc (b - 0x80)) (b - 0x80) refl (counted 0x80 0x8F b 16 is (lit< tt))) (λ _.
    cond_both (nat_le 0x90 b && nat_le b 0x9F) _ _ IsProperRow (λ is. tested_rm (op.Setcc (b - 0x90)) (b - 0x90) refl refl (counted 0x90 0x9F b 16 is (lit< tt))) (λ _.
    cond_both (b == 0xAF) _ _ IsProperRow (λ _. product_two op.Imul refl) (λ _.
    cond_both (b == 0xB6) _ _ IsProperRow (λ _. extended_byte (op.Movzx B8) refl) (λ _.
    cond_both (b == 0xB7) _ _ IsProperRow (λ _. extended_word (op.Movzx W16) refl) (λ _.
    cond_both (b == 0xBE) _ _ IsProperRow (λ _. extended_byte (op.Movsx B8) refl) (λ _.
    cond_both (b == 0xBF) _ _ IsProperRow (λ _. extended_word (op.Movsx W16) refl) (λ _.
    tt))))))))))

-- the string instructions, which no prefix 66 refuses
pub record IsStringForm (f : Form) : Type 0 where
  pub goes : (p : Prefixes) → is_refused p f ≡ false
  pub proper : IsProper f
  pub no_memory : is_memory f.second ≡ false

abbrev pub AreStrings : Option Form → Type 0
AreStrings None = Unit {0}
AreStrings (Some f) = IsStringForm f

pub plain_goes : (t : Bool) → (t && false || false) ≡ false
plain_goes true = refl
plain_goes false = refl

string_of_bytes : (o : Op) → shape_of o ≡ string → IsStringForm (plain o size.Byte)
string_of_bytes o e = record { goes = λ p. plain_goes p.operand16; proper = string_byte o e; no_memory = refl }

string_of_words : (o : Op) → shape_of o ≡ string → IsStringForm (plain o size.Full)
string_of_words o e = record { goes = λ p. plain_goes p.operand16; proper = string_full o e; no_memory = refl }

pub proper_string : (rep : Bool) (b : ℕ) → AreStrings (string_form rep b)
unfolding string_form
proper_string rep b =
    cond_both (b == 0xA4) _ _ AreStrings (λ _. string_of_bytes (op.Movs rep) refl) (λ _.
    cond_both (b == 0xA5) _ _ AreStrings (λ _. string_of_words (op.Movs rep) refl) (λ _.
    cond_both (b == 0xAA) _ _ AreStrings (λ _. string_of_bytes (op.Stos rep) refl) (λ _.
    cond_both (b == 0xAB) _ _ AreStrings (λ _. string_of_words (op.Stos rep) refl) (λ _. tt))))
