-- The forms of the opcode map end in numbers of 0, 1, 2 or 4 bytes, and each has an operand that its prefixes
-- can't refuse.

use Rattle.std.proofs.Common.{◌≡◌, ℕ, ◌%◌, ◌/◌, ◌≤◌, Bool, true, false, not, ◌==◌, ◌&&◌, ◌||◌, nat_le, nat_lt, refl, Option, Some, None, option_map, lit≤, inl, inr}
use Rattle.std.proofs.lemmas.Bool.{cond_both, eqb-true, not-true, or_cases, and_parts}
use Rattle.ia32_types.specs.declared.Op.{Op}
use Rattle.ia32_types.specs.declared.Op.TheVariants as op
use Rattle.ia32_types.specs.declared.forms.Size.{Size}
use Rattle.ia32_types.specs.declared.forms.Size.TheVariants as size
use Rattle.ia32_types.specs.declared.forms.Slot.TheVariants as slot
use Rattle.ia32_types.specs.declared.forms.Count.{Count}
use Rattle.ia32_types.specs.declared.forms.Count.TheVariants as count
use Rattle.ia32_types.specs.declared.forms.Form.{Form}
use Rattle.ia32_types.specs.declared.forms.Group.{Group}
use Rattle.ia32_types.specs.declared.forms.Group.TheVariants as group
use Rattle.ia32_types.specs.declared.forms.Row.{Row}
use Rattle.ia32_types.specs.declared.forms.Row.TheVariants.{Missing, One, Grouped}
use Rattle.ia32_types.specs.declared.forms.Segment.{Segment}
use Rattle.ia32_types.specs.declared.forms.Repeat.{Repeat}
use Rattle.ia32_types.specs.declared.forms.Prefixes.{Prefixes}
use Rattle.ia32_types.specs.Forms.{width_of, form_bytes, is_memory, stores, unary, binary}
use Rattle.ia32_types.specs.Rows.{row_00, row_40, row_80, row_c0, row_of, row_0f, arith_op, arith_form, shift_op, unary_op, group_form, count_slot}
use Rattle.ia32_types.specs.Spells.{end_bytes, group_bytes}
use Rattle.ia32_decode.proofs.HonestPartLemmas.{IsSize}

abbrev pub is_size : ℕ → Bool
is_size n = n == 0 || n == 1 || n == 2 || n == 4

abbrev pub is_good : Form → Bool
is_good f = is_size (form_bytes (width_of f.size true) f) && is_size (form_bytes (width_of f.size false) f) && not (is_memory f.second && stores f)

abbrev pub IsGoodRow : Row → Type 0
IsGoodRow Missing = Unit {0}
IsGoodRow (One f) = is_good f ≡ true
IsGoodRow (Grouped g) = Unit {0}

good_row_00 : (b : ℕ) → IsGoodRow (row_00 b)
unfolding row_00
good_row_00 b = cond_both (nat_lt (b % 8) 6) _ _ IsGoodRow (λ _. good_arith (arith_op (b / 8)) (b % 8)) (λ _. tt)
  where
    good_arith : (o : Op) (n : ℕ) → is_good (arith_form o n) ≡ true
    good_arith o n =
        cond_both (n == 0) _ _ (λ f. is_good f ≡ true) (λ _. refl) (λ _.
        cond_both (n == 1) _ _ (λ f. is_good f ≡ true) (λ _. refl) (λ _.
        cond_both (n == 2) _ _ (λ f. is_good f ≡ true) (λ _. refl) (λ _.
        cond_both (n == 3) _ _ (λ f. is_good f ≡ true) (λ _. refl) (λ _.
        cond_both (n == 4) _ _ (λ f. is_good f ≡ true) (λ _. refl) (λ _. refl)))))

good_row_40 : (b : ℕ) → IsGoodRow (row_40 b)
unfolding row_40
good_row_40 b =
    cond_both (nat_le 0x40 b && nat_le b 0x47) _ _ IsGoodRow (λ _. refl) (λ _.
    cond_both (nat_le 0x48 b && nat_le b 0x4F) _ _ IsGoodRow (λ _. refl) (λ _.
    cond_both (nat_le 0x50 b && nat_le b 0x57) _ _ IsGoodRow (λ _. refl) (λ _.
    cond_both (nat_le 0x58 b && nat_le b 0x5F) _ _ IsGoodRow (λ _. refl) (λ _.
    cond_both (b == 0x68) _ _ IsGoodRow (λ _. refl) (λ _.
    cond_both (b == 0x69) _ _ IsGoodRow (λ _. refl) (λ _.
    cond_both (b == 0x6A) _ _ IsGoodRow (λ _. refl) (λ _.
    cond_both (b == 0x6B) _ _ IsGoodRow (λ _. refl) (λ _.
    cond_both (nat_le 0x70 b && nat_le b 0x7F) _ _ IsGoodRow (λ _. refl) (λ _.
    tt)))))))))

good_row_80 : (b : ℕ) → IsGoodRow (row_80 b)
unfolding row_80
good_row_80 b =
    cond_both (b == 0x80) _ _ IsGoodRow (λ _. tt) (λ _.
    cond_both (b == 0x81) _ _ IsGoodRow (λ _. tt) (λ _.
    cond_both (b == 0x83) _ _ IsGoodRow (λ _. tt) (λ _.
    cond_both (b == 0x84) _ _ IsGoodRow (λ _. refl) (λ _.
    cond_both (b == 0x85) _ _ IsGoodRow (λ _. refl) (λ _.
    cond_both (b == 0x86) _ _ IsGoodRow (λ _. refl) (λ _.
    cond_both (b == 0x87) _ _ IsGoodRow (λ _. refl) (λ _.
    cond_both (b == 0x88) _ _ IsGoodRow (λ _. refl) (λ _.
    cond_both (b == 0x89) _ _ IsGoodRow (λ _. refl) (λ _.
    cond_both (b == 0x8A) _ _ IsGoodRow (λ _. refl) (λ _.
    cond_both (b == 0x8B) _ _ IsGoodRow (λ _. refl) (λ _.
    cond_both (b == 0x8D) _ _ IsGoodRow (λ _. refl) (λ _.
    cond_both (b == 0x8F) _ _ IsGoodRow (λ _. tt) (λ _.
    cond_both (b == 0x90) _ _ IsGoodRow (λ _. refl) (λ _.
    cond_both (nat_le 0x91 b && nat_le b 0x97) _ _ IsGoodRow (λ _. refl) (λ _.
    cond_both (b == 0x98) _ _ IsGoodRow (λ _. refl) (λ _.
    cond_both (b == 0x99) _ _ IsGoodRow (λ _. refl) (λ _.
    cond_both (b == 0xA0) _ _ IsGoodRow (λ _. refl) (λ _.
    cond_both (b == 0xA1) _ _ IsGoodRow (λ _. refl) (λ _.
    cond_both (b == 0xA2) _ _ IsGoodRow (λ _. refl) (λ _.
    cond_both (b == 0xA3) _ _ IsGoodRow (λ _. refl) (λ _.
    cond_both (b == 0xA8) _ _ IsGoodRow (λ _. refl) (λ _.
    cond_both (b == 0xA9) _ _ IsGoodRow (λ _. refl) (λ _.
    cond_both (nat_le 0xB0 b && nat_le b 0xB7) _ _ IsGoodRow (λ _. refl) (λ _.
    cond_both (nat_le 0xB8 b && nat_le b 0xBF) _ _ IsGoodRow (λ _. refl) (λ _.
    tt)))))))))))))))))))))))))

good_row_c0 : (b : ℕ) → IsGoodRow (row_c0 b)
unfolding row_c0
good_row_c0 b =
    cond_both (b == 0xC0) _ _ IsGoodRow (λ _. tt) (λ _.
    cond_both (b == 0xC1) _ _ IsGoodRow (λ _. tt) (λ _.
    cond_both (b == 0xC2) _ _ IsGoodRow (λ _. refl) (λ _.
    cond_both (b == 0xC3) _ _ IsGoodRow (λ _. refl) (λ _.
    cond_both (b == 0xC6) _ _ IsGoodRow (λ _. tt) (λ _.
    cond_both (b == 0xC7) _ _ IsGoodRow (λ _. tt) (λ _.
    cond_both (b == 0xC9) _ _ IsGoodRow (λ _. refl) (λ _.
    cond_both (b == 0xCC) _ _ IsGoodRow (λ _. refl) (λ _.
    cond_both (b == 0xD0) _ _ IsGoodRow (λ _. tt) (λ _.
    cond_both (b == 0xD1) _ _ IsGoodRow (λ _. tt) (λ _.
    cond_both (b == 0xD2) _ _ IsGoodRow (λ _. tt) (λ _.
    cond_both (b == 0xD3) _ _ IsGoodRow (λ _. tt) (λ _.
    cond_both (b == 0xE8) _ _ IsGoodRow (λ _. refl) (λ _.
    cond_both (b == 0xE9) _ _ IsGoodRow (λ _. refl) (λ _.
    cond_both (b == 0xEB) _ _ IsGoodRow (λ _. refl) (λ _.
    cond_both (b == 0xF4) _ _ IsGoodRow (λ _. refl) (λ _.
    cond_both (b == 0xF6) _ _ IsGoodRow (λ _. tt) (λ _.
    cond_both (b == 0xF7) _ _ IsGoodRow (λ _. tt) (λ _.
    cond_both (b == 0xFC) _ _ IsGoodRow (λ _. refl) (λ _.
    cond_both (b == 0xFD) _ _ IsGoodRow (λ _. refl) (λ _.
    cond_both (b == 0xFE) _ _ IsGoodRow (λ _. tt) (λ _.
    cond_both (b == 0xFF) _ _ IsGoodRow (λ _. tt) (λ _.
    tt))))))))))))))))))))))

pub good_row_0f : (b : ℕ) → IsGoodRow (row_0f b)
unfolding row_0f
good_row_0f b =
    cond_both (b == 0x0B) _ _ IsGoodRow (λ _. refl) (λ _.
    cond_both (b == 0x1F) _ _ IsGoodRow (λ _. tt) (λ _.
    cond_both (nat_le 0x40 b && nat_le b 0x4F) _ _ IsGoodRow (λ _. refl) (λ _.
    cond_both (nat_le 0x80 b && nat_le b 0x8F) _ _ IsGoodRow (λ _. refl) (λ _.
    cond_both (nat_le 0x90 b && nat_le b 0x9F) _ _ IsGoodRow (λ _. refl) (λ _.
    cond_both (b == 0xAF) _ _ IsGoodRow (λ _. refl) (λ _.
    cond_both (b == 0xB6) _ _ IsGoodRow (λ _. refl) (λ _.
    cond_both (b == 0xB7) _ _ IsGoodRow (λ _. refl) (λ _.
    cond_both (b == 0xBE) _ _ IsGoodRow (λ _. refl) (λ _.
    cond_both (b == 0xBF) _ _ IsGoodRow (λ _. refl) (λ _.
    tt))))))))))

pub good_row_of : (b : ℕ) → IsGoodRow (row_of b)
good_row_of b =
    cond_both (nat_lt b 0x40) _ _ IsGoodRow (λ _. good_row_00 b) (λ _.
    cond_both (nat_lt b 0x80) _ _ IsGoodRow (λ _. good_row_40 b) (λ _.
    cond_both (nat_lt b 0xC0) _ _ IsGoodRow (λ _. good_row_80 b) (λ _. good_row_c0 b)))

-- a form of a group, or none
pub record IsGoodIn (p : Prefixes) (g : Group) (f : Form) : Type 0 where
  pub good : is_good f ≡ true
  pub least : group_bytes p g ≤ end_bytes p f

abbrev pub IsGoodDigit : Prefixes → Group → Option Form → Type 0
IsGoodDigit p g None = Unit {0}
IsGoodDigit p g (Some f) = IsGoodIn p g f

good_shift : (p : Prefixes) (g : Group) (s : Size) (by : Count) (n : ℕ) → ((o : Op) → IsGoodIn p g (binary o s slot.RegMem (count_slot by))) → IsGoodDigit p g (option_map (λ o. binary o s slot.RegMem (count_slot by)) (shift_op n))
good_shift p g s by n h =
    let P : Option Op → Type 0 = λ o. IsGoodDigit p g (option_map (λ v. binary v s slot.RegMem (count_slot by)) o) in
    cond_both (n == 0) _ _ P (λ _. h op.Rol) (λ _.
    cond_both (n == 1) _ _ P (λ _. h op.Ror) (λ _.
    cond_both (n == 4) _ _ P (λ _. h op.Shl) (λ _.
    cond_both (n == 5) _ _ P (λ _. h op.Shr) (λ _.
    cond_both (n == 7) _ _ P (λ _. h op.Sar) (λ _. tt)))))

good_unary : (p : Prefixes) (g : Group) (s : Size) (n : ℕ) → ((o : Op) → IsGoodIn p g (unary o s slot.RegMem)) → IsGoodDigit p g (option_map (λ o. unary o s slot.RegMem) (unary_op n))
good_unary p g s n h =
    let P : Option Op → Type 0 = λ o. IsGoodDigit p g (option_map (λ v. unary v s slot.RegMem) o) in
    cond_both (n == 2) _ _ P (λ _. h op.Not) (λ _.
    cond_both (n == 3) _ _ P (λ _. h op.Neg) (λ _.
    cond_both (n == 4) _ _ P (λ _. h op.Mul) (λ _.
    cond_both (n == 5) _ _ P (λ _. h op.Imul) (λ _.
    cond_both (n == 6) _ _ P (λ _. h op.Div) (λ _.
    cond_both (n == 7) _ _ P (λ _. h op.Idiv) (λ _. tt))))))

abbrev some_prefixes : Bool → Segment → Repeat → Prefixes
some_prefixes o s r = record { operand16 = o; segment = s; repeat = r }

good_digit_by : (o : Bool) (s : Segment) (r : Repeat) (g : Group) (n : ℕ) → IsGoodDigit (some_prefixes o s r) g (group_form g n)
unfolding group_form
good_digit_by o s r group.Arith8 n = record { good = refl; least = lit≤ tt }
good_digit_by true s r group.Arith n = record { good = refl; least = lit≤ tt }
good_digit_by false s r group.Arith n = record { good = refl; least = lit≤ tt }
good_digit_by o s r group.ArithSigned n = record { good = refl; least = lit≤ tt }
good_digit_by o s r (group.Shift8 count.Imm8) n = good_shift _ _ size.Byte count.Imm8 n (λ v. record { good = refl; least = lit≤ tt })
good_digit_by o s r (group.Shift8 count.One) n = good_shift _ _ size.Byte count.One n (λ v. record { good = refl; least = lit≤ tt })
good_digit_by o s r (group.Shift8 count.Cl) n = good_shift _ _ size.Byte count.Cl n (λ v. record { good = refl; least = lit≤ tt })
good_digit_by o s r (group.Shift count.Imm8) n = good_shift _ _ size.Full count.Imm8 n (λ v. record { good = refl; least = lit≤ tt })
good_digit_by o s r (group.Shift count.One) n = good_shift _ _ size.Full count.One n (λ v. record { good = refl; least = lit≤ tt })
good_digit_by o s r (group.Shift count.Cl) n = good_shift _ _ size.Full count.Cl n (λ v. record { good = refl; least = lit≤ tt })
good_digit_by o s r group.Mov8 n = cond_both (n == 0) _ _ (IsGoodDigit (some_prefixes o s r) group.Mov8) (λ _. record { good = refl; least = lit≤ tt }) (λ _. tt)
good_digit_by true s r group.Mov n = cond_both (n == 0) _ _ (IsGoodDigit (some_prefixes true s r) group.Mov) (λ _. record { good = refl; least = lit≤ tt }) (λ _. tt)
good_digit_by false s r group.Mov n = cond_both (n == 0) _ _ (IsGoodDigit (some_prefixes false s r) group.Mov) (λ _. record { good = refl; least = lit≤ tt }) (λ _. tt)
good_digit_by o s r group.Pop n = cond_both (n == 0) _ _ (IsGoodDigit (some_prefixes o s r) group.Pop) (λ _. record { good = refl; least = lit≤ tt }) (λ _. tt)
good_digit_by o s r group.Nop n = cond_both (n == 0) _ _ (IsGoodDigit (some_prefixes o s r) group.Nop) (λ _. record { good = refl; least = lit≤ tt }) (λ _. tt)
good_digit_by o s r group.Unary8 n = cond_both (n == 0) _ _ (IsGoodDigit (some_prefixes o s r) group.Unary8) (λ _. record { good = refl; least = lit≤ tt }) (λ _. good_unary _ _ size.Byte n (λ v. record { good = refl; least = lit≤ tt }))
good_digit_by true s r group.Unary n = cond_both (n == 0) _ _ (IsGoodDigit (some_prefixes true s r) group.Unary) (λ _. record { good = refl; least = lit≤ tt }) (λ _. good_unary _ _ size.Full n (λ v. record { good = refl; least = lit≤ tt }))
good_digit_by false s r group.Unary n = cond_both (n == 0) _ _ (IsGoodDigit (some_prefixes false s r) group.Unary) (λ _. record { good = refl; least = lit≤ tt }) (λ _. good_unary _ _ size.Full n (λ v. record { good = refl; least = lit≤ tt }))
good_digit_by o s r group.Step8 n =
    cond_both (n == 0) _ _ (IsGoodDigit (some_prefixes o s r) group.Step8) (λ _. record { good = refl; least = lit≤ tt }) (λ _.
    cond_both (n == 1) _ _ (IsGoodDigit (some_prefixes o s r) group.Step8) (λ _. record { good = refl; least = lit≤ tt }) (λ _. tt))
good_digit_by o s r group.Step n =
    cond_both (n == 0) _ _ (IsGoodDigit (some_prefixes o s r) group.Step) (λ _. record { good = refl; least = lit≤ tt }) (λ _.
    cond_both (n == 1) _ _ (IsGoodDigit (some_prefixes o s r) group.Step) (λ _. record { good = refl; least = lit≤ tt }) (λ _.
    cond_both (n == 2) _ _ (IsGoodDigit (some_prefixes o s r) group.Step) (λ _. record { good = refl; least = lit≤ tt }) (λ _.
    cond_both (n == 4) _ _ (IsGoodDigit (some_prefixes o s r) group.Step) (λ _. record { good = refl; least = lit≤ tt }) (λ _.
    cond_both (n == 6) _ _ (IsGoodDigit (some_prefixes o s r) group.Step) (λ _. record { good = refl; least = lit≤ tt }) (λ _. tt)))))

pub good_digit : (p : Prefixes) (g : Group) (n : ℕ) → IsGoodDigit p g (group_form g n)
good_digit p g n = good_digit_by p.operand16 p.segment p.repeat g n

-- the sizes at the end of a good form
size_of : (n : ℕ) → is_size n ≡ true → IsSize n
size_of n h = elim (or_cases (n == 0 || n == 1 || n == 2) (n == 4) h) [
  | inl a ↦ elim (or_cases (n == 0 || n == 1) (n == 2) a) [
    | inl b ↦ elim (or_cases (n == 0) (n == 1) b) [
      | inl c ↦ inl (eqb-true n 0 c)
      | inr c ↦ inr (inl (eqb-true n 1 c))
    ]
    | inr b ↦ inr (inr (inl (eqb-true n 2 b)))
  ]
  | inr a ↦ inr (inr (inr (eqb-true n 4 a)))
]

size_by : (o : Bool) (f : Form) → is_good f ≡ true → IsSize (form_bytes (width_of f.size o) f)
size_by true f h = size_of _ ((and_parts _ _ ((and_parts _ _ h).0)).0)
size_by false f h = size_of _ ((and_parts _ _ ((and_parts _ _ h).0)).1)

pub good_size : (p : Prefixes) (f : Form) → is_good f ≡ true → IsSize (end_bytes p f)
good_size p f h = size_by p.operand16 f h

-- memory alone is not written
pub good_memory : (f : Form) → is_good f ≡ true → (is_memory f.second && stores f) ≡ false
good_memory f h = not-true _ ((and_parts _ _ h).1)
