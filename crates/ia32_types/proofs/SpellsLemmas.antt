-- Laws of what bytes spell an instruction.

use Rattle.std.proofs.Common.{◌≡◌, ℕ, suc, Bool, true, false, cond, ◌==◌, ◌+◌, ◌*◌, ◌-◌, ◌/◌, ◌<◌, ◌≤◌, List, [], ◌∷◌, ◌++◌, length, refl, sym, ◌∙◌, ap, subst, Some, None, arith, length-append, lit<, lit≤}
use Rattle.std.proofs.lemmas.List.{append-nil}
use Rattle.ia32_types.specs.declared.Instr.{Instr}
use Rattle.ia32_types.specs.declared.Op.{Op}
use Rattle.ia32_types.specs.declared.Op.TheVariants as op
use Rattle.ia32_types.specs.declared.Width.TheVariants.{D32}
use Rattle.ia32_types.specs.declared.Operand.TheVariants as operand
use Rattle.ia32_types.specs.declared.forms.Size.TheVariants as size
use Rattle.ia32_types.specs.declared.forms.Slot.TheVariants as slot
use Rattle.ia32_types.specs.declared.forms.Form.{Form}
use Rattle.ia32_types.specs.declared.forms.Parts.{Parts}
use Rattle.ia32_types.specs.Readers.{Reader, done, Accepts, dword}
use Rattle.ia32_types.specs.Rows.{row_00, row_80, row_c0, string_form}
use Rattle.ia32_types.specs.Numbers.{reg_of}
use Rattle.ia32_types.specs.Forms.{plain, binary, finished, mod_field, rm_field, reg_field}
use Rattle.ia32_types.specs.Prefixes.{no_prefixes, next_prefixes}
use Rattle.ia32_types.specs.Spells.{Spells, Begins, instruction, prefixed, opened, simple, formed, addressed, ending}
use Rattle.ia32_types.proofs.NumberLemmas.{below_eight}
use Rattle.ia32_types.proofs.ReaderLemmas.{one_reading, in_two, done_reads}

-- bytes spell one instruction at most, and no spelling begins another
pub one_spelling : (bytes rest : List ℕ) (at : ℕ) (i j : Instr) → Spells bytes at i → Spells (bytes ++ rest) at j → (rest ≡ []) × (i ≡ j)
one_spelling bytes rest at i j p q =
    let r = one_reading instruction bytes rest p.parts q.parts p.read q.read in
    let none : length rest ≡ 0 = ap length r.0 in
    let long : length bytes ≡ length (bytes ++ rest) = omega (arith, length-append bytes rest) in
    (r.0, p.is ∙ ap (λ n. finished at n p.parts) long ∙ ap (λ v. finished at (length (bytes ++ rest)) v) r.1 ∙ sym q.is)

-- the four bytes of a number
pub record FourBytes (bytes : List ℕ) (n : ℕ) : Type 0 where
  pub first : ℕ
  pub second : ℕ
  pub third : ℕ
  pub fourth : ℕ
  pub are : bytes ≡ first ∷ second ∷ third ∷ fourth ∷ []
  pub below_first : first < 256
  pub below_second : second < 256
  pub below_third : third < 256
  pub below_fourth : fourth < 256
  pub is : n ≡ first + 256 * second + 65536 * (third + 256 * fourth)

pub four_bytes : (bytes : List ℕ) (n : ℕ) → Accepts dword bytes n → FourBytes bytes n
four_bytes [] n p = absurd p
four_bytes (a ∷ []) n p = absurd p.1
four_bytes (a ∷ b ∷ []) n p = absurd p.1.1
four_bytes (a ∷ b ∷ c ∷ []) n p = absurd p.1.1.1
four_bytes (a ∷ b ∷ c ∷ d ∷ []) n p = record {
  first = a;
  second = b;
  third = c;
  fourth = d;
  are = refl;
  below_first = p.0;
  below_second = p.1.0;
  below_third = p.1.1.0;
  below_fourth = p.1.1.1.0;
  is = p.1.1.1.1;
}
four_bytes (a ∷ b ∷ c ∷ d ∷ e ∷ bytes) n p = absurd p.1.1.1.1

-- the instructions of straight code
abbrev pub mov_number : ℕ → ℕ → ℕ → Instr
mov_number at r n = record { at = at; len = 5; op = op.Mov; width = D32; dst = Some (operand.Reg (reg_of r)); src = Some (operand.Imm n); imm = None }

abbrev pub mov_register : ℕ → ℕ → Instr
mov_register at modrm = record { at = at; len = 2; op = op.Mov; width = D32; dst = Some (operand.Reg (reg_of (rm_field modrm))); src = Some (operand.Reg (reg_of (reg_field modrm))); imm = None }

abbrev pub add_register : ℕ → ℕ → Instr
add_register at modrm = record { at = at; len = 2; op = op.Add; width = D32; dst = Some (operand.Reg (reg_of (rm_field modrm))); src = Some (operand.Reg (reg_of (reg_field modrm))); imm = None }

abbrev pub near_return : ℕ → Instr
near_return at = record { at = at; len = 1; op = op.Ret; width = D32; dst = None; src = None; imm = None }

-- the parts of B8+r
abbrev pub mov_number_parts : ℕ → ℕ → Parts
mov_number_parts r n = record { form = binary op.Mov size.Full (slot.Fixed r) slot.Imm; prefixes = no_prefixes; modrm = 0; memory = None; number = n }

after_b8 : (r : ℕ) → r < 8 → (rest : List ℕ) (x : Parts) → Accepts instruction ((0xB8 + r) ∷ rest) x → Accepts (formed no_prefixes (binary op.Mov size.Full (slot.Fixed r) slot.Imm)) rest x
unfolding instruction prefixed next_prefixes opened simple row_80 string_form
after_b8 = below_eight (λ r. (rest : List ℕ) (x : Parts) → Accepts instruction ((0xB8 + r) ∷ rest) x → Accepts (formed no_prefixes (binary op.Mov size.Full (slot.Fixed r) slot.Imm)) rest x)
    (λ rest x p. p.1) (λ rest x p. p.1) (λ rest x p. p.1) (λ rest x p. p.1) (λ rest x p. p.1) (λ rest x p. p.1) (λ rest x p. p.1) (λ rest x p. p.1)

number_ending : (r : ℕ) (rest : List ℕ) (x : Parts) → Accepts (formed no_prefixes (binary op.Mov size.Full (slot.Fixed r) slot.Imm)) rest x → (n : ℕ) × FourBytes rest n × (x ≡ mov_number_parts r n)
unfolding formed
number_ending r rest x p =
    let two = in_two 0 dword (λ n. done (mov_number_parts r n)) rest x p in
    let over = done_reads (mov_number_parts r two.value) x two.second two.then_reads in
    let whole : rest ≡ two.first = two.split ∙ ap (λ t. two.first ++ t) over.0 ∙ append-nil two.first in
    (two.value, subst (λ t. FourBytes t two.value) (sym whole) (four_bytes two.first two.value two.reads), over.1)

length_four : (bytes : List ℕ) (n : ℕ) → FourBytes bytes n → length bytes ≡ 4
length_four bytes n f = ap length f.are

-- B8 to BF spell a mov of the four bytes that follow
pub mov_number_spelled : (b : ℕ) (rest : List ℕ) (at : ℕ) (i : Instr) → 0xB8 ≤ b → b < 0xC0 → Spells (b ∷ rest) at i → (n : ℕ) × FourBytes rest n × (i ≡ mov_number at (b - 0xB8) n)
mov_number_spelled b rest at i low high s =
    let r : ℕ = b - 0xB8 in
    let e : b ≡ 0xB8 + r = omega arith in
    let read : Accepts instruction ((0xB8 + r) ∷ rest) s.parts = subst (λ v. Accepts instruction (v ∷ rest) s.parts) e s.read in
    let q = number_ending r rest s.parts (after_b8 r (omega arith) rest s.parts read) in
    let long : length (b ∷ rest) ≡ 5 = ap suc (length_four rest q.0 q.1) in
    (q.0, q.1, s.is ∙ ap (λ n. finished at n s.parts) long ∙ ap (λ v. finished at 5 v) q.2)

if_true : (t : Bool) (y z : Reader Parts) (rest : List ℕ) (x : Parts) → t ≡ true → Accepts (cond t y z) rest x → Accepts y rest x
if_true true y z rest x e p = p
if_true false y z rest x e p = cc

true_if : (t : Bool) (y z : Reader Parts) (rest : List ℕ) (x : Parts) → t ≡ true → Accepts y rest x → Accepts (cond t y z) rest x
true_if true y z rest x e p = p
true_if false y z rest x e p = cc

is_three : (modrm : ℕ) → 0xC0 ≤ modrm → modrm < 256 → (mod_field modrm == 3) ≡ true
is_three modrm low high = let e : modrm / 64 ≡ 3 = omega arith in ap (λ n. n == 3) e

-- a form with a register or memory, and a register
abbrev pub two_operands : Op → Form
two_operands o = binary o size.Full slot.RegMem slot.Reg

-- what follows a ModRM byte that names a register
names_register : (o : Op) (modrm : ℕ) (rest : List ℕ) (x : Parts) → 0xC0 ≤ modrm → modrm < 256 → Accepts (addressed no_prefixes (two_operands o) modrm) rest x → Accepts (ending no_prefixes (two_operands o) modrm None) rest x
unfolding addressed
names_register o modrm rest x low high p = if_true (mod_field modrm == 3) _ _ rest x (is_three modrm low high) p

abbrev pub two_register_parts : Form → ℕ → Parts
two_register_parts f modrm = record { form = f; prefixes = no_prefixes; modrm = modrm; memory = None; number = 0 }

-- 89 with a register in both places
pub mov_register_spelled : (modrm : ℕ) (rest : List ℕ) (at : ℕ) (i : Instr) → 0xC0 ≤ modrm → Spells (0x89 ∷ modrm ∷ rest) at i → (rest ≡ []) × (i ≡ mov_register at modrm)
unfolding instruction prefixed next_prefixes opened simple row_00 row_80 row_c0 string_form formed
mov_register_spelled modrm rest at i low s =
    let f = two_operands op.Mov in
    let q = names_register op.Mov modrm rest s.parts low s.read.1.0 s.read.1.1 in
    let over = done_reads (two_register_parts f modrm) s.parts rest q in
    let long : length (0x89 ∷ modrm ∷ rest) ≡ 2 = ap (λ (t : List ℕ). length (0x89 ∷ modrm ∷ t)) over.0 in
    (over.0, s.is ∙ ap (λ n. finished at n s.parts) long ∙ ap (λ v. finished at 2 v) over.1)

-- 01 with a register in both places
pub add_register_spelled : (modrm : ℕ) (rest : List ℕ) (at : ℕ) (i : Instr) → 0xC0 ≤ modrm → Spells (0x01 ∷ modrm ∷ rest) at i → (rest ≡ []) × (i ≡ add_register at modrm)
unfolding instruction prefixed next_prefixes opened simple row_00 row_80 row_c0 string_form formed
add_register_spelled modrm rest at i low s =
    let f = two_operands op.Add in
    let q = names_register op.Add modrm rest s.parts low s.read.1.0 s.read.1.1 in
    let over = done_reads (two_register_parts f modrm) s.parts rest q in
    let long : length (0x01 ∷ modrm ∷ rest) ≡ 2 = ap (λ (t : List ℕ). length (0x01 ∷ modrm ∷ t)) over.0 in
    (over.0, s.is ∙ ap (λ n. finished at n s.parts) long ∙ ap (λ v. finished at 2 v) over.1)

-- C3 alone
pub near_return_spelled : (rest : List ℕ) (at : ℕ) (i : Instr) → Spells (0xC3 ∷ rest) at i → (rest ≡ []) × (i ≡ near_return at)
unfolding instruction prefixed next_prefixes opened simple row_00 row_80 row_c0 string_form formed
near_return_spelled rest at i s =
    let over = done_reads (two_register_parts (plain op.Ret size.Dword) 0) s.parts rest s.read.1 in
    let long : length (0xC3 ∷ rest) ≡ 1 = ap (λ (t : List ℕ). length (0xC3 ∷ t)) over.0 in
    (over.0, s.is ∙ ap (λ n. finished at n s.parts) long ∙ ap (λ v. finished at 1 v) over.1)

-- an instruction has a byte at least
pub not_empty : (at : ℕ) (i : Instr) → Spells [] at i → ⊥
unfolding instruction prefixed
not_empty at i s = absurd s.read

-- the bytes that spell the instruction at the beginning begin with the first of all
pub record BeginsWith (first : ℕ) (bytes : List ℕ) (at : ℕ) (i : Instr) : Type 0 where
  pub used : List ℕ
  pub rest : List ℕ
  pub split : bytes ≡ used ++ rest
  pub spells : Spells (first ∷ used) at i

pub begins_with : (first : ℕ) (bytes : List ℕ) (at : ℕ) (i : Instr) → Begins (first ∷ bytes) at i → BeginsWith first bytes at i
begins_with first bytes at i h = begins_from h.used first bytes at i h.rest h.split h.spells
  where
    begins_from : (used : List ℕ) (first : ℕ) (bytes : List ℕ) (at : ℕ) (i : Instr) (rest : List ℕ) → first ∷ bytes ≡ used ++ rest → Spells used at i → BeginsWith first bytes at i
    begins_from [] first bytes at i rest e s = absurd (not_empty at i s)
    begins_from (b ∷ used) first bytes at i rest e s =
        let same : b ≡ first = cc in
        record { used = used; rest = rest; split = cc; spells = subst (λ v. Spells (v ∷ used) at i) same s }

-- such bytes do spell these instructions
before_b8 : (r : ℕ) → r < 8 → (rest : List ℕ) (x : Parts) → Accepts (formed no_prefixes (binary op.Mov size.Full (slot.Fixed r) slot.Imm)) rest x → Accepts instruction ((0xB8 + r) ∷ rest) x
unfolding instruction prefixed next_prefixes opened simple row_80 string_form
before_b8 = below_eight (λ r. (rest : List ℕ) (x : Parts) → Accepts (formed no_prefixes (binary op.Mov size.Full (slot.Fixed r) slot.Imm)) rest x → Accepts instruction ((0xB8 + r) ∷ rest) x)
    (λ rest x p. (lit< tt, p)) (λ rest x p. (lit< tt, p)) (λ rest x p. (lit< tt, p)) (λ rest x p. (lit< tt, p)) (λ rest x p. (lit< tt, p)) (λ rest x p. (lit< tt, p)) (λ rest x p. (lit< tt, p)) (λ rest x p. (lit< tt, p))

pub mov_number_spells : (b a1 a2 a3 a4 at : ℕ) → 0xB8 ≤ b → b < 0xC0 → a1 < 256 → a2 < 256 → a3 < 256 → a4 < 256 → Spells (b ∷ a1 ∷ a2 ∷ a3 ∷ a4 ∷ []) at (mov_number at (b - 0xB8) (a1 + 256 * a2 + 65536 * (a3 + 256 * a4)))
unfolding formed
mov_number_spells b a1 a2 a3 a4 at low high b1 b2 b3 b4 =
    let r : ℕ = b - 0xB8 in
    let e : 0xB8 + r ≡ b = omega arith in
    let x : Parts = mov_number_parts r (a1 + 256 * a2 + 65536 * (a3 + 256 * a4)) in
    let q = before_b8 r (omega arith) (a1 ∷ a2 ∷ a3 ∷ a4 ∷ []) x (b1, (b2, (b3, (b4, refl)))) in
    record {
      parts = x;
      read = subst (λ v. Accepts instruction (v ∷ a1 ∷ a2 ∷ a3 ∷ a4 ∷ []) x) e q;
      short = lit≤ tt;
      is = refl;
    }

register_named : (o : Op) (modrm : ℕ) (rest : List ℕ) (x : Parts) → 0xC0 ≤ modrm → modrm < 256 → Accepts (ending no_prefixes (two_operands o) modrm None) rest x → Accepts (addressed no_prefixes (two_operands o) modrm) rest x
unfolding addressed
register_named o modrm rest x low high p = true_if (mod_field modrm == 3) _ _ rest x (is_three modrm low high) p

pub mov_register_spells : (modrm at : ℕ) → 0xC0 ≤ modrm → modrm < 256 → Spells (0x89 ∷ modrm ∷ []) at (mov_register at modrm)
unfolding instruction prefixed next_prefixes opened simple row_00 row_80 row_c0 string_form formed
mov_register_spells modrm at low high =
    let f = two_operands op.Mov in
    record {
      parts = two_register_parts f modrm;
      read = (lit< tt, (high, register_named op.Mov modrm [] (two_register_parts f modrm) low high refl));
      short = lit≤ tt;
      is = refl;
    }

pub add_register_spells : (modrm at : ℕ) → 0xC0 ≤ modrm → modrm < 256 → Spells (0x01 ∷ modrm ∷ []) at (add_register at modrm)
unfolding instruction prefixed next_prefixes opened simple row_00 row_80 row_c0 string_form formed
add_register_spells modrm at low high =
    let f = two_operands op.Add in
    record {
      parts = two_register_parts f modrm;
      read = (lit< tt, (high, register_named op.Add modrm [] (two_register_parts f modrm) low high refl));
      short = lit≤ tt;
      is = refl;
    }

pub near_return_spells : (at : ℕ) → Spells (0xC3 ∷ []) at (near_return at)
unfolding instruction prefixed next_prefixes opened simple row_00 row_80 row_c0 string_form formed
near_return_spells at = record {
  parts = two_register_parts (plain op.Ret size.Dword) 0;
  read = (lit< tt, refl);
  short = lit≤ tt;
  is = refl;
}
