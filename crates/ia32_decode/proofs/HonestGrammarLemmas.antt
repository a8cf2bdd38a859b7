-- The grammar of instructions tells right how few bytes complete an instruction.

use Rattle.std.proofs.Common.{◌≡◌, ℕ, zero, suc, ◌+◌, ◌≤◌, ◌<◌, Bool, true, false, not, ◌==◌, ◌&&◌, if◌then◌else◌, refl, sym, subst, Option, Some, None, arith, lit<, lit≤, inl, inr}
use Rattle.std.proofs.lemmas.Bool.{cond_both, eqb-true}
use Rattle.ia32_types.specs.declared.Mem.{Mem}
use Rattle.ia32_types.specs.declared.Op.TheVariants as op
use Rattle.ia32_types.specs.declared.forms.Size.TheVariants as size
use Rattle.ia32_types.specs.declared.forms.Count.TheVariants as count
use Rattle.ia32_types.specs.declared.forms.Form.{Form}
use Rattle.ia32_types.specs.declared.forms.Group.{Group}
use Rattle.ia32_types.specs.declared.forms.Group.TheVariants as group
use Rattle.ia32_types.specs.declared.forms.Row.{Row}
use Rattle.ia32_types.specs.declared.forms.Row.TheVariants.{Missing, One, Grouped}
use Rattle.ia32_types.specs.declared.forms.Segment.{Segment}
use Rattle.ia32_types.specs.declared.forms.Segment.TheVariants as segment
use Rattle.ia32_types.specs.declared.forms.Repeat.{Repeat}
use Rattle.ia32_types.specs.declared.forms.Repeat.TheVariants as repeat
use Rattle.ia32_types.specs.declared.forms.Prefixes.{Prefixes}
use Rattle.ia32_types.specs.declared.forms.Parts.{Parts}
use Rattle.ia32_types.specs.Readers.{Reader, bad, more, number}
use Rattle.ia32_types.specs.Forms.{has_modrm, is_memory, is_gs, stores, plain, mod_field, reg_field}
use Rattle.ia32_types.specs.Rows.{row_of, row_0f, row_80, group_form, string_form}
use Rattle.ia32_types.specs.Memory.{memory}
use Rattle.ia32_types.specs.Prefixes.{no_prefixes, is_prefix, is_earlier, next_prefixes, bytes_after}
use Rattle.ia32_types.specs.Spells.{end_bytes, ending, is_read_only, refuses_memory, in_memory, addressed, is_refused, formed, grouped_form, is_group_refused, group_bytes, grouped, rowed, string, simple, repeated, endbr32, two_bytes, opened, prefixed, instruction}
use Rattle.ia32_decode.proofs.HonestLemmas.{IsHonest, fewest, AtMost, Leads}
use Rattle.ia32_decode.proofs.HonestPartLemmas.{Needs, needs_then, honest_then, IsSize, needs_number, Ends, ends_bad, needs_ends, plus_ends, at_most_one, honest_memory, needs_memory}
use Rattle.ia32_decode.proofs.HonestRowLemmas.{is_good, good_size, good_memory, IsGoodRow, good_row_of, good_row_0f, IsGoodDigit, good_digit}

needs_ending : (p : Prefixes) (f : Form) (modrm : ℕ) (memory : Option Mem) → IsSize (end_bytes p f) → Needs (ending p f modrm memory) (end_bytes p f)
needs_ending p f modrm memory size =
    let e : end_bytes p f + 0 ≡ end_bytes p f = omega arith in
    subst (Needs (ending p f modrm memory)) e (needs_then (end_bytes p f) 0 (number (end_bytes p f)) _ (needs_number (end_bytes p f) size) (λ n. record { honest = tt; is = refl }))

-- memory and the number at the end
ends_in_memory : (p : Prefixes) (f : Form) (modrm : ℕ) → IsSize (end_bytes p f) → Ends (in_memory p f modrm) (end_bytes p f)
ends_in_memory p f modrm size =
    plus_ends (in_memory p f modrm) (end_bytes p f) _
    (honest_then (end_bytes p f) (memory (is_gs p.segment) modrm) (λ m. ending p f modrm (Some m)) (honest_memory (is_gs p.segment) modrm) (λ m. needs_ending p f modrm (Some m) size))

ends_addressed : (p : Prefixes) (f : Form) (modrm : ℕ) → IsSize (end_bytes p f) → Ends (addressed p f modrm) (end_bytes p f)
unfolding addressed
ends_addressed p f modrm size =
    let P : Reader Parts → Type 0 = λ r. Ends r (end_bytes p f) in
    let all : end_bytes p f ≤ end_bytes p f = omega arith in
    cond_both (mod_field modrm == 3) _ _ P
    (λ _. cond_both (is_memory f.second) _ _ P (λ _. ends_bad (end_bytes p f)) (λ _. needs_ends _ (end_bytes p f) (end_bytes p f) all (needs_ending p f modrm None size)))
    (λ _. cond_both (refuses_memory p f) _ _ P (λ _. ends_bad (end_bytes p f)) (λ _. ends_in_memory p f modrm size))

-- a register as operand
needs_register : (p : Prefixes) (f : Form) (modrm : ℕ) → (mod_field modrm == 3) ≡ true → is_memory f.second ≡ false → IsSize (end_bytes p f) → Needs (addressed p f modrm) (end_bytes p f)
unfolding addressed
needs_register p f modrm three register size =
    first_of_two (mod_field modrm == 3) _ _ (end_bytes p f) three (second_of_two (is_memory f.second) _ _ (end_bytes p f) register (needs_ending p f modrm None size))
  where
    first_of_two : (t : Bool) (x y : Reader Parts) (n : ℕ) → t ≡ true → Needs x n → Needs (if t then x else y) n
    first_of_two true x y n e h = h
    first_of_two false x y n e h = cc

    second_of_two : (t : Bool) (x y : Reader Parts) (n : ℕ) → t ≡ false → Needs y n → Needs (if t then x else y) n
    second_of_two true x y n e h = cc
    second_of_two false x y n e h = h

-- memory as operand
needs_plain_memory : (p : Prefixes) (f : Form) → refuses_memory p f ≡ false → IsSize (end_bytes p f) → Needs (addressed p f 0) (end_bytes p f)
unfolding addressed
needs_plain_memory p f allowed size =
    second_of_two (refuses_memory p f) _ _ (end_bytes p f) allowed
    (needs_then 0 (end_bytes p f) (memory (is_gs p.segment) 0) (λ m. ending p f 0 (Some m)) (needs_memory (is_gs p.segment)) (λ m. needs_ending p f 0 (Some m) size))
  where
    second_of_two : (t : Bool) (x y : Reader Parts) (n : ℕ) → t ≡ false → Needs y (0 + n) → Needs (if t then x else y) n
    second_of_two true x y n e h = cc
    second_of_two false x y n e h = let z : 0 + n ≡ n = omega arith in subst (Needs y) z h

-- a byte after which n more complete the whole
record Witness (k : ℕ → Reader Parts) (n : ℕ) : Type 0 where
  byte : ℕ
  is_byte : byte < 256
  fewest_after : fewest (k byte) ≡ Some n

honest_more : (k : ℕ → Reader Parts) (n : ℕ) → ((b : ℕ) → Ends (k b) n) → Witness k n → IsHonest (more (1 + n) k)
honest_more k n h w = (
  λ b lt. ((h b).honest, (h b).at_most),
  (w.byte, n, record { is_byte = w.is_byte; fewest_after = w.fewest_after; one_more = let e : 1 + n ≡ suc n = omega arith in e }),
)

-- some operand of a good form is not refused
operand_witness : (p : Prefixes) (f : Form) (m : Bool) → m ≡ is_memory f.second → is_good f ≡ true → Witness (addressed p f) (end_bytes p f)
operand_witness p f false e good = record { byte = 192; is_byte = lit< tt; fewest_after = (needs_register p f 192 refl (sym e) (good_size p f good)).is }
operand_witness p f true e good = record { byte = 0; is_byte = lit< tt; fewest_after = (needs_plain_memory p f (not_stored (is_memory f.second) (stores f) (is_read_only p.segment) (sym e) (good_memory f good)) (good_size p f good)).is }
  where
    not_stored : (m s r : Bool) → m ≡ true → (m && s) ≡ false → (s && r) ≡ false
    not_stored true false r e h = refl
    not_stored true true r e h = cc
    not_stored false s r e h = cc

honest_formed : (p : Prefixes) (f : Form) → is_good f ≡ true → IsHonest (formed p f)
unfolding formed
honest_formed p f good =
    cond_both (is_refused p f) _ _ IsHonest (λ _. tt) (λ _.
    cond_both (has_modrm f) _ _ IsHonest
    (λ _. honest_more (addressed p f) (end_bytes p f) (λ b. ends_addressed p f b (good_size p f good)) (operand_witness p f (is_memory f.second) refl good))
    (λ _. (needs_ending p f 0 None (good_size p f good)).honest))

-- a group
ends_digit : (p : Prefixes) (g : Group) (modrm : ℕ) (o : Option Form) → IsGoodDigit p g o → Ends (grouped_form p modrm o) (group_bytes p g)
ends_digit p g modrm None h = ends_bad (group_bytes p g)
ends_digit p g modrm (Some f) h =
    cond_both (is_refused p f) _ _ (λ r. Ends r (group_bytes p g)) (λ _. ends_bad (group_bytes p g))
    (λ _. fewer (addressed p f modrm) (group_bytes p g) (end_bytes p f) h.least (ends_addressed p f modrm (good_size p f h.good)))
  where
    less : (o : Option ℕ) (n m : ℕ) → n ≤ m → AtMost (1 + m) o → AtMost (1 + n) o
    less None n m le h = tt
    less (Some k) n m le h = let e : 1 + n ≤ suc k = omega arith in e

    fewer : (r : Reader Parts) (n m : ℕ) → n ≤ m → Ends r m → Ends r n
    fewer r n m le h = record { honest = h.honest; at_most = less (fewest r) n m le h.at_most }

-- the digit of a form that ends as early as any of its group, with a register as operand
abbrev group_modrm : Group → ℕ
group_modrm group.Unary8 = 208
group_modrm group.Unary = 208
group_modrm _ = 192

group_modrm_byte : (g : Group) → group_modrm g < 256
group_modrm_byte group.Unary8 = lit< tt
group_modrm_byte group.Unary = lit< tt
group_modrm_byte _ = lit< tt

group_witness : (o : Bool) (s : Segment) (r : Repeat) (g : Group) → (let p : Prefixes = record { operand16 = o; segment = s; repeat = r } in is_group_refused p g ≡ false → Needs (grouped_form p (group_modrm g) (group_form g (reg_field (group_modrm g)))) (group_bytes p g))
unfolding group_form
group_witness true s r group.Arith8 h = needs_register _ _ 192 refl refl (inr (inl refl))
group_witness false s r group.Arith8 h = needs_register _ _ 192 refl refl (inr (inl refl))
group_witness true s r group.Arith h = needs_register _ _ 192 refl refl (inr (inr (inl refl)))
group_witness false s r group.Arith h = needs_register _ _ 192 refl refl (inr (inr (inr refl)))
group_witness true s r group.ArithSigned h = needs_register _ _ 192 refl refl (inr (inl refl))
group_witness false s r group.ArithSigned h = needs_register _ _ 192 refl refl (inr (inl refl))
group_witness true s r (group.Shift8 count.Imm8) h = needs_register _ _ 192 refl refl (inr (inl refl))
group_witness false s r (group.Shift8 count.Imm8) h = needs_register _ _ 192 refl refl (inr (inl refl))
group_witness true s r (group.Shift8 count.One) h = needs_register _ _ 192 refl refl (inl refl)
group_witness false s r (group.Shift8 count.One) h = needs_register _ _ 192 refl refl (inl refl)
group_witness true s r (group.Shift8 count.Cl) h = needs_register _ _ 192 refl refl (inl refl)
group_witness false s r (group.Shift8 count.Cl) h = needs_register _ _ 192 refl refl (inl refl)
group_witness true s r (group.Shift count.Imm8) h = needs_register _ _ 192 refl refl (inr (inl refl))
group_witness false s r (group.Shift count.Imm8) h = needs_register _ _ 192 refl refl (inr (inl refl))
group_witness true s r (group.Shift count.One) h = needs_register _ _ 192 refl refl (inl refl)
group_witness false s r (group.Shift count.One) h = needs_register _ _ 192 refl refl (inl refl)
group_witness true s r (group.Shift count.Cl) h = needs_register _ _ 192 refl refl (inl refl)
group_witness false s r (group.Shift count.Cl) h = needs_register _ _ 192 refl refl (inl refl)
group_witness true s r group.Mov8 h = needs_register _ _ 192 refl refl (inr (inl refl))
group_witness false s r group.Mov8 h = needs_register _ _ 192 refl refl (inr (inl refl))
group_witness true s r group.Mov h = needs_register _ _ 192 refl refl (inr (inr (inl refl)))
group_witness false s r group.Mov h = needs_register _ _ 192 refl refl (inr (inr (inr refl)))
group_witness true s r group.Pop h = cc
group_witness false s r group.Pop h = needs_register _ _ 192 refl refl (inl refl)
group_witness true s r group.Nop h = needs_register _ _ 192 refl refl (inl refl)
group_witness false s r group.Nop h = needs_register _ _ 192 refl refl (inl refl)
group_witness true s r group.Unary8 h = needs_register _ _ 208 refl refl (inl refl)
group_witness false s r group.Unary8 h = needs_register _ _ 208 refl refl (inl refl)
group_witness true s r group.Unary h = needs_register _ _ 208 refl refl (inl refl)
group_witness false s r group.Unary h = needs_register _ _ 208 refl refl (inl refl)
group_witness true s r group.Step8 h = needs_register _ _ 192 refl refl (inl refl)
group_witness false s r group.Step8 h = needs_register _ _ 192 refl refl (inl refl)
group_witness true s r group.Step h = needs_register _ _ 192 refl refl (inl refl)
group_witness false s r group.Step h = needs_register _ _ 192 refl refl (inl refl)

honest_grouped : (p : Prefixes) (g : Group) → IsHonest (grouped p g)
unfolding grouped
honest_grouped p g =
    cond_both (is_group_refused p g) _ _ IsHonest (λ _. tt)
    (λ allowed. honest_more _ (group_bytes p g) (λ b. ends_digit p g b (group_form g (reg_field b)) (good_digit p g (reg_field b)))
    (record { byte = group_modrm g; is_byte = group_modrm_byte g; fewest_after = (group_witness p.operand16 p.segment p.repeat g allowed).is }))

honest_rowed : (p : Prefixes) (row : Row) → IsGoodRow row → IsHonest (rowed p row)
honest_rowed p Missing h = tt
honest_rowed p (One f) h = honest_formed p f h
honest_rowed p (Grouped g) h = honest_grouped p g

-- string instructions
honest_string : (p : Prefixes) (f : Form) → IsSize (end_bytes p f) → IsHonest (string p f)
honest_string p f size = cond_both (is_gs p.segment) _ _ IsHonest (λ _. tt) (λ _. (needs_ending p f 0 None size).honest)

-- what holds of each string instruction, and of none
by_string : (P : Option Form → Type 0) (rep : Bool) (b : ℕ) → P (Some (plain (op.Movs rep) size.Byte)) → P (Some (plain (op.Movs rep) size.Full)) → P (Some (plain (op.Stos rep) size.Byte)) → P (Some (plain (op.Stos rep) size.Full)) → P None → P (string_form rep b)
unfolding string_form
by_string P rep b movsb movs stosb stos none =
    cond_both (b == 0xA4) _ _ P (λ _. movsb) (λ _.
    cond_both (b == 0xA5) _ _ P (λ _. movs) (λ _.
    cond_both (b == 0xAA) _ _ P (λ _. stosb) (λ _.
    cond_both (b == 0xAB) _ _ P (λ _. stos) (λ _. none))))

honest_simple : (p : Prefixes) (b : ℕ) → IsHonest (simple p b (string_form false b))
unfolding simple
honest_simple p b =
    by_string (λ o. IsHonest (simple p b o)) false b
    (honest_string p (plain (op.Movs false) size.Byte) (inl refl)) (honest_string p (plain (op.Movs false) size.Full) (inl refl)) (honest_string p (plain (op.Stos false) size.Byte) (inl refl)) (honest_string p (plain (op.Stos false) size.Full) (inl refl))
    (honest_rowed p (row_of b) (good_row_of b))

honest_repeated : (p : Prefixes) (b : ℕ) → IsHonest (repeated p (string_form true b))
honest_repeated p b =
    by_string (λ o. IsHonest (repeated p o)) true b
    (honest_string p (plain (op.Movs true) size.Byte) (inl refl)) (honest_string p (plain (op.Movs true) size.Full) (inl refl)) (honest_string p (plain (op.Stos true) size.Byte) (inl refl)) (honest_string p (plain (op.Stos true) size.Full) (inl refl)) tt

honest_endbr32 : (p : Prefixes) → IsHonest (endbr32 p)
honest_endbr32 p = (
  λ b lt. cond_both (b == 0x1E) _ _ (λ r. IsHonest r × AtMost 2 (fewest r))
      (λ _. (
        (
          λ c lt. cond_both (c == 0xFB) _ _ (λ r. IsHonest r × AtMost 1 (fewest r)) (λ _. (tt, lit≤ tt)) (λ _. (tt, tt)),
          (0xFB, 0, record { is_byte = lit< tt; fewest_after = refl; one_more = refl }),
        ),
        lit≤ tt,
      ))
      (λ _. (tt, tt)),
  (0x1E, 1, record { is_byte = lit< tt; fewest_after = refl; one_more = refl }),
)

honest_two_bytes : (p : Prefixes) → IsHonest (two_bytes p)
unfolding row_0f formed
honest_two_bytes p = (
  λ b lt. (honest_rowed p (row_0f b) (good_row_0f b), at_most_one (fewest (rowed p (row_0f b)))),
  (0x0B, 0, record { is_byte = lit< tt; fewest_after = ud2 p.operand16 p.segment p.repeat; one_more = refl }),
)
  where
    ud2 : (o : Bool) (s : Segment) (r : Repeat) → fewest (rowed (record { operand16 = o; segment = s; repeat = r }) (row_0f 0x0B)) ≡ Some 0
    ud2 true s r = refl
    ud2 false s r = refl

honest_opened : (p : Prefixes) (r : Repeat) (b : ℕ) → IsHonest (opened p r b)
unfolding opened
honest_opened p repeat.Absent b = cond_both (b == 0x0F) _ _ IsHonest (λ _. honest_two_bytes p) (λ _. honest_simple p b)
honest_opened p repeat.Last b =
    cond_both (b == 0xC3) _ _ IsHonest (λ _. honest_formed p (plain op.Ret size.Dword) refl) (λ _.
    cond_both (b == 0x0F) _ _ IsHonest (λ _. honest_endbr32 p) (λ _. honest_repeated p b))
honest_opened p repeat.Earlier b = honest_repeated p b

-- prefixes that something may follow
abbrev pub IsAlive : Prefixes → Type 0
IsAlive p = (is_earlier p.repeat && is_gs p.segment) ≡ false

-- the prefixes with one more are such, and then one byte may complete the instruction
abbrev is_next_good : Prefixes → Option Prefixes → Bool
is_next_good p None = true
is_next_good p (Some q) = not (is_earlier q.repeat && is_gs q.segment) && (bytes_after p p.repeat == 1)

by_prefix : (P : Option Prefixes → Type 0) (p : Prefixes) (b : ℕ) → P (next_prefixes p 0x66) → P (next_prefixes p 0x65) → P (next_prefixes p 0x2E) → P (next_prefixes p 0x3E) → P (next_prefixes p 0xF3) → P (next_prefixes p b)
unfolding next_prefixes
by_prefix P p b wide gs cs ds rep =
    cond_both (b == 0x66) _ _ P (λ _. wide) (λ _.
    cond_both (b == 0x65) _ _ P (λ _. gs) (λ _.
    cond_both (b == 0x2E) _ _ P (λ _. cs) (λ _.
    cond_both (b == 0x3E) _ _ P (λ _. ds) (λ _. rep))))

abbrev prefixes : Bool → Segment → Repeat → Prefixes
prefixes o s r = record { operand16 = o; segment = s; repeat = r }

next_is_good : (o : Bool) (s : Segment) (r : Repeat) (b : ℕ) → (let p : Prefixes = record { operand16 = o; segment = s; repeat = r } in IsAlive p → is_next_good p (next_prefixes p b) ≡ true)
unfolding next_prefixes
next_is_good true segment.None repeat.Absent b h = by_prefix (λ q. is_next_good (prefixes true segment.None repeat.Absent) q ≡ true) (prefixes true segment.None repeat.Absent) b refl refl refl refl refl
next_is_good true segment.None repeat.Last b h = by_prefix (λ q. is_next_good (prefixes true segment.None repeat.Last) q ≡ true) (prefixes true segment.None repeat.Last) b refl refl refl refl refl
next_is_good true segment.None repeat.Earlier b h = by_prefix (λ q. is_next_good (prefixes true segment.None repeat.Earlier) q ≡ true) (prefixes true segment.None repeat.Earlier) b refl refl refl refl refl
next_is_good true segment.Cs repeat.Absent b h = by_prefix (λ q. is_next_good (prefixes true segment.Cs repeat.Absent) q ≡ true) (prefixes true segment.Cs repeat.Absent) b refl refl refl refl refl
next_is_good true segment.Cs repeat.Last b h = by_prefix (λ q. is_next_good (prefixes true segment.Cs repeat.Last) q ≡ true) (prefixes true segment.Cs repeat.Last) b refl refl refl refl refl
next_is_good true segment.Cs repeat.Earlier b h = by_prefix (λ q. is_next_good (prefixes true segment.Cs repeat.Earlier) q ≡ true) (prefixes true segment.Cs repeat.Earlier) b refl refl refl refl refl
next_is_good true segment.Ds repeat.Absent b h = by_prefix (λ q. is_next_good (prefixes true segment.Ds repeat.Absent) q ≡ true) (prefixes true segment.Ds repeat.Absent) b refl refl refl refl refl
next_is_good true segment.Ds repeat.Last b h = by_prefix (λ q. is_next_good (prefixes true segment.Ds repeat.Last) q ≡ true) (prefixes true segment.Ds repeat.Last) b refl refl refl refl refl
next_is_good true segment.Ds repeat.Earlier b h = by_prefix (λ q. is_next_good (prefixes true segment.Ds repeat.Earlier) q ≡ true) (prefixes true segment.Ds repeat.Earlier) b refl refl refl refl refl
next_is_good true segment.Gs repeat.Absent b h = by_prefix (λ q. is_next_good (prefixes true segment.Gs repeat.Absent) q ≡ true) (prefixes true segment.Gs repeat.Absent) b refl refl refl refl refl
next_is_good true segment.Gs repeat.Last b h = by_prefix (λ q. is_next_good (prefixes true segment.Gs repeat.Last) q ≡ true) (prefixes true segment.Gs repeat.Last) b refl refl refl refl refl
next_is_good true segment.Gs repeat.Earlier b h = cc
next_is_good false segment.None repeat.Absent b h = by_prefix (λ q. is_next_good (prefixes false segment.None repeat.Absent) q ≡ true) (prefixes false segment.None repeat.Absent) b refl refl refl refl refl
next_is_good false segment.None repeat.Last b h = by_prefix (λ q. is_next_good (prefixes false segment.None repeat.Last) q ≡ true) (prefixes false segment.None repeat.Last) b refl refl refl refl refl
next_is_good false segment.None repeat.Earlier b h = by_prefix (λ q. is_next_good (prefixes false segment.None repeat.Earlier) q ≡ true) (prefixes false segment.None repeat.Earlier) b refl refl refl refl refl
next_is_good false segment.Cs repeat.Absent b h = by_prefix (λ q. is_next_good (prefixes false segment.Cs repeat.Absent) q ≡ true) (prefixes false segment.Cs repeat.Absent) b refl refl refl refl refl
next_is_good false segment.Cs repeat.Last b h = by_prefix (λ q. is_next_good (prefixes false segment.Cs repeat.Last) q ≡ true) (prefixes false segment.Cs repeat.Last) b refl refl refl refl refl
next_is_good false segment.Cs repeat.Earlier b h = by_prefix (λ q. is_next_good (prefixes false segment.Cs repeat.Earlier) q ≡ true) (prefixes false segment.Cs repeat.Earlier) b refl refl refl refl refl
next_is_good false segment.Ds repeat.Absent b h = by_prefix (λ q. is_next_good (prefixes false segment.Ds repeat.Absent) q ≡ true) (prefixes false segment.Ds repeat.Absent) b refl refl refl refl refl
next_is_good false segment.Ds repeat.Last b h = by_prefix (λ q. is_next_good (prefixes false segment.Ds repeat.Last) q ≡ true) (prefixes false segment.Ds repeat.Last) b refl refl refl refl refl
next_is_good false segment.Ds repeat.Earlier b h = by_prefix (λ q. is_next_good (prefixes false segment.Ds repeat.Earlier) q ≡ true) (prefixes false segment.Ds repeat.Earlier) b refl refl refl refl refl
next_is_good false segment.Gs repeat.Absent b h = by_prefix (λ q. is_next_good (prefixes false segment.Gs repeat.Absent) q ≡ true) (prefixes false segment.Gs repeat.Absent) b refl refl refl refl refl
next_is_good false segment.Gs repeat.Last b h = by_prefix (λ q. is_next_good (prefixes false segment.Gs repeat.Last) q ≡ true) (prefixes false segment.Gs repeat.Last) b refl refl refl refl refl
next_is_good false segment.Gs repeat.Earlier b h = cc

-- an opcode after the prefixes needs as many bytes as they tell
at_most_opened : (o : Bool) (s : Segment) (r : Repeat) (b : ℕ) → (let p : Prefixes = record { operand16 = o; segment = s; repeat = r } in AtMost (bytes_after p r) (fewest (opened p r b)))
unfolding opened formed
at_most_opened o s repeat.Absent b = at_most_one _
at_most_opened o s repeat.Earlier b = at_most_one _
at_most_opened false s repeat.Last b = at_most_one _
at_most_opened true segment.None repeat.Last b = at_most_one _
at_most_opened true segment.Cs repeat.Last b = at_most_one _
at_most_opened true segment.Ds repeat.Last b = at_most_one _
at_most_opened true segment.Gs repeat.Last b =
    let P : Reader Parts → Type 0 = λ r. AtMost 3 (fewest r) in
    cond_both (b == 0xC3) _ _ P (λ _. tt) (λ _.
    cond_both (b == 0x0F) _ _ P (λ _. lit≤ tt) (λ _.
    by_string (λ f. P (repeated (record { operand16 = true; segment = segment.Gs; repeat = repeat.Last }) f)) true b tt tt tt tt tt))

-- what follows the prefixes, of which n more may stand
abbrev after_prefixes : ℕ → Prefixes → ℕ → Reader Parts
after_prefixes n p b = (
    if is_prefix b then elim (next_prefixes p b) [
      | None ↦ bad
      | Some q ↦ prefixed n q
    ]
    else opened p p.repeat b)

record HasLeast (n : ℕ) (p : Prefixes) : Type 0 where
  byte : ℕ
  after : ℕ
  leads : Leads (bytes_after p p.repeat) byte after (fewest (after_prefixes n p byte))

least_byte : (n : ℕ) (o : Bool) (s : Segment) (r : Repeat) → (let p : Prefixes = record { operand16 = o; segment = s; repeat = r } in IsAlive p → HasLeast n p)
unfolding opened simple formed row_80 string_form
least_byte n true s repeat.Absent h = record { byte = 0x90; after = 0; leads = record { is_byte = lit< tt; fewest_after = refl; one_more = refl } }
least_byte n false s repeat.Absent h = record { byte = 0x90; after = 0; leads = record { is_byte = lit< tt; fewest_after = refl; one_more = refl } }
least_byte n false s repeat.Last h = record { byte = 0xC3; after = 0; leads = record { is_byte = lit< tt; fewest_after = refl; one_more = refl } }
least_byte n true segment.None repeat.Last h = record { byte = 0xA4; after = 0; leads = record { is_byte = lit< tt; fewest_after = refl; one_more = refl } }
least_byte n true segment.Cs repeat.Last h = record { byte = 0xA4; after = 0; leads = record { is_byte = lit< tt; fewest_after = refl; one_more = refl } }
least_byte n true segment.Ds repeat.Last h = record { byte = 0xA4; after = 0; leads = record { is_byte = lit< tt; fewest_after = refl; one_more = refl } }
least_byte n true segment.Gs repeat.Last h = record { byte = 0x0F; after = 2; leads = record { is_byte = lit< tt; fewest_after = refl; one_more = refl } }
least_byte n o segment.None repeat.Earlier h = record { byte = 0xA4; after = 0; leads = record { is_byte = lit< tt; fewest_after = refl; one_more = refl } }
least_byte n o segment.Cs repeat.Earlier h = record { byte = 0xA4; after = 0; leads = record { is_byte = lit< tt; fewest_after = refl; one_more = refl } }
least_byte n o segment.Ds repeat.Earlier h = record { byte = 0xA4; after = 0; leads = record { is_byte = lit< tt; fewest_after = refl; one_more = refl } }
least_byte n o segment.Gs repeat.Earlier h = cc

pub honest_prefixed : (n : ℕ) (p : Prefixes) → IsAlive p → IsHonest (prefixed n p)
unfolding prefixed
honest_prefixed zero p h = tt
honest_prefixed (suc n) p h = (
  λ b lt. cond_both {A = Reader Parts} (is_prefix b) _ _ (λ r. IsHonest r × AtMost (bytes_after p p.repeat) (fewest r))
      (λ _. after_next (λ q alive. honest_prefixed n q alive) (next_prefixes p b) (next_is_good p.operand16 p.segment p.repeat b h))
      (λ _. (honest_opened p p.repeat b, at_most_opened p.operand16 p.segment p.repeat b)),
  (let l = least_byte n p.operand16 p.segment p.repeat h in (l.byte, l.after, l.leads)),
)
  where
    and_then_left : (a b : Bool) → (not a && b) ≡ true → a ≡ false
    and_then_left true b e = cc
    and_then_left false b e = refl

    and_then_right : (a b : Bool) → (not a && b) ≡ true → b ≡ true
    and_then_right true b e = cc
    and_then_right false b e = e

    few : (m : ℕ) (o : Option ℕ) → (m == 1) ≡ true → AtMost m o
    few m o e = subst (λ v. AtMost v o) (sym (eqb-true m 1 e)) (at_most_one o)

    after_next : ((q : Prefixes) → IsAlive q → IsHonest (prefixed n q)) → (o : Option Prefixes) → is_next_good p o ≡ true → (let r : Reader Parts = elim o [ None ↦ bad | Some q ↦ prefixed n q ] in IsHonest r × AtMost (bytes_after p p.repeat) (fewest r))
    after_next rest None e = (tt, tt)
    after_next rest (Some q) e = (rest q (and_then_left _ _ e), few (bytes_after p p.repeat) (fewest (prefixed n q)) (and_then_right (is_earlier q.repeat && is_gs q.segment) _ e))

pub honest_instruction : IsHonest instruction
unfolding instruction
honest_instruction = honest_prefixed 15 no_prefixes refl
