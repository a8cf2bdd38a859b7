-- Bytes spell instructions whose operands are those of their operation.

use Rattle.std.proofs.Common.{◌≡◌, ℕ, zero, suc, ◌+◌, ◌%◌, ◌<◌, ◌≤◌, ◌==◌, Bool, true, false, cond, ◌&&◌, ◌⊎◌, List, [], ◌∷◌, length, Option, Some, None, refl, sym, ◌∙◌, ap, subst, arith, inl, inr}
use Rattle.std.proofs.lemmas.Bool.{cond_both, eqb-false, or_parts}
use Rattle.ia32_types.specs.declared.Reg.{Reg}
use Rattle.ia32_types.specs.declared.Reg.TheVariants.{Esp}
use Rattle.ia32_types.specs.declared.Width.TheVariants.{D32}
use Rattle.ia32_types.specs.declared.Mem.{Mem}
use Rattle.ia32_types.specs.declared.Instr.{Instr}
use Rattle.ia32_types.specs.declared.Op.TheVariants as op
use Rattle.ia32_types.specs.declared.forms.Size.TheVariants as size
use Rattle.ia32_types.specs.declared.forms.Slot.TheVariants as slot
use Rattle.ia32_types.specs.declared.forms.Slot.{Slot}
use Rattle.ia32_types.specs.declared.forms.Form.{Form}
use Rattle.ia32_types.specs.declared.forms.Row.{Row}
use Rattle.ia32_types.specs.declared.forms.Row.TheVariants.{Missing, One, Grouped}
use Rattle.ia32_types.specs.declared.forms.Repeat.{Repeat}
use Rattle.ia32_types.specs.declared.forms.Repeat.TheVariants as repeat
use Rattle.ia32_types.specs.declared.forms.Prefixes.{Prefixes}
use Rattle.ia32_types.specs.declared.forms.Parts.{Parts}
use Rattle.ia32_types.specs.Numbers.{reg_of, reg_number}
use Rattle.ia32_types.specs.Forms.{plain, slot_has_modrm, is_gs, is_memory, has_modrm, rm_field, reg_field, mod_field, scale_field, index_field, base_field, sign_extended, finished}
use Rattle.ia32_types.specs.Memory.{memory, indexed, displaced, displacement, disp_bytes, index_of, index_scale, scale_of}
use Rattle.ia32_types.specs.Prefixes.{no_prefixes, is_prefix, next_prefixes}
use Rattle.ia32_types.specs.Readers.{Reader, done, bad, dword, byte, then_, number}
use Rattle.ia32_types.specs.Rows.{row_of, row_0f, group_form, string_form}
use Rattle.ia32_types.specs.Spells.{Spells, end_bytes, ending, is_refused, refuses_memory, addressed, formed, grouped_form, is_group_refused, grouped, rowed, string, simple, repeated, endbr32, two_bytes, opened, prefixed, instruction}
use Rattle.ia32_types.specs.Operands.{IsAddress, IsIndex, IsInstruction}
use Rattle.ia32_types.proofs.NumberLemmas.{number_of_reg}
use Rattle.ia32_types.proofs.EveryLemmas.{Every, every_read, every_then, every_if, every_number, number_limit}
use Rattle.ia32_types.proofs.OperandLemmas.{FitsMemory, HasProperOperands, IsProper, extended_below}
use Rattle.ia32_types.proofs.FormLemmas.{alone_any, returned_plain}
use Rattle.ia32_types.proofs.RowLemmas.{IsProperForm, IsProperRow, IsStringForm, AreStrings, plain_goes, proper_row, proper_row_0f, proper_string}
use Rattle.ia32_types.proofs.SpellsLemmas.{not_empty}

-- -- Memory

-- memory whose address counts from GS or not
abbrev IsNamed : Bool → Mem → Type 0
IsNamed gs m = IsAddress m × (m.gs ≡ gs)

abbrev IsScale : ℕ → Type 0
IsScale n = (n ≡ 1) ⊎ ((n ≡ 2) ⊎ ((n ≡ 4) ⊎ (n ≡ 8)))

every_displacement : (bytes : ℕ) → Every (λ n. n < 4294967296) (displacement bytes)
every_displacement bytes = every_choice (bytes == 0) (bytes == 1)
  where
    every_choice : (a b : Bool) → Every (λ n. n < 4294967296) (cond a (done 0) (cond b (then_ 0 byte (λ n. done (sign_extended D32 n))) dword))
    every_choice true b = omega arith
    every_choice false true = λ n lt. extended_below D32 n lt
    every_choice false false = λ a la b lb c lc d ld. omega arith

every_displaced : (gs : Bool) (base index : Option Reg) (scale bytes : ℕ) → IsScale scale → IsIndex index scale → Every (IsNamed gs) (displaced gs base index scale bytes)
unfolding displaced
every_displaced gs base index scale bytes is fits =
    every_then (λ n. n < 4294967296) (IsNamed gs) 0 (displacement bytes) _ (every_displacement bytes) (λ disp lt. (record { scale = is; index = fits; disp = lt }, refl))

is_scale : (n : ℕ) → IsScale (scale_of n)
is_scale n =
    cond_both (n == 0) _ _ IsScale (λ _. inl refl) (λ _.
    cond_both (n == 1) _ _ IsScale (λ _. inr (inl refl)) (λ _.
    cond_both (n == 2) _ _ IsScale (λ _. inr (inr (inl refl))) (λ _. inr (inr (inr refl)))))

is_index_scale : (n high : ℕ) → IsScale (index_scale n high)
is_index_scale n high = cond_both (n == 4) _ _ IsScale (λ _. inl refl) (λ _. is_scale high)

esp_is_four : (n : ℕ) → n < 8 → (n == 4) ≡ false → reg_of n ≡ Esp → ⊥
esp_is_four n lt other is = eqb-false n 4 other (sym (number_of_reg n lt) ∙ ap reg_number is)

is_index : (n high : ℕ) → n < 8 → IsIndex (index_of n) (index_scale n high)
is_index n high lt = by_test (n == 4) (λ other. esp_is_four n lt other)
  where
    by_test : (t : Bool) → (t ≡ false → reg_of n ≡ Esp → ⊥) → IsIndex (cond t None (Some (reg_of n))) (cond t 1 (scale_of high))
    by_test true h = refl
    by_test false h = h refl

every_indexed : (gs : Bool) (high sib : ℕ) → Every (IsNamed gs) (indexed gs high sib)
unfolding indexed
every_indexed gs high sib =
    let n : ℕ = index_field sib in
    let lt : n < 8 = omega arith in
    let scale : IsScale (index_scale n (scale_field sib)) = is_index_scale n (scale_field sib) in
    let index : IsIndex (index_of n) (index_scale n (scale_field sib)) = is_index n (scale_field sib) lt in
    every_if (IsNamed gs) (base_field sib == 5 && high == 0) _ _
    (λ _. every_displaced gs None (index_of n) (index_scale n (scale_field sib)) 4 scale index)
    (λ _. every_displaced gs (Some (reg_of (base_field sib))) (index_of n) (index_scale n (scale_field sib)) (disp_bytes high) scale index)

every_memory : (gs : Bool) (modrm : ℕ) → Every (IsNamed gs) (memory gs modrm)
unfolding memory
every_memory gs modrm =
    every_if (IsNamed gs) (rm_field modrm == 4) _ _ (λ _ sib lt. every_indexed gs (mod_field modrm) sib) (λ _.
    every_if (IsNamed gs) (rm_field modrm == 5 && mod_field modrm == 0) _ _
    (λ _. every_displaced gs None None 1 4 (inl refl) refl)
    (λ _. every_displaced gs (Some (reg_of (rm_field modrm))) None 1 (disp_bytes (mod_field modrm)) (inl refl) refl))

-- -- Forms

abbrev AllProper : Reader Parts → Type 0
AllProper r = Every HasProperOperands r

every_ending : (p : Prefixes) (f : Form) (modrm : ℕ) (m : Option Mem) → IsProper f → is_refused p f ≡ false → modrm < 256 → FitsMemory p f m → AllProper (ending p f modrm m)
every_ending p f modrm m proper goes lt fits =
    every_then (λ n. n < number_limit (end_bytes p f)) HasProperOperands 0 (number (end_bytes p f)) _ (every_number (end_bytes p f))
    (λ n below. proper p modrm n m (record { refused = goes; byte = lt; below = below; memory = fits }))

every_addressed : (p : Prefixes) (f : Form) (modrm : ℕ) → IsProper f → is_refused p f ≡ false → modrm < 256 → AllProper (addressed p f modrm)
unfolding addressed
every_addressed p f modrm proper goes lt =
    every_if HasProperOperands (mod_field modrm == 3) _ _
    (λ _. every_if HasProperOperands (is_memory f.second) _ _ (λ _. tt) (λ none. every_ending p f modrm None proper goes lt none))
    (λ _. every_if HasProperOperands (refuses_memory p f) _ _ (λ _. tt) (λ free.
    every_then (IsNamed (is_gs p.segment)) HasProperOperands (end_bytes p f) (memory (is_gs p.segment) modrm) _ (every_memory (is_gs p.segment) modrm)
    (λ m named. every_ending p f modrm (Some m) proper goes lt (named.0, named.1, free))))

without_modrm : (s : Option Slot) → slot_has_modrm s ≡ false → is_memory s ≡ false
without_modrm None e = refl
without_modrm (Some slot.RegMem) e = refl
without_modrm (Some slot.RegMem8) e = refl
without_modrm (Some slot.Memory) e = cc
without_modrm (Some slot.Reg) e = refl
without_modrm (Some (slot.Fixed n)) e = refl
without_modrm (Some slot.Cl) e = refl
without_modrm (Some slot.One) e = refl
without_modrm (Some slot.Imm) e = refl
without_modrm (Some slot.Imm8) e = refl
without_modrm (Some slot.SignedImm8) e = refl
without_modrm (Some slot.Imm16) e = refl
without_modrm (Some slot.Rel8) e = refl
without_modrm (Some slot.Rel32) e = refl
without_modrm (Some slot.Offset) e = refl

every_formed : (p : Prefixes) (f : Form) → IsProper f → AllProper (formed p f)
unfolding formed
every_formed p f proper =
    every_if HasProperOperands (is_refused p f) _ _ (λ _. tt) (λ goes.
    every_if HasProperOperands (has_modrm f) _ _
    (λ _ modrm lt. every_addressed p f modrm proper goes lt)
    (λ none. every_ending p f 0 None proper goes (omega arith) (without_modrm f.second (or_parts (slot_has_modrm f.first) (slot_has_modrm f.second) none).1)))

every_grouped_form : (p : Prefixes) (modrm : ℕ) (f : Option Form) → modrm < 256 → IsProperForm f → AllProper (grouped_form p modrm f)
every_grouped_form p modrm None lt proper = tt
every_grouped_form p modrm (Some f) lt proper = every_if HasProperOperands (is_refused p f) _ _ (λ _. tt) (λ goes. every_addressed p f modrm proper goes lt)

every_rowed : (p : Prefixes) (r : Row) → IsProperRow r → AllProper (rowed p r)
unfolding grouped
every_rowed p Missing proper = tt
every_rowed p (One f) proper = every_formed p f proper
every_rowed p (Grouped g) proper =
    every_if HasProperOperands (is_group_refused p g) _ _ (λ _. tt)
    (λ _ modrm lt. every_grouped_form p modrm (group_form g (reg_field modrm)) lt (proper (reg_field modrm)))

every_string : (p : Prefixes) (f : Form) → IsStringForm f → AllProper (string p f)
every_string p f is =
    every_if HasProperOperands (is_gs p.segment) _ _ (λ _. tt) (λ _. every_ending p f 0 None is.proper (is.goes p) (omega arith) is.no_memory)

-- -- Opcodes and prefixes

every_simple : (p : Prefixes) (b : ℕ) (f : Option Form) → AreStrings f → AllProper (simple p b f)
unfolding simple
every_simple p b None are = every_rowed p (row_of b) (proper_row b)
every_simple p b (Some f) are = every_string p f are

every_repeated : (p : Prefixes) (f : Option Form) → AreStrings f → AllProper (repeated p f)
every_repeated p None are = tt
every_repeated p (Some f) are = every_string p f are

every_endbr32 : (p : Prefixes) → AllProper (endbr32 p)
every_endbr32 p b lt =
    every_if HasProperOperands (b == 0x1E) _ bad
    (λ _ c below. every_if HasProperOperands (c == 0xFB) _ bad
    (λ _. every_ending p (plain op.Endbr32 size.Any) 0 None (alone_any op.Endbr32 refl) (plain_goes p.operand16) (omega arith) refl)
    (λ _. tt))
    (λ _. tt)

every_opened : (p : Prefixes) (r : Repeat) (b : ℕ) → AllProper (opened p r b)
unfolding opened
every_opened p repeat.Absent b =
    every_if HasProperOperands (b == 0x0F) (two_bytes p) _ (λ _ c lt. every_rowed p (row_0f c) (proper_row_0f c))
    (λ _. every_simple p b (string_form false b) (proper_string false b))
every_opened p repeat.Last b =
    every_if HasProperOperands (b == 0xC3) _ _ (λ _. every_formed p (plain op.Ret size.Dword) (returned_plain op.Ret refl)) (λ _.
    every_if HasProperOperands (b == 0x0F) (endbr32 p) _ (λ _. every_endbr32 p)
    (λ _. every_repeated p (string_form true b) (proper_string true b)))
every_opened p repeat.Earlier b = every_repeated p (string_form true b) (proper_string true b)

every_next : (n : ℕ) (o : Option Prefixes) → ((q : Prefixes) → AllProper (prefixed n q)) → AllProper (elim o [
  | None ↦ bad
  | Some q ↦ prefixed n q
])
every_next n None all = tt
every_next n (Some q) all = all q

every_prefixed : (n : ℕ) (p : Prefixes) → AllProper (prefixed n p)
unfolding prefixed
every_prefixed zero p = tt
every_prefixed (suc n) p = λ b lt.
    every_if HasProperOperands (is_prefix b) _ _ (λ _. every_next n (next_prefixes p b) (every_prefixed n)) (λ _. every_opened p p.repeat b)

every_instruction : AllProper instruction
unfolding instruction
every_instruction = every_prefixed 15 no_prefixes

-- what bytes spell is an instruction of their number at this address
pub record IsSpelled (bytes : List ℕ) (at : ℕ) (i : Instr) : Type 0 where
  pub is : IsInstruction i
  pub here : i.at ≡ at
  pub long : i.len ≡ length bytes

pub spelled_instruction : (bytes : List ℕ) (at : ℕ) (i : Instr) → Spells bytes at i → IsSpelled bytes at i
spelled_instruction bytes at i s =
    let operands = every_read HasProperOperands instruction bytes s.parts every_instruction s.read ((at + length bytes) % 4294967296) in
    let is : IsInstruction (finished at (length bytes) s.parts) = record { some = some_byte bytes s; short = s.short; operands = operands } in
    record { is = subst IsInstruction (sym s.is) is; here = ap (λ j. j.at) s.is; long = ap (λ j. j.len) s.is }
  where
    some_byte : (bytes : List ℕ) → Spells bytes at i → 1 ≤ length bytes
    some_byte [] s = absurd (not_empty at i s)
    some_byte (b ∷ bytes) s = omega arith
