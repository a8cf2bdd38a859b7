-- What bytes spell an instruction (SDM volume 2, chapter 2).

use Rattle.std.specs.Prelude.{◌≡◌, ℕ, zero, suc, ◌+◌, ◌≤◌, ◌==◌, Bool, true, false, ◌&&◌, ◌||◌, List, ◌++◌, length, if◌then◌else◌, Option, Some, None}
use Rattle.ia32_types.specs.declared.Instr.{Instr}
use Rattle.ia32_types.specs.declared.Mem.{Mem}
use Rattle.ia32_types.specs.declared.Op.TheVariants as op
use Rattle.ia32_types.specs.declared.forms.Size.TheVariants as size
use Rattle.ia32_types.specs.declared.forms.Form.{Form}
use Rattle.ia32_types.specs.declared.forms.Count.TheVariants as count
use Rattle.ia32_types.specs.declared.forms.Group.{Group}
use Rattle.ia32_types.specs.declared.forms.Group.TheVariants as group
use Rattle.ia32_types.specs.declared.forms.Row.{Row}
use Rattle.ia32_types.specs.declared.forms.Row.TheVariants.{Missing, One, Grouped}
use Rattle.ia32_types.specs.declared.forms.Prefixes.{Prefixes}
use Rattle.ia32_types.specs.declared.forms.Segment.{Segment}
use Rattle.ia32_types.specs.declared.forms.Segment.TheVariants as segment
use Rattle.ia32_types.specs.declared.forms.Repeat.{Repeat}
use Rattle.ia32_types.specs.declared.forms.Repeat.TheVariants as repeat
use Rattle.ia32_types.specs.declared.forms.Parts.{Parts}
use Rattle.ia32_types.specs.Readers.{Reader, done, bad, more, Accepts, then_, number}
use Rattle.ia32_types.specs.Forms.{plain, width_of, form_bytes, has_modrm, mod_field, reg_field, is_gs, is_dword, is_memory, is_offset, stores, finished}
use Rattle.ia32_types.specs.Rows.{row_of, row_0f, group_form, string_form}
use Rattle.ia32_types.specs.Memory.{memory}
use Rattle.ia32_types.specs.Prefixes.{no_prefixes, is_prefix, next_prefixes, bytes_after}

-- the bytes at the end of a form
abbrev pub end_bytes : Prefixes → Form → ℕ
end_bytes p f = form_bytes (width_of f.size p.operand16) f

-- the number at the end, after all else
abbrev pub ending : Prefixes → Form → ℕ → Option Mem → Reader Parts
ending p f modrm memory = then_ 0 (number (end_bytes p f)) (λ n. done (record {
  form = f;
  prefixes = p;
  modrm = modrm;
  memory = memory;
  number = n;
}))

-- whether memory may not be written: after 65 and 2E
abbrev pub is_read_only : Segment → Bool
is_read_only segment.None = false
is_read_only segment.Cs = true
is_read_only segment.Ds = false
is_read_only segment.Gs = true

-- whether the memory that ModRM names may not be the form's operand
abbrev pub refuses_memory : Prefixes → Form → Bool
refuses_memory p f = stores f && is_read_only p.segment

-- memory, and the number at the end
abbrev pub in_memory : Prefixes → Form → ℕ → Reader Parts
in_memory p f modrm = then_ (end_bytes p f) (memory (is_gs p.segment) modrm) (λ m. ending p f modrm (Some m))

-- what follows ModRM: where its mod field is 3, the operand is a register
unfoldable pub addressed : Prefixes → Form → ℕ → Reader Parts
addressed p f modrm =
    (if mod_field modrm == 3 then (if is_memory f.second then bad else ending p f modrm None)
    else (if refuses_memory p f then bad else in_memory p f modrm))

-- whether the prefixes don't go with a form: 66 where there are 32 bits alone, 65 and 2E where memory at an
-- address is written
abbrev pub is_refused : Prefixes → Form → Bool
is_refused p f = p.operand16 && is_dword f.size || is_offset f.first && is_read_only p.segment

-- what follows an opcode of this form
unfoldable pub formed : Prefixes → Form → Reader Parts
formed p f =
    (if is_refused p f then bad
    else (if has_modrm f then more (1 + end_bytes p f) (λ modrm. addressed p f modrm)
    else ending p f 0 None))

-- what follows ModRM of a group
abbrev pub grouped_form : Prefixes → ℕ → Option Form → Reader Parts
grouped_form p modrm None = bad
grouped_form p modrm (Some f) = (if is_refused p f then bad else addressed p f modrm)

-- whether the prefixes go with no form of a group
abbrev pub is_group_refused : Prefixes → Group → Bool
is_group_refused p group.Pop = p.operand16
is_group_refused p _ = false

-- the fewest bytes at the end of a group's forms
abbrev pub group_bytes : Prefixes → Group → ℕ
group_bytes p group.Arith8 = 1
group_bytes p group.Arith = (if p.operand16 then 2 else 4)
group_bytes p group.ArithSigned = 1
group_bytes p (group.Shift8 count.Imm8) = 1
group_bytes p (group.Shift8 count.One) = 0
group_bytes p (group.Shift8 count.Cl) = 0
group_bytes p (group.Shift count.Imm8) = 1
group_bytes p (group.Shift count.One) = 0
group_bytes p (group.Shift count.Cl) = 0
group_bytes p group.Mov8 = 1
group_bytes p group.Mov = (if p.operand16 then 2 else 4)
group_bytes p group.Pop = 0
group_bytes p group.Nop = 0
group_bytes p group.Unary8 = 0
group_bytes p group.Unary = 0
group_bytes p group.Step8 = 0
group_bytes p group.Step = 0

-- what follows an opcode of a group: ModRM, whose reg field tells the form
unfoldable pub grouped : Prefixes → Group → Reader Parts
grouped p g = (if is_group_refused p g then bad else more (1 + group_bytes p g) (λ modrm. grouped_form p modrm (group_form g (reg_field modrm))))

-- what follows an opcode
abbrev pub rowed : Prefixes → Row → Reader Parts
rowed p Missing = bad
rowed p (One f) = formed p f
rowed p (Grouped g) = grouped p g

-- a string instruction, which GS doesn't go with
abbrev pub string : Prefixes → Form → Reader Parts
string p f = (if is_gs p.segment then bad else ending p f 0 None)

-- an opcode of one byte without F3: a string instruction, or what the opcode map has
unfoldable pub simple : Prefixes → ℕ → Option Form → Reader Parts
simple p opcode None = rowed p (row_of opcode)
simple p opcode (Some f) = string p f

abbrev pub repeated : Prefixes → Option Form → Reader Parts
repeated p None = bad
repeated p (Some f) = string p f

-- 1E FB
abbrev pub endbr32 : Prefixes → Reader Parts
endbr32 p = more 2 (λ b. (if b == 0x1E then more 1 (λ c. (if c == 0xFB then ending p (plain op.Endbr32 size.Any) 0 None else bad)) else bad))

-- 0F and one more byte
abbrev pub two_bytes : Prefixes → Reader Parts
two_bytes p = more 1 (λ b. rowed p (row_0f b))

-- an opcode: after F3 itself ret, endbr32 and the string instructions, after F3 and other prefixes only these
unfoldable pub opened : Prefixes → Repeat → ℕ → Reader Parts
opened p repeat.Absent b = (if b == 0x0F then two_bytes p else simple p b (string_form false b))
opened p repeat.Last b =
    (if b == 0xC3 then formed p (plain op.Ret size.Dword)
    else (if b == 0x0F then endbr32 p
    else repeated p (string_form true b)))
opened p repeat.Earlier b = repeated p (string_form true b)

-- at most n bytes of prefixes, and the rest
unfoldable pub prefixed : ℕ → Prefixes → Reader Parts
prefixed zero p = bad
prefixed (suc n) p = more (bytes_after p p.repeat) (λ b. (
    if is_prefix b then elim (next_prefixes p b) [
      | None ↦ bad
      | Some q ↦ prefixed n q
    ]
    else opened p p.repeat b))

-- an instruction, of 15 bytes at most
unfoldable pub instruction : Reader Parts
instruction = prefixed 15 no_prefixes

-- the bytes, of which there are 15 at most, are those of this instruction at this address
pub record Spells (bytes : List ℕ) (at : ℕ) (i : Instr) : Type 0 where
  pub parts : Parts
  pub read : Accepts instruction bytes parts
  pub short : length bytes ≤ 15
  pub is : i ≡ finished at (length bytes) parts

-- some first bytes spell the instruction
pub record Begins (bytes : List ℕ) (at : ℕ) (i : Instr) : Type 0 where
  pub used : List ℕ
  pub rest : List ℕ
  pub split : bytes ≡ used ++ rest
  pub spells : Spells used at i
