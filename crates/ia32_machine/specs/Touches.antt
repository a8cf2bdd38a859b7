-- The places that a step touches, told by sets of registers and flags and by spans of bytes. The project's own.
use Rattle.std.specs.Prelude.{◌≡◌, ℕ, ◌+◌, ◌-◌, ◌%◌, ◌^◌, Bool, true, false, ◌&&◌, ◌||◌, ◌==◌, slice_index, length, if◌then◌else◌, List, [], ◌∷◌, ◌++◌}
use Rattle.image_map.specs.declared.spans.Span.{Span}
use Rattle.image_map.specs.Ranges.{is_any}
use Rattle.ia32_types.specs.declared.Reg.{Reg}
use Rattle.ia32_types.specs.declared.Reg.TheVariants.{Eax, Ecx, Edx}
use Rattle.ia32_types.specs.declared.Flag.{Flag}
use Rattle.ia32_types.specs.declared.Instr.{Instr}
use Rattle.ia32_types.specs.declared.Width.{Width}
use Rattle.ia32_types.specs.declared.Width.TheVariants.{B8, W16, D32}
use Rattle.ia32_types.specs.Numbers.{reg_number, flag_number, is_same_reg, is_same_flag, size}
use Rattle.ia32_types.specs.Places.{registers_read, flags_read}
use Rattle.ia32_types.specs.Sets.{has_reg, has_flag, is_listed_reg, is_listed_flag}
use Rattle.ia32_semantics.specs.declared.flags.FlagOut.{FlagOut}
use Rattle.ia32_semantics.specs.declared.flags.FlagOut.TheVariants as out
use Rattle.ia32_semantics.specs.State.{Location, InRegister, InFlag, AtByte}
use Rattle.ia32_semantics.specs.Effects.{effects_write}
use Rattle.ia32_semantics.specs.Laws.{is_repeated}
use Rattle.ia32_semantics.specs.Strings.{stepped}
use Rattle.ia32_plan.specs.declared.state.Core.{Core}
use Rattle.ia32_plan.specs.declared.entries.Plan.{Plan}
use Rattle.ia32_plan.specs.Plans.{all_effects}
use Rattle.ia32_plan.specs.declared.entries.Entry.{Entry}
use Rattle.ia32_plan.specs.declared.entries.Entry.TheVariants as entry
use Rattle.ia32_plan.specs.declared.entries.Effects.{Effects}
use Rattle.ia32_plan.specs.declared.entries.Effects.TheVariants as effects
use Rattle.ia32_plan.specs.declared.words.Read.{Read}
use Rattle.ia32_plan.specs.declared.words.Reads.{Reads}
use Rattle.ia32_plan.specs.declared.words.Words.{Words}
use Rattle.ia32_plan.specs.Views.{words_left}
use Rattle.ia32_plan.specs.declared.words.Reads.TheVariants as reads
use Rattle.ia32_machine.specs.declared.touched.Touched.{Touched}
use Rattle.ia32_machine.specs.declared.touched.StepOut.{StepOut}

-- a set has the places of a test, and no others
pub record IsTouched (t : Touched) (is_there : Location → Bool) : Type 0 where
  pub registers : (r : Reg) → has_reg t.regs r ≡ is_there (InRegister (reg_number r))
  pub flags : (f : Flag) → has_flag t.flags f ≡ is_there (InFlag (flag_number f))
  pub bytes : (a : ℕ) → is_any t.bytes.items a ≡ is_there (AtByte a)

-- the register is one of those that two halves of a width go into
abbrev pub has_halves : Width → Reg → Bool
has_halves B8 r = is_same_reg r Eax
has_halves W16 r = is_same_reg r Eax || is_same_reg r Edx
has_halves D32 r = is_same_reg r Eax || is_same_reg r Edx

-- it is this flag, and it is set
abbrev pub is_set_flag : Flag → FlagOut → Flag → Bool
is_set_flag flag (out.Set value) f = is_same_flag f flag
is_set_flag flag other f = false

-- -- Spans

-- so many bytes from an address on
abbrev pub span_of : ℕ → ℕ → Span
span_of a count = record { start = a; end = (a + count) % 2 ^ 32 }

-- the bytes of n elements of z bytes, from the one at an address on, downwards or upwards
abbrev pub elements_span : Bool → ℕ → ℕ → ℕ → Span
elements_span true z n a = record { start = stepped true z (n - 1) a; end = if n == 0 then stepped true z (n - 1) a else (a + z) % 2 ^ 32 }
elements_span false z n a = record { start = a; end = if n == 0 then a else stepped false z n a }

abbrev pub read_span : Read → Span
read_span read = span_of read.at (size read.width)

-- the numbers that were read
abbrev pub number_spans : Reads → List Span
number_spans reads.Nothing = []
number_spans (reads.One a) = read_span a ∷ []
number_spans (reads.Two a b) = read_span a ∷ read_span b ∷ []

-- the elements that an entry copies, and the bytes that it writes
abbrev pub source_spans : Entry → List Span
source_spans (entry.Copied down width count from to) = elements_span down (size width) count from ∷ []
source_spans _ = []

abbrev pub target_spans : Entry → List Span
target_spans (entry.Store at width value) = span_of at (size width) ∷ []
target_spans (entry.Copied down width count from to) = elements_span down (size width) count to ∷ []
target_spans (entry.Filled down width value count to) = elements_span down (size width) count to ∷ []
target_spans _ = []

-- the same of all entries
abbrev pub of_entries : (Entry → List Span) → Effects → List Span
of_entries spans effects.Nothing = []
of_entries spans (effects.One a) = spans a
of_entries spans (effects.Two a b) = spans a ++ spans b

-- the bytes that a plan reads
abbrev pub read_spans : Reads → Effects → List Span
read_spans numbers done = number_spans numbers ++ of_entries source_spans done

-- -- What is told of a plan

-- an instruction that is repeated ECX times, where ECX is 0
abbrev pub is_idle : Core → Instr → Bool
is_idle core i = is_repeated i.op && slice_index core.regs 1 == 0

-- the places that a plan of an instruction reads and writes, with the words that were made for it, and where it goes
pub record IsToldOf (core : Core) (i : Instr) (words : Words) (plan : Plan) (out : StepOut) : Type 0 where
  pub read_registers : (r : Reg) → has_reg out.reads.regs r ≡ (if is_idle core i then is_same_reg r Ecx else is_listed_reg (registers_read i) r)
  pub read_flags : (f : Flag) → has_flag out.reads.flags f ≡ (if is_idle core i then false else is_listed_flag (flags_read i) f)
  pub read_bytes : out.reads.bytes.items ≡ read_spans words.reads plan.effects
  pub written_registers : (r : Reg) → has_reg out.writes.regs r ≡ effects_write (all_effects plan.effects) (InRegister (reg_number r))
  pub written_flags : (f : Flag) → has_flag out.writes.flags f ≡ effects_write (all_effects plan.effects) (InFlag (flag_number f))
  pub written_bytes : out.writes.bytes.items ≡ of_entries target_spans plan.effects
  pub next : out.next ≡ plan.place
  pub forgets : out.forgets ≡ plan.forgets
  pub used : out.used + length (words_left words) ≡ 8
