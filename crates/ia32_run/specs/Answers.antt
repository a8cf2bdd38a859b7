-- How an extern answers: what it leaves in registers and flags by eight words, and that it returns. The project's own.
use Rattle.std.specs.Prelude.{◌≡◌, ℕ, ◌+◌, ◌-◌, ◌%◌, ◌^◌, ◌||◌, ◌&&◌, nat_lt, Bool, true, false, List, [], ◌∷◌, ◌++◌, slice_index, Some, None, is_some}
use Rattle.image_map.specs.declared.region.Kind.{Kind}
use Rattle.image_map.specs.declared.region.Kind.TheVariants as kind
use Rattle.image_map.specs.declared.spans.Span.{Span}
use Rattle.image_map.specs.Ranges.{is_any}
use Rattle.item_list.specs.Ranges.{within}
use Rattle.ia32_types.specs.declared.Reg.{Reg}
use Rattle.ia32_types.specs.declared.Reg.TheVariants.{Eax, Ecx, Edx, Esp}
use Rattle.ia32_types.specs.declared.Flag.{Flag}
use Rattle.ia32_types.specs.declared.Flag.TheVariants.{Cf, Pf, Zf, Sf, Of}
use Rattle.ia32_types.specs.Numbers.{is_same_reg, is_same_flag}
use Rattle.ia32_types.specs.Sets.{has_reg, has_flag}
use Rattle.ia32_semantics.specs.declared.flags.FlagOut.TheVariants as out
use Rattle.ia32_semantics.specs.State.{State}
use Rattle.ia32_semantics.specs.Reading.{Reading}
use Rattle.ia32_semantics.specs.Effects.{stores}
use Rattle.ia32_semantics.specs.Outcome.{Outcome}
use Rattle.ia32_semantics.specs.Operands.{is_set}
use Rattle.ia32_semantics.specs.Rows.{returning, risen}
use Rattle.ia32_semantics.specs.Externs.{Results, result_effects, answered, pure, reader}
use Rattle.ia32_memory.specs.Mapped.{bytes_of}
use Rattle.ia32_memory.specs.Changes.{with_zeros}
use Rattle.ia32_plan.specs.declared.state.Core.{Core}
use Rattle.ia32_machine.specs.declared.touched.StepOut.{StepOut}

-- EAX, ECX, EDX and the five flags by eight words
abbrev pub results_of : List ℕ → Results
results_of words =
    record {
      eax = slice_index words 0;
      ecx = slice_index words 1;
      edx = slice_index words 2;
      flags = record {
        cf = out.Set (is_set (slice_index words 3));
        pf = out.Set (is_set (slice_index words 4));
        zf = out.Set (is_set (slice_index words 5));
        sf = out.Set (is_set (slice_index words 6));
        of = out.Set (is_set (slice_index words 7));
      };
    }

-- all but the first of eight words
abbrev pub others_of : List ℕ → List ℕ
others_of words = slice_index words 1 ∷ slice_index words 2 ∷ slice_index words 3 ∷ slice_index words 4 ∷ slice_index words 5 ∷ slice_index words 6 ∷ slice_index words 7 ∷ []

-- -- What each kind does, once it has its words and arguments

-- an extern that reads so many arguments, or all of memory beside them
abbrev pub plain_kind : Bool → ℕ → Kind
plain_kind false n = kind.Pure n
plain_kind true n = kind.Reader n

abbrev pub plain_row : Bool → ℕ → Reading Outcome
plain_row false n = pure n
plain_row true n = reader n

abbrev pub plain_done : Bool → Results → ℕ → ℕ → Outcome
plain_done reads_all r sp place = record (answered r sp place) { reads_all = reads_all }

abbrev pub alloc_done : ℕ → Results → ℕ → ℕ → ℕ → Outcome
alloc_done at r sp place size = record (answered r sp place) { given = Some (record { extern_at = at; base = r.eax; size = size }) }

-- the state with one allocation more, and with its block where it has one
abbrev pub with_given : Bool → ℕ → ℕ → ℕ → ℕ → State → State
with_given true at site base size s = record s { allocs = s.allocs ++ (record { site = site; extern_at = at; base = base; size = size } ∷ []) }
with_given false at site base size s =
    record s {
      allocs = s.allocs ++ (record { site = site; extern_at = at; base = base; size = size } ∷ []);
      memory = with_zeros s.memory base size;
      blocks = s.blocks ++ (record { site = site; base = base; size = size } ∷ []);
    }

abbrev pub fill_done : Results → ℕ → ℕ → List ℕ → ℕ → Outcome
fill_done r sp to bytes place = returning (stores to bytes ∷ result_effects r) (risen sp 4) place

-- -- The places that an answer touches

-- An extern has answered and returned to a place: it read ESP, so many bytes from there on and maybe all of memory, and wrote
-- EAX, ECX, EDX, ESP, the five flags, and the bytes of a span.
pub record IsToldOf (core : Core) (bytes : ℕ) (reads_all : Bool) (written : Span) (place : ℕ) (out : StepOut) : Type 0 where
  pub read_registers : (r : Reg) → has_reg out.reads.regs r ≡ is_same_reg r Esp
  pub read_flags : (f : Flag) → has_flag out.reads.flags f ≡ false
  pub read_bytes : (a : ℕ) → is_any out.reads.bytes.items a ≡
      ((reads_all && (is_some (bytes_of core.memory a) && nat_lt a (2 ^ 32 - 1))) || within (slice_index core.regs 4) ((slice_index core.regs 4 + bytes) % 2 ^ 32) a)
  pub written_registers : (r : Reg) → has_reg out.writes.regs r ≡ (((is_same_reg r Eax || is_same_reg r Ecx) || is_same_reg r Edx) || is_same_reg r Esp)
  pub written_flags : (f : Flag) → has_flag out.writes.flags f ≡ ((((is_same_flag f Cf || is_same_flag f Pf) || is_same_flag f Zf) || is_same_flag f Sf) || is_same_flag f Of)
  pub written_bytes : (a : ℕ) → is_any out.writes.bytes.items a ≡ within written.start written.end a
  pub next : out.next ≡ place
  pub forgets : out.forgets ≡ Some (risen (slice_index core.regs 4) 4)
  pub used : out.used ≡ 8

-- nothing is read or written, and control goes to a place
pub record IsNothing (place : ℕ) (out : StepOut) : Type 0 where
  pub read_registers : (r : Reg) → has_reg out.reads.regs r ≡ false
  pub read_flags : (f : Flag) → has_flag out.reads.flags f ≡ false
  pub read_bytes : (a : ℕ) → is_any out.reads.bytes.items a ≡ false
  pub written_registers : (r : Reg) → has_reg out.writes.regs r ≡ false
  pub written_flags : (f : Flag) → has_flag out.writes.flags f ≡ false
  pub written_bytes : (a : ℕ) → is_any out.writes.bytes.items a ≡ false
  pub next : out.next ≡ place
  pub forgets : out.forgets ≡ None
  pub used : out.used ≡ 0
