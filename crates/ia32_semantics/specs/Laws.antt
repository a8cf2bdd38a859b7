-- What holds of every run of the machine: that its starts are whole, that the locations that an occurrence reads, writes and
-- forgets are the right ones, and what each step keeps.
use Rattle.std.specs.Prelude.{◌≡◌, ℕ, ◌<◌, ◌≤◌, ◌==◌, ◌&&◌, not, Bool, true, false, List, slice_get, Option, Some, is_some}
use Rattle.std.specs.List.{list_any}
use Rattle.image_map.specs.declared.image.Image.{Image}
use Rattle.image_map.specs.declared.region.Settings.{Settings}
use Rattle.ia32_types.specs.declared.Reg.{Reg}
use Rattle.ia32_types.specs.declared.Flag.{Flag}
use Rattle.ia32_types.specs.declared.Operand.{Operand}
use Rattle.ia32_types.specs.declared.Operand.TheVariants as operand
use Rattle.ia32_types.specs.declared.Op.{Op}
use Rattle.ia32_types.specs.declared.Op.TheVariants as op
use Rattle.ia32_types.specs.declared.Instr.{Instr}
use Rattle.ia32_types.specs.Numbers.{reg_number, flag_number}
use Rattle.ia32_types.specs.Places.{registers_read, registers_written, flags_read, flags_written}
use Rattle.ia32_semantics.specs.State.{State, Location, InRegister, InFlag, AtByte, SameAt, IsSized}
use Rattle.ia32_semantics.specs.Machine.{Machine, Occurrence}
use Rattle.ia32_semantics.specs.Runs.{OccurrenceOf}
use Rattle.ia32_semantics.specs.Dependence.{Reads, Writes, Forgets, DataDependence}
use Rattle.ia32_semantics.specs.Step.{Act, Executes, Step, reads, writes, forgets}
use Rattle.ia32_semantics.specs.CallModel.{IsStart, IsLaidOut, IsWhole}

-- each start is whole
abbrev pub StartsAreWhole : Type 0
StartsAreWhole = (image : Image) (settings : Settings) (s : State) → IsStart image settings s → IsWhole image s

-- a byte that is mapped, or any other location
abbrev pub IsThere : State → Location → Type 0
IsThere s (InRegister n) = Unit {0}
IsThere s (InFlag n) = Unit {0}
IsThere s (AtByte a) = is_some (s.memory a) ≡ true

-- a step changes only what it writes or forgets, of all that was there before
abbrev pub ChangesOnlyWrites : Type 0
ChangesOnlyWrites =
    (image : Image) (o : Occurrence Act) → Step image o
    → (l : Location) → IsThere o.before l → writes o l ≡ false → forgets o l ≡ false → SameAt l o.before o.after

-- Two steps of one act with the same words of choice, before which all that the first reads is the same, go on to the same
-- place, write the same locations, and leave the same in each that neither forgets.
abbrev pub WritesFollowReads : Type 0
WritesFollowReads =
    (image : Image) (o p : Occurrence Act) → Step image o → Step image p
    → o.act ≡ p.act → o.choices ≡ p.choices → ((l : Location) → reads o l ≡ true → SameAt l o.before p.before)
    → (o.after.eip ≡ p.after.eip)
    × ((l : Location) → writes o l ≡ writes p l)
    × ((l : Location) → writes o l ≡ true → forgets o l ≡ false → forgets p l ≡ false → SameAt l o.after p.after)

abbrev pub StepsStaySized : Type 0
StepsStaySized = (image : Image) (o : Occurrence Act) → Step image o → IsSized o.before → IsSized o.after

-- a step leaves segments, stack and blocks as they should lie
abbrev pub StepsStayLaidOut : Type 0
StepsStayLaidOut = (image : Image) (o : Occurrence Act) → Step image o → IsLaidOut image o.before → IsLaidOut image o.after

-- What is read, was written before in the run, and hasn't been forgotten since, is a dependence: that of a last writer.
abbrev pub DependsOnLastWriters : Machine → Type 0
DependsOnLastWriters m =
    (skip_sp : Bool) (run : List (OccurrenceOf m)) (l : Location) (j i : ℕ) (reader writer : OccurrenceOf m)
    → i < j → slice_get run j ≡ Some reader → slice_get run i ≡ Some writer
    → Reads m skip_sp reader l → Writes m skip_sp writer l
    → ((k : ℕ) (o : OccurrenceOf m) → i ≤ k → k < j → slice_get run k ≡ Some o → ¬ Forgets m o l)
    → (k : ℕ) × (i ≤ k) × DataDependence m skip_sp run l j k

-- -- The tables of registers and flags

abbrev pub has_register : List Reg → ℕ → Bool
has_register regs n = list_any (λ r. reg_number r == n) regs

abbrev pub has_flag : List Flag → ℕ → Bool
has_flag flags n = list_any (λ f. flag_number f == n) flags

-- an operation that does nothing where ECX is 0
abbrev pub is_repeated : Op → Bool
is_repeated (op.Movs rep) = rep
is_repeated (op.Stos rep) = rep
is_repeated _ = false

abbrev pub is_shift : Op → Bool
is_shift op.Shl = true
is_shift op.Shr = true
is_shift op.Sar = true
is_shift op.Rol = true
is_shift op.Ror = true
is_shift _ = false

abbrev pub is_number : Option Operand → Bool
is_number (Some (operand.Imm n)) = true
is_number _ = false

-- a shift whose count is no number of its own, and may be 0
abbrev pub may_keep_flags : Instr → Bool
may_keep_flags i = is_shift i.op && not (is_number i.src)

-- What a step of an instruction reads and writes of registers and flags is in its tables. What the tables say is written is
-- written, unless it is repeated no times, or shifted by 0.
pub record KeepsToTables (i : Instr) (o : Occurrence Act) : Type 0 where
  pub reads_registers : (n : ℕ) → reads o (InRegister n) ≡ true → has_register (registers_read i) n ≡ true
  pub reads_flags : (n : ℕ) → reads o (InFlag n) ≡ true → has_flag (flags_read i) n ≡ true
  pub writes_registers : (n : ℕ) → writes o (InRegister n) ≡ true → has_register (registers_written i) n ≡ true
  pub writes_flags : (n : ℕ) → writes o (InFlag n) ≡ true → has_flag (flags_written i) n ≡ true
  pub always_registers : is_repeated i.op ≡ false → (n : ℕ) → has_register (registers_written i) n ≡ true → writes o (InRegister n) ≡ true
  pub always_flags : may_keep_flags i ≡ false → (n : ℕ) → has_flag (flags_written i) n ≡ true → writes o (InFlag n) ≡ true

abbrev pub StepsKeepToTables : Type 0
StepsKeepToTables = (image : Image) (i : Instr) (o : Occurrence Act) → o.act ≡ Executes i → Step image o → KeepsToTables i o
