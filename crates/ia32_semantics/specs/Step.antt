-- A step of the machine that runs an image: an instruction that is fetched, or a call of an extern at its own address. The call
-- model is the project's own.
use Rattle.std.specs.Prelude.{◌≡◌, ℕ, ◌&&◌, ◌||◌, ◌==◌, Bool, true, false, List, [], ◌∷◌, Option, Some, None, slice_get, length, is_some}
use Rattle.image_map.specs.declared.image.Image.{Image}
use Rattle.image_map.specs.declared.region.Activation.{Activation}
use Rattle.image_map.specs.declared.region.Kind.{Kind}
use Rattle.image_map.specs.declared.region.Kind.TheVariants as kind
use Rattle.image_map.specs.declared.region.Settings.{Settings}
use Rattle.image_map.specs.Names.{extern_number}
use Rattle.ia32_types.specs.declared.Operand.{Operand}
use Rattle.ia32_types.specs.declared.Operand.TheVariants as operand
use Rattle.ia32_types.specs.declared.Op.{Op}
use Rattle.ia32_types.specs.declared.Op.TheVariants as op
use Rattle.ia32_types.specs.declared.Instr.{Instr}
use Rattle.ia32_semantics.specs.State.{State, Location}
use Rattle.ia32_semantics.specs.Machine.{Occurrence}
use Rattle.ia32_semantics.specs.Reading.{Reading, outcome, asks}
use Rattle.ia32_semantics.specs.Effects.{effects_write, effects_take, at_byte}
use Rattle.ia32_semantics.specs.Outcome.{Outcome, made, is_possible, LiesWell, is_forgotten, is_any, AgreesBut}
use Rattle.ia32_semantics.specs.Rows.{row, next_place}
use Rattle.ia32_semantics.specs.Externs.{extern_row}
use Rattle.ia32_semantics.specs.Fetch.{IsFetched}

-- The address to which the entry's return goes. Nothing stands there.
abbrev pub HALT : ℕ
HALT = 0xFFFF0000

-- What the machine does in one step: it executes an instruction, or an extern of this kind at this address answers.
pub data Act : Type 0 where
  Executes : Instr → Act
  Answers : ℕ → Kind → Act

-- the extern of this kind stands at an address
pub record IsExternAt (image : Image) (settings : Settings) (a : ℕ) (k : Kind) : Type 0 where
  pub number : ℕ
  pub stands : extern_number (length image.externs) a ≡ Some number
  pub kind : slice_get settings.kinds number ≡ Some k

-- the machine's act at an address
abbrev pub IsActAt : Image → Settings → ℕ → Act → Type 0
IsActAt image settings a (Executes i) = IsFetched image a i
IsActAt image settings a (Answers at k) = (at ≡ a) × IsExternAt image settings a k

abbrev pub act_row : Act → Reading Outcome
act_row (Executes i) = row i.op i
act_row (Answers at k) = extern_row at k

-- A step, which takes these words for all that may be any: undefined flags, words of GS, and what an extern gives and writes.
pub record Step (image : Image) (o : Occurrence Act) : Type 0 where
  pub done : Outcome
  pub row : outcome (act_row o.act) o.before o.choices ≡ Some (done, [])
  pub possible : is_possible image done o.before ≡ true
  pub given : LiesWell o.before done.given
  pub after : o.after ≡ record (made done o.before) { memory = o.after.memory }
  pub memory : AgreesBut (is_any done o.before) (made done o.before).memory o.after.memory

pub record Happens (image : Image) (settings : Settings) (o : Occurrence Act) : Type 0 where
  pub act : IsActAt image settings o.before.eip o.act
  pub step : Step image o

-- -- What completes a run

abbrev pub is_single : List Activation → Bool
is_single [] = false
is_single (oldest ∷ []) = true
is_single (newest ∷ before ∷ others) = false

-- from the last activation to HALT
abbrev pub returns_to_halt : Occurrence Act → Bool
returns_to_halt o = is_single o.before.activations && o.after.eip == HALT

abbrev pub operation_completes : Op → Occurrence Act → Bool
operation_completes op.Ret o = returns_to_halt o
operation_completes op.Hlt o = true
operation_completes _ o = false

abbrev pub kind_completes : Kind → Occurrence Act → Bool
kind_completes kind.Stop o = true
kind_completes _ o = returns_to_halt o

abbrev pub act_completes : Act → Occurrence Act → Bool
act_completes (Executes i) o = operation_completes i.op o
act_completes (Answers at k) o = kind_completes k o

abbrev pub completes : Occurrence Act → Bool
completes o = act_completes o.act o

-- -- Branches and calls

-- the target isn't a number of the instruction's own
abbrev pub is_indirect : Option Operand → Bool
is_indirect None = false
is_indirect (Some (operand.Imm target)) = false
is_indirect (Some other) = true

abbrev pub is_branch_operation : Op → Option Operand → Bool
is_branch_operation (op.Jcc c) target = true
is_branch_operation op.Jmp target = is_indirect target
is_branch_operation op.Call target = is_indirect target
is_branch_operation _ target = false

abbrev pub is_branch : Act → Bool
is_branch (Executes i) = is_branch_operation i.op i.dst
is_branch (Answers at k) = false

-- this is the place after the call at a site
pub record IsPlaceAfter (image : Image) (site place : ℕ) : Type 0 where
  pub call : Instr
  pub fetched : IsFetched image site call
  pub calls : call.op ≡ op.Call
  pub place_is : place ≡ next_place call

-- -- Locations

-- what an occurrence did, where it could
abbrev pub done_by : Occurrence Act → Option (Outcome × List ℕ)
done_by o = outcome (act_row o.act) o.before o.choices

-- a reader reads every mapped byte
abbrev pub reads_over : Outcome → State → Location → Bool
reads_over done s l = done.reads_all && at_byte (λ a. is_some (s.memory a)) l

abbrev pub outcome_takes : Option (Outcome × List ℕ) → State → Location → Bool
outcome_takes None s l = false
outcome_takes (Some result) s l = effects_take result.0.effects l || reads_over result.0 s l

abbrev pub outcome_writes : Option (Outcome × List ℕ) → Location → Bool
outcome_writes None l = false
outcome_writes (Some result) l = effects_write result.0.effects l

abbrev pub outcome_forgets : Option (Outcome × List ℕ) → State → Location → Bool
outcome_forgets None s l = false
outcome_forgets (Some result) s l = at_byte (is_forgotten result.0 s) l

abbrev pub reads : Occurrence Act → Location → Bool
reads o l = asks (act_row o.act) o.before o.choices l || outcome_takes (done_by o) o.before l

abbrev pub writes : Occurrence Act → Location → Bool
writes o l = outcome_writes (done_by o) l

abbrev pub forgets : Occurrence Act → Location → Bool
forgets o l = outcome_forgets (done_by o) o.before l
