-- What a step of the machine leaves, in the words of an abstract step of the same instruction. The project's own.
use Rattle.std.specs.Prelude.{◌≡◌, ℕ, Bool, true, false, []}
use Rattle.image_map.specs.declared.image.Image.{Image}
use Rattle.ia32_types.specs.declared.Instr.{Instr}
use Rattle.ia32_types.specs.declared.Op.{Op}
use Rattle.ia32_types.specs.declared.Op.TheVariants as op
use Rattle.ia32_types.specs.Operands.{IsInstruction}
use Rattle.ia32_semantics.specs.CallModel.{IsWhole}
use Rattle.ia32_semantics.specs.Machine.{Occurrence}
use Rattle.ia32_semantics.specs.Rows.{next_place}
use Rattle.ia32_semantics.specs.State.{AtByte}
use Rattle.ia32_semantics.specs.Step.{Act, Executes, Step, reads as step_reads, writes as step_writes}
use Rattle.alocs.specs.Cells.{Division}
use Rattle.abs_semantics.specs.States.{AbsState, HasCanonical}
use Rattle.abs_semantics.specs.StandsFor.{StandsFor}
use Rattle.abs_semantics.specs.Ownership.{IsKnown}
use Rattle.abs_steps.specs.Accesses.{reads, writes}
use Rattle.abs_steps.specs.Places.{Instruction}
use Rattle.abs_steps.specs.Rows.{post, view_of}
use Rattle.abs_steps.specs.Warnings.{warnings}
use Rattle.step_soundness.specs.Accessed.{IsAccessed, AreFilled, always_written}

-- operations of moves, arithmetic, the stack and strings, after which the next instruction follows
unfoldable pub is_plain : Op → Bool
is_plain op.Call = false
is_plain op.Ret = false
is_plain op.Jmp = false
is_plain (op.Jcc c) = false
is_plain op.Hlt = false
is_plain op.Int3 = false
is_plain op.Ud2 = false
is_plain _ = true

-- An instruction was executed at a node of procedure p whose abstract state stands for the state before, and no warning stands there.
pub record IsExecuted (image : Image) (lane : ℕ) (a : AbsState) (p : ℕ) (d : Division) (i : Instr) (o : Occurrence Act) : Type 0 where
  pub known : IsKnown image lane a p o.before
  pub canonical : HasCanonical a
  pub spelt : IsInstruction i
  pub act : o.act ≡ Executes i
  pub step : Step image o
  pub quiet : warnings (Instruction i) image (view_of a d p) ≡ []

-- The next instruction follows in the same activation, all lies as it should, and the abstract state after the instruction stands for
-- the state.
pub record Advances (image : Image) (lane : ℕ) (a : AbsState) (p : ℕ) (d : Division) (i : Instr) (o : Occurrence Act) : Type 0 where
  pub whole : IsWhole image o.after
  pub same : o.after.activations ≡ o.before.activations
  pub eip : o.after.eip ≡ next_place i
  pub stands : StandsFor lane (post a i d image p) o.after

-- Each byte that was read or written is accessed, and what is written in any case was.
pub record KeepsToAccesses (lane : ℕ) (a : AbsState) (i : Instr) (o : Occurrence Act) : Type 0 where
  pub reads : (byte : ℕ) → step_reads o (AtByte byte) ≡ true → IsAccessed lane o.before (reads i.op a i) byte
  pub writes : (byte : ℕ) → step_writes o (AtByte byte) ≡ true → IsAccessed lane o.before (writes i.op a i) byte
  pub always : AreFilled lane o.before (λ byte. step_writes o (AtByte byte)) (always_written i.op a i)
