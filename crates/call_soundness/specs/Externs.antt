-- What an extern's answer reads and writes, in the words of its accesses. The project's own.
use Rattle.std.specs.Prelude.{◌≡◌, ℕ, Bool, true, false, []}
use Rattle.image_map.specs.declared.image.Image.{Image}
use Rattle.image_map.specs.declared.region.Kind.{Kind}
use Rattle.image_map.specs.declared.region.Kind.TheVariants as kind
use Rattle.ia32_semantics.specs.Machine.{Occurrence}
use Rattle.ia32_semantics.specs.State.{AtByte}
use Rattle.ia32_semantics.specs.Step.{Act, Answers, Step, reads as step_reads, writes as step_writes}
use Rattle.alocs.specs.Cells.{Division}
use Rattle.abs_semantics.specs.States.{AbsState, HasCanonical}
use Rattle.abs_semantics.specs.Ownership.{IsKnown}
use Rattle.abs_steps.specs.Accesses.{extern_reads, extern_writes}
use Rattle.abs_steps.specs.Places.{Extern}
use Rattle.abs_steps.specs.Rows.{view_of}
use Rattle.abs_steps.specs.Warnings.{warnings}
use Rattle.step_soundness.specs.Accessed.{IsAccessed}

-- an extern that returns
abbrev pub returns_from : Kind → Bool
returns_from kind.Stop = false
returns_from kind.Unknown = false
returns_from _ = true

-- an extern that may read every byte
abbrev pub is_reader : Kind → Bool
is_reader (kind.Reader arguments) = true
is_reader _ = false

-- An extern of this kind answered at a node whose abstract state stands for the state before, and no warning stands there.
pub record IsAnswered (image : Image) (lane : ℕ) (a : AbsState) (p : ℕ) (d : Division) (at : ℕ) (k : Kind) (o : Occurrence Act) : Type 0 where
  pub known : IsKnown image lane a p o.before
  pub canonical : HasCanonical a
  pub act : o.act ≡ Answers at k
  pub step : Step image o
  pub quiet : warnings (Extern k) image (view_of a d p) ≡ []

-- Each byte that was read is accessed, unless the extern may read every byte, and so is each that was written.
pub record KeepsAnswer (lane : ℕ) (a : AbsState) (p : ℕ) (d : Division) (k : Kind) (o : Occurrence Act) : Type 0 where
  pub reads : (byte : ℕ) → is_reader k ≡ false → step_reads o (AtByte byte) ≡ true → IsAccessed lane o.before (extern_reads a k) byte
  pub writes : (byte : ℕ) → step_writes o (AtByte byte) ≡ true → IsAccessed lane o.before (extern_writes (view_of a d p) k) byte
