-- What a step of an instruction leaves, from its row.
use Rattle.std.proofs.Common.{◌≡◌, ℕ, true, false, refl}
use Rattle.std.proofs.lemmas.Bool.{false≢true}
use Rattle.image_map.specs.declared.image.Image.{Image}
use Rattle.ia32_types.specs.declared.Op.{Op}
use Rattle.ia32_types.specs.declared.Op.TheVariants as op
use Rattle.ia32_types.specs.declared.Instr.{Instr}
use Rattle.ia32_semantics.specs.Machine.{Occurrence}
use Rattle.ia32_semantics.specs.Rows as rows
use Rattle.ia32_semantics.specs.Rows.{next_place}
use Rattle.ia32_semantics.specs.State.{AtByte}
use Rattle.ia32_semantics.specs.Step.{Act, forgets}
use Rattle.alocs.specs.Cells.{Division}
use Rattle.abs_semantics.specs.States.{AbsState}
use Rattle.abs_steps.specs.Accesses as accesses
use Rattle.abs_steps.specs.Rows as steps
use Rattle.abs_steps.specs.Rows.{view_of, post}
use Rattle.abs_steps.specs.Successors.{is_call}
use Rattle.step_soundness.specs.Accessed.{IsAccessed, always_written}
use Rattle.step_soundness.specs.Steps.{is_plain, IsExecuted, Advances, KeepsToAccesses}
use Rattle.step_soundness.proofs.AdvanceLaws.{row_whole, row_same, row_eip, row_stands, row_reads, row_writes, row_fills, row_forgets}
use Rattle.step_soundness.proofs.EndLaws.{Goes}
use Rattle.step_soundness.proofs.GivenLaws.{Gives}
use Rattle.step_soundness.proofs.PlainRows.{plain_goes}
use Rattle.step_soundness.proofs.QuietLaws.{instruction_quiet}

-- a plain operation is no call
pub no_call : (o : Op) → is_plain o ≡ true → is_call o ≡ false
unfolding is_plain
no_call op.Call e = absurd (false≢true e)
no_call _ e = refl

module _ (image : Image) (lane : ℕ) (a : AbsState) (p : ℕ) (d : Division) (i : Instr) (o : Occurrence Act) (h : IsExecuted image lane a p d i o) (plain : is_plain i.op ≡ true) where
  abbrev Plain : Type 0
  Plain =
      Gives o.before (IsAccessed lane o.before (accesses.reads i.op a i)) (Goes image lane p a o.before d (next_place i) (accesses.reads i.op a i) (accesses.writes i.op a i) (always_written i.op a i) (steps.row i.op (view_of a d p) i)) (rows.row i.op i)

  plain_row : Plain
  plain_row = plain_goes image lane p a o.before d h.known h.canonical i.op plain i h.spelt.operands (instruction_quiet a d p image i h.quiet (no_call i.op plain))

  pub plain_advances : Advances image lane a p d i o
  unfolding post
  plain_advances =
      record {
        whole = row_whole image lane p a d i o h.known.whole h.act h.step _ _ _ _ plain_row;
        same = row_same image lane p a d i o h.known.whole h.act h.step _ _ _ _ plain_row;
        eip = row_eip image lane p a d i o h.known.whole h.act h.step _ _ _ _ plain_row;
        stands = row_stands image lane p a d i o h.known.whole h.act h.step _ _ _ _ plain_row;
      }

  pub plain_keeps : KeepsToAccesses lane a i o
  plain_keeps =
      record {
        reads = row_reads image lane p a d i o h.known.whole h.act h.step _ _ _ _ plain_row;
        writes = row_writes image lane p a d i o h.known.whole h.act h.step _ _ _ _ plain_row;
        always = row_fills image lane p a d i o h.known.whole h.act h.step _ _ _ _ plain_row;
      }

  pub plain_forgets : (byte : ℕ) → forgets o (AtByte byte) ≡ false
  plain_forgets = row_forgets image lane p a d i o h.known.whole h.act h.step _ _ _ _ plain_row
