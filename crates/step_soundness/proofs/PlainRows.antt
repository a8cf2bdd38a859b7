-- Each row of moves and arithmetic goes on as the abstract row tells.
use Rattle.std.proofs.Common.{◌≡◌, ℕ, true, false, refl}
use Rattle.std.proofs.lemmas.Bool.{false≢true}
use Rattle.image_map.specs.declared.image.Image.{Image}
use Rattle.ia32_types.specs.declared.Op.{Op}
use Rattle.ia32_types.specs.declared.Op.TheVariants as op
use Rattle.ia32_types.specs.declared.Instr.{Instr}
use Rattle.ia32_types.specs.Operands.{HasOperands}
use Rattle.ia32_semantics.specs.Alu.{alu_value, alu_flags}
use Rattle.ia32_semantics.specs.Product.{product_flags}
use Rattle.ia32_semantics.specs.Rows as rows
use Rattle.ia32_semantics.specs.Rows.{next_place}
use Rattle.ia32_semantics.specs.State.{State}
use Rattle.alocs.specs.Cells.{Division}
use Rattle.abs_alu.specs.Computed.{is_computed, computed, computed_flags}
use Rattle.abs_alu.specs.Operands.{takes_second}
use Rattle.abs_semantics.specs.States.{AbsState, HasCanonical}
use Rattle.abs_semantics.specs.Ownership.{IsKnown}
use Rattle.abs_steps.specs.Accesses as accesses
use Rattle.abs_steps.specs.Results.{aligned_or, keeps_flags}
use Rattle.abs_steps.specs.Rows as steps
use Rattle.abs_steps.specs.Rows.{view_of}
use Rattle.step_soundness.specs.Accessed.{IsAccessed, always_written}
use Rattle.step_soundness.specs.Steps.{is_plain}
use Rattle.step_soundness.proofs.CompareRows.{compared_goes, cmp_learns, test_learns}
use Rattle.step_soundness.proofs.EndLaws.{Goes}
use Rattle.step_soundness.proofs.GivenLaws.{Gives}
use Rattle.step_soundness.proofs.MoveRows.{copied_goes, addressed_goes, exchanged_goes, widened_goes, ax_goes, eax_goes, tested_goes, chosen_goes, idle_goes, steered_goes}
use Rattle.step_soundness.proofs.OperationLaws.{pair_goes, own_add, own_or, own_adc, own_sbb, own_and, own_sub, own_xor, altered_goes, shifted_goes}
use Rattle.step_soundness.proofs.ProductRows.{IsProductOf, multiplied_goes, imul_goes, divided_goes}
use Rattle.step_soundness.proofs.StackRows.{pushed_goes, popped_goes, left_goes}
use Rattle.step_soundness.proofs.StringRows.{moved_goes, filled_goes}
use Rattle.step_soundness.proofs.WriteLaws.{AreQuiet}

module _ (image : Image) (lane p : ℕ) (a : AbsState) (s : State) (d : Division) (known_ : IsKnown image lane a p s) (form : HasCanonical a) where
  of_mul : IsProductOf image lane p a s d known_ form op.Mul false
  unfolding is_computed takes_second computed computed_flags product_flags keeps_flags
  of_mul = record { is = refl; two = refl; value_is = λ width m n. refl; after = λ width m n drawn b now h. (h.0, tt, tt, tt, h.4); keeps = λ w v. refl }

  of_imul : IsProductOf image lane p a s d known_ form op.Imul true
  unfolding is_computed takes_second computed computed_flags product_flags keeps_flags
  of_imul = record { is = refl; two = refl; value_is = λ width m n. refl; after = λ width m n drawn b now h. (h.0, tt, tt, tt, h.4); keeps = λ w v. refl }

  pub plain_goes : (o : Op) → is_plain o ≡ true → (i : Instr) → HasOperands o i.width i.dst i.src i.imm → AreQuiet a p (accesses.writes o a i)
      → Gives s (IsAccessed lane s (accesses.reads o a i)) (Goes image lane p a s d (next_place i) (accesses.reads o a i) (accesses.writes o a i) (always_written o a i) (steps.row o (view_of a d p) i)) (rows.row o i)
  unfolding is_plain accesses.reads accesses.writes always_written steps.row rows.row is_computed takes_second computed computed_flags alu_value alu_flags keeps_flags aligned_or
  plain_goes op.Add plain i fits quiet = pair_goes image lane p a s d known_ form op.Add refl refl i (λ x y fx fy m n hm hn. own_add image lane p a s d known_ form _ i.width x y m n hm hn) i.dst i.src i.imm fits quiet
  plain_goes op.Or plain i fits quiet = pair_goes image lane p a s d known_ form op.Or refl refl i (λ x y fx fy m n hm hn. own_or image lane p a s d known_ form _ i.width x y m n hm hn) i.dst i.src i.imm fits quiet
  plain_goes op.Adc plain i fits quiet = pair_goes image lane p a s d known_ form op.Adc refl refl i (λ x y fx fy m n hm hn. own_adc image lane p a s d known_ form _ i.width x y m n hm hn) i.dst i.src i.imm fits quiet
  plain_goes op.Sbb plain i fits quiet = pair_goes image lane p a s d known_ form op.Sbb refl refl i (λ x y fx fy m n hm hn. own_sbb image lane p a s d known_ form _ i.width x y m n hm hn) i.dst i.src i.imm fits quiet
  plain_goes op.And plain i fits quiet = pair_goes image lane p a s d known_ form op.And refl refl i (λ x y fx fy m n hm hn. own_and image lane p a s d known_ form _ x y m n fx fy i.width hm hn) i.dst i.src i.imm fits quiet
  plain_goes op.Sub plain i fits quiet = pair_goes image lane p a s d known_ form op.Sub refl refl i (λ x y fx fy m n hm hn. own_sub image lane p a s d known_ form _ x y m n i.width hm hn) i.dst i.src i.imm fits quiet
  plain_goes op.Xor plain i fits quiet = pair_goes image lane p a s d known_ form op.Xor refl refl i (λ x y fx fy m n hm hn. own_xor image lane p a s d known_ form _ x y m n i.width hm hn) i.dst i.src i.imm fits quiet
  plain_goes op.Cmp plain i fits quiet =
      compared_goes image lane p a s d known_ form op.Cmp refl refl (λ width m n. refl) (λ w v. refl) (λ x y spelt m n width hm hn. cmp_learns image lane p a s d known_ form x y spelt m n width hm hn) i i.dst i.src i.imm fits
  plain_goes op.Mov plain i fits quiet = copied_goes image lane p a s d known_ form i i.dst i.src i.imm fits quiet
  plain_goes op.Lea plain i fits quiet = addressed_goes image lane p a s d known_ form i i.dst i.src i.imm fits.0 fits.1 quiet
  plain_goes op.Push plain i fits quiet = pushed_goes image lane p a s d known_ form i i.dst i.src i.imm fits.0 fits.1 quiet
  plain_goes op.Pop plain i fits quiet = popped_goes image lane p a s d known_ form i i.dst i.src i.imm fits.0 fits.1 quiet
  plain_goes op.Xchg plain i fits quiet = exchanged_goes image lane p a s d known_ form i i.dst i.src i.imm fits quiet
  plain_goes op.Test plain i fits quiet =
      compared_goes image lane p a s d known_ form op.Test refl refl (λ width m n. refl) (λ w v. refl) (λ x y spelt m n width hm hn. test_learns image lane p a s d known_ form x y spelt m n width hm hn) i i.dst i.src i.imm fits
  plain_goes op.Inc plain i fits quiet = altered_goes image lane p a s d known_ form op.Inc refl refl (λ width m. refl) (λ width m. refl) (λ width m e. absurd (false≢true e)) i i.dst i.src i.imm fits quiet
  plain_goes op.Dec plain i fits quiet = altered_goes image lane p a s d known_ form op.Dec refl refl (λ width m. refl) (λ width m. refl) (λ width m e. absurd (false≢true e)) i i.dst i.src i.imm fits quiet
  plain_goes op.Not plain i fits quiet = altered_goes image lane p a s d known_ form op.Not refl refl (λ width m. refl) (λ width m. refl) (λ width m e. refl) i i.dst i.src i.imm fits quiet
  plain_goes op.Neg plain i fits quiet = altered_goes image lane p a s d known_ form op.Neg refl refl (λ width m. refl) (λ width m. refl) (λ width m e. absurd (false≢true e)) i i.dst i.src i.imm fits quiet
  plain_goes op.Mul plain i fits quiet = multiplied_goes image lane p a s d known_ form op.Mul false of_mul i i.dst i.src i.imm fits
  plain_goes op.Imul plain i fits quiet = imul_goes image lane p a s d known_ form of_imul i i.dst i.src i.imm fits quiet
  plain_goes op.Shl plain i fits quiet = shifted_goes image lane p a s d known_ form op.Shl refl refl (λ w v. refl) refl (λ width m n. refl) (λ width m n. refl) (λ width x y v. refl) i i.dst i.src i.imm fits quiet
  plain_goes op.Shr plain i fits quiet = shifted_goes image lane p a s d known_ form op.Shr refl refl (λ w v. refl) refl (λ width m n. refl) (λ width m n. refl) (λ width x y v. refl) i i.dst i.src i.imm fits quiet
  plain_goes op.Sar plain i fits quiet = shifted_goes image lane p a s d known_ form op.Sar refl refl (λ w v. refl) refl (λ width m n. refl) (λ width m n. refl) (λ width x y v. refl) i i.dst i.src i.imm fits quiet
  plain_goes (op.Movzx from) plain i fits quiet = widened_goes image lane p a s d known_ form false from i i.dst i.src i.imm fits.0 fits.1 fits.2 quiet
  plain_goes (op.Movsx from) plain i fits quiet = widened_goes image lane p a s d known_ form true from i i.dst i.src i.imm fits.0 fits.1 fits.2 quiet
  plain_goes op.Cwde plain i fits quiet = ax_goes image lane p a s d known_ form i
  plain_goes op.Cdq plain i fits quiet = eax_goes image lane p a s d known_ form i
  plain_goes op.Leave plain i fits quiet = left_goes image lane p a s d known_ form i
  plain_goes (op.Setcc c) plain i fits quiet = tested_goes image lane p a s d known_ form c fits.0 i i.dst i.src i.imm fits.1 fits.2 quiet
  plain_goes op.Call plain i fits quiet = absurd (false≢true plain)
  plain_goes op.Ret plain i fits quiet = absurd (false≢true plain)
  plain_goes op.Jmp plain i fits quiet = absurd (false≢true plain)
  plain_goes (op.Jcc c) plain i fits quiet = absurd (false≢true plain)
  plain_goes op.Nop plain i fits quiet = idle_goes image lane p a s d known_ form i
  plain_goes op.Endbr32 plain i fits quiet = idle_goes image lane p a s d known_ form i
  plain_goes op.Hlt plain i fits quiet = absurd (false≢true plain)
  plain_goes op.Int3 plain i fits quiet = absurd (false≢true plain)
  plain_goes op.Ud2 plain i fits quiet = absurd (false≢true plain)
  plain_goes (op.Cmov c) plain i fits quiet = chosen_goes image lane p a s d known_ form c fits.0 i i.dst i.src i.imm fits.1 fits.2
  plain_goes op.Rol plain i fits quiet = shifted_goes image lane p a s d known_ form op.Rol refl refl (λ w v. refl) refl (λ width m n. refl) (λ width m n. refl) (λ width x y v. refl) i i.dst i.src i.imm fits quiet
  plain_goes op.Ror plain i fits quiet = shifted_goes image lane p a s d known_ form op.Ror refl refl (λ w v. refl) refl (λ width m n. refl) (λ width m n. refl) (λ width x y v. refl) i i.dst i.src i.imm fits quiet
  plain_goes op.Div plain i fits quiet = divided_goes image lane p a s d known_ form false i i.dst i.src i.imm fits
  plain_goes op.Idiv plain i fits quiet = divided_goes image lane p a s d known_ form true i i.dst i.src i.imm fits
  plain_goes (op.Movs rep) plain i fits quiet = moved_goes image lane p a s d known_ form rep i quiet
  plain_goes (op.Stos rep) plain i fits quiet = filled_goes image lane p a s d known_ form rep i quiet
  plain_goes op.Cld plain i fits quiet = steered_goes image lane p a s d known_ form i false
  plain_goes op.Std plain i fits quiet = steered_goes image lane p a s d known_ form i true
