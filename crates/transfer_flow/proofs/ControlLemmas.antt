-- What a ret takes is below 2^16, and a plain instruction goes on.
use Rattle.std.proofs.Common.{◌≡◌, ℕ, ◌<◌, false, Option, Some, None, refl, sym, subst, arith}
use Rattle.std.proofs.lemmas.Bool.{false≢true}
use Rattle.image_map.specs.declared.image.Image.{Image}
use Rattle.image_map.specs.declared.region.Settings.{Settings}
use Rattle.ia32_types.specs.declared.Operand.{Operand}
use Rattle.ia32_types.specs.declared.Operand.TheVariants as operand
use Rattle.ia32_types.specs.declared.Op.{Op}
use Rattle.ia32_types.specs.declared.Op.TheVariants as op
use Rattle.ia32_types.specs.declared.Instr.{Instr}
use Rattle.ia32_types.specs.Operands.{IsBelow, IsReturn, HasOperands, IsInstruction}
use Rattle.call_strings.specs.declared.context.Node.{Node}
use Rattle.abs_semantics.specs.States.{AbsState}
use Rattle.abs_steps.specs.Successors.{States, extra_of, next_to, instruction_successors}
use Rattle.transfer_flow.specs.Successors.{is_control}

below : (a : Operand) → IsBelow 65536 a → extra_of (Some a) < 65536
below (operand.Reg r) h = absurd h
below (operand.High r) h = absurd h
below (operand.Imm n) h = h
below (operand.Mem m) h = absurd h

return_takes : (dst src : Option Operand) (imm : Option ℕ) → IsReturn dst src imm → extra_of dst < 65536
return_takes None None None h = omega arith
return_takes None None (Some n) h = absurd h
return_takes None (Some b) imm h = absurd h
return_takes (Some a) None None h = below a h
return_takes (Some a) None (Some n) h = absurd h
return_takes (Some a) (Some b) imm h = absurd h

pub ret_takes : (i : Instr) → i.op ≡ op.Ret → IsInstruction i → extra_of i.dst < 65536
ret_takes i is h = return_takes i.dst i.src i.imm ((subst (λ (o : Op). HasOperands o i.width i.dst i.src i.imm) is h.operands).1)

module _ (image : Image) (settings : Settings) (s : States) (n : Node) where
  pub plain_goes_on : (o : Op) (i : Instr) (a : AbsState) → is_control o ≡ false → next_to image s n i a ≡ instruction_successors o image settings s n i a
  unfolding instruction_successors
  plain_goes_on op.Add i a plain = refl
  plain_goes_on op.Or i a plain = refl
  plain_goes_on op.Adc i a plain = refl
  plain_goes_on op.Sbb i a plain = refl
  plain_goes_on op.And i a plain = refl
  plain_goes_on op.Sub i a plain = refl
  plain_goes_on op.Xor i a plain = refl
  plain_goes_on op.Cmp i a plain = refl
  plain_goes_on op.Mov i a plain = refl
  plain_goes_on op.Lea i a plain = refl
  plain_goes_on op.Push i a plain = refl
  plain_goes_on op.Pop i a plain = refl
  plain_goes_on op.Xchg i a plain = refl
  plain_goes_on op.Test i a plain = refl
  plain_goes_on op.Inc i a plain = refl
  plain_goes_on op.Dec i a plain = refl
  plain_goes_on op.Not i a plain = refl
  plain_goes_on op.Neg i a plain = refl
  plain_goes_on op.Mul i a plain = refl
  plain_goes_on op.Imul i a plain = refl
  plain_goes_on op.Shl i a plain = refl
  plain_goes_on op.Shr i a plain = refl
  plain_goes_on op.Sar i a plain = refl
  plain_goes_on (op.Movzx from) i a plain = refl
  plain_goes_on (op.Movsx from) i a plain = refl
  plain_goes_on op.Cwde i a plain = refl
  plain_goes_on op.Cdq i a plain = refl
  plain_goes_on op.Leave i a plain = refl
  plain_goes_on (op.Setcc c) i a plain = refl
  plain_goes_on op.Call i a plain = absurd (false≢true (sym plain))
  plain_goes_on op.Ret i a plain = absurd (false≢true (sym plain))
  plain_goes_on op.Jmp i a plain = absurd (false≢true (sym plain))
  plain_goes_on (op.Jcc c) i a plain = absurd (false≢true (sym plain))
  plain_goes_on op.Nop i a plain = refl
  plain_goes_on op.Endbr32 i a plain = refl
  plain_goes_on op.Hlt i a plain = absurd (false≢true (sym plain))
  plain_goes_on op.Int3 i a plain = absurd (false≢true (sym plain))
  plain_goes_on op.Ud2 i a plain = absurd (false≢true (sym plain))
  plain_goes_on (op.Cmov c) i a plain = refl
  plain_goes_on op.Rol i a plain = refl
  plain_goes_on op.Ror i a plain = refl
  plain_goes_on op.Div i a plain = refl
  plain_goes_on op.Idiv i a plain = refl
  plain_goes_on (op.Movs rep) i a plain = refl
  plain_goes_on (op.Stos rep) i a plain = refl
  plain_goes_on op.Cld i a plain = refl
  plain_goes_on op.Std i a plain = refl
