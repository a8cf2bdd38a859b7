-- The operations that are computed, one by one.

use Rattle.std.proofs.Common.{◌≡◌, true}
use Rattle.ia32_types.specs.declared.Op.{Op}
use Rattle.ia32_types.specs.declared.Op.TheVariants as op
use Rattle.abs_alu.specs.Computed.{is_computed}

-- what holds of each
pub each_op : (P : Op → Type 0) → P op.Add → P op.Or → P op.Adc → P op.Sbb → P op.And → P op.Sub → P op.Xor → P op.Cmp → P op.Test → P op.Inc → P op.Dec → P op.Not → P op.Neg → P op.Mul → P op.Imul → P op.Shl → P op.Shr → P op.Sar → P op.Rol → P op.Ror → (o : Op) → is_computed o ≡ true → P o
unfolding is_computed
each_op P add_ or_ adc_ sbb_ and_ sub_ xor_ cmp_ test_ inc_ dec_ not_ neg_ mul_ imul_ shl_ shr_ sar_ rol_ ror_ op.Add is = add_
each_op P add_ or_ adc_ sbb_ and_ sub_ xor_ cmp_ test_ inc_ dec_ not_ neg_ mul_ imul_ shl_ shr_ sar_ rol_ ror_ op.Or is = or_
each_op P add_ or_ adc_ sbb_ and_ sub_ xor_ cmp_ test_ inc_ dec_ not_ neg_ mul_ imul_ shl_ shr_ sar_ rol_ ror_ op.Adc is = adc_
each_op P add_ or_ adc_ sbb_ and_ sub_ xor_ cmp_ test_ inc_ dec_ not_ neg_ mul_ imul_ shl_ shr_ sar_ rol_ ror_ op.Sbb is = sbb_
each_op P add_ or_ adc_ sbb_ and_ sub_ xor_ cmp_ test_ inc_ dec_ not_ neg_ mul_ imul_ shl_ shr_ sar_ rol_ ror_ op.And is = and_
each_op P add_ or_ adc_ sbb_ and_ sub_ xor_ cmp_ test_ inc_ dec_ not_ neg_ mul_ imul_ shl_ shr_ sar_ rol_ ror_ op.Sub is = sub_
each_op P add_ or_ adc_ sbb_ and_ sub_ xor_ cmp_ test_ inc_ dec_ not_ neg_ mul_ imul_ shl_ shr_ sar_ rol_ ror_ op.Xor is = xor_
each_op P add_ or_ adc_ sbb_ and_ sub_ xor_ cmp_ test_ inc_ dec_ not_ neg_ mul_ imul_ shl_ shr_ sar_ rol_ ror_ op.Cmp is = cmp_
each_op P add_ or_ adc_ sbb_ and_ sub_ xor_ cmp_ test_ inc_ dec_ not_ neg_ mul_ imul_ shl_ shr_ sar_ rol_ ror_ op.Test is = test_
each_op P add_ or_ adc_ sbb_ and_ sub_ xor_ cmp_ test_ inc_ dec_ not_ neg_ mul_ imul_ shl_ shr_ sar_ rol_ ror_ op.Inc is = inc_
each_op P add_ or_ adc_ sbb_ and_ sub_ xor_ cmp_ test_ inc_ dec_ not_ neg_ mul_ imul_ shl_ shr_ sar_ rol_ ror_ op.Dec is = dec_
each_op P add_ or_ adc_ sbb_ and_ sub_ xor_ cmp_ test_ inc_ dec_ not_ neg_ mul_ imul_ shl_ shr_ sar_ rol_ ror_ op.Not is = not_
each_op P add_ or_ adc_ sbb_ and_ sub_ xor_ cmp_ test_ inc_ dec_ not_ neg_ mul_ imul_ shl_ shr_ sar_ rol_ ror_ op.Neg is = neg_
each_op P add_ or_ adc_ sbb_ and_ sub_ xor_ cmp_ test_ inc_ dec_ not_ neg_ mul_ imul_ shl_ shr_ sar_ rol_ ror_ op.Mul is = mul_
each_op P add_ or_ adc_ sbb_ and_ sub_ xor_ cmp_ test_ inc_ dec_ not_ neg_ mul_ imul_ shl_ shr_ sar_ rol_ ror_ op.Imul is = imul_
each_op P add_ or_ adc_ sbb_ and_ sub_ xor_ cmp_ test_ inc_ dec_ not_ neg_ mul_ imul_ shl_ shr_ sar_ rol_ ror_ op.Shl is = shl_
each_op P add_ or_ adc_ sbb_ and_ sub_ xor_ cmp_ test_ inc_ dec_ not_ neg_ mul_ imul_ shl_ shr_ sar_ rol_ ror_ op.Shr is = shr_
each_op P add_ or_ adc_ sbb_ and_ sub_ xor_ cmp_ test_ inc_ dec_ not_ neg_ mul_ imul_ shl_ shr_ sar_ rol_ ror_ op.Sar is = sar_
each_op P add_ or_ adc_ sbb_ and_ sub_ xor_ cmp_ test_ inc_ dec_ not_ neg_ mul_ imul_ shl_ shr_ sar_ rol_ ror_ op.Rol is = rol_
each_op P add_ or_ adc_ sbb_ and_ sub_ xor_ cmp_ test_ inc_ dec_ not_ neg_ mul_ imul_ shl_ shr_ sar_ rol_ ror_ op.Ror is = ror_
each_op P add_ or_ adc_ sbb_ and_ sub_ xor_ cmp_ test_ inc_ dec_ not_ neg_ mul_ imul_ shl_ shr_ sar_ rol_ ror_ op.Mov is = cc
each_op P add_ or_ adc_ sbb_ and_ sub_ xor_ cmp_ test_ inc_ dec_ not_ neg_ mul_ imul_ shl_ shr_ sar_ rol_ ror_ op.Lea is = cc
each_op P add_ or_ adc_ sbb_ and_ sub_ xor_ cmp_ test_ inc_ dec_ not_ neg_ mul_ imul_ shl_ shr_ sar_ rol_ ror_ op.Push is = cc
each_op P add_ or_ adc_ sbb_ and_ sub_ xor_ cmp_ test_ inc_ dec_ not_ neg_ mul_ imul_ shl_ shr_ sar_ rol_ ror_ op.Pop is = cc
each_op P add_ or_ adc_ sbb_ and_ sub_ xor_ cmp_ test_ inc_ dec_ not_ neg_ mul_ imul_ shl_ shr_ sar_ rol_ ror_ op.Xchg is = cc
each_op P add_ or_ adc_ sbb_ and_ sub_ xor_ cmp_ test_ inc_ dec_ not_ neg_ mul_ imul_ shl_ shr_ sar_ rol_ ror_ (op.Movzx from) is = cc
each_op P add_ or_ adc_ sbb_ and_ sub_ xor_ cmp_ test_ inc_ dec_ not_ neg_ mul_ imul_ shl_ shr_ sar_ rol_ ror_ (op.Movsx from) is = cc
each_op P add_ or_ adc_ sbb_ and_ sub_ xor_ cmp_ test_ inc_ dec_ not_ neg_ mul_ imul_ shl_ shr_ sar_ rol_ ror_ op.Cwde is = cc
each_op P add_ or_ adc_ sbb_ and_ sub_ xor_ cmp_ test_ inc_ dec_ not_ neg_ mul_ imul_ shl_ shr_ sar_ rol_ ror_ op.Cdq is = cc
each_op P add_ or_ adc_ sbb_ and_ sub_ xor_ cmp_ test_ inc_ dec_ not_ neg_ mul_ imul_ shl_ shr_ sar_ rol_ ror_ op.Leave is = cc
each_op P add_ or_ adc_ sbb_ and_ sub_ xor_ cmp_ test_ inc_ dec_ not_ neg_ mul_ imul_ shl_ shr_ sar_ rol_ ror_ (op.Setcc cond) is = cc
each_op P add_ or_ adc_ sbb_ and_ sub_ xor_ cmp_ test_ inc_ dec_ not_ neg_ mul_ imul_ shl_ shr_ sar_ rol_ ror_ op.Call is = cc
each_op P add_ or_ adc_ sbb_ and_ sub_ xor_ cmp_ test_ inc_ dec_ not_ neg_ mul_ imul_ shl_ shr_ sar_ rol_ ror_ op.Ret is = cc
each_op P add_ or_ adc_ sbb_ and_ sub_ xor_ cmp_ test_ inc_ dec_ not_ neg_ mul_ imul_ shl_ shr_ sar_ rol_ ror_ op.Jmp is = cc
each_op P add_ or_ adc_ sbb_ and_ sub_ xor_ cmp_ test_ inc_ dec_ not_ neg_ mul_ imul_ shl_ shr_ sar_ rol_ ror_ (op.Jcc cond) is = cc
each_op P add_ or_ adc_ sbb_ and_ sub_ xor_ cmp_ test_ inc_ dec_ not_ neg_ mul_ imul_ shl_ shr_ sar_ rol_ ror_ op.Nop is = cc
each_op P add_ or_ adc_ sbb_ and_ sub_ xor_ cmp_ test_ inc_ dec_ not_ neg_ mul_ imul_ shl_ shr_ sar_ rol_ ror_ op.Endbr32 is = cc
each_op P add_ or_ adc_ sbb_ and_ sub_ xor_ cmp_ test_ inc_ dec_ not_ neg_ mul_ imul_ shl_ shr_ sar_ rol_ ror_ op.Hlt is = cc
each_op P add_ or_ adc_ sbb_ and_ sub_ xor_ cmp_ test_ inc_ dec_ not_ neg_ mul_ imul_ shl_ shr_ sar_ rol_ ror_ op.Int3 is = cc
each_op P add_ or_ adc_ sbb_ and_ sub_ xor_ cmp_ test_ inc_ dec_ not_ neg_ mul_ imul_ shl_ shr_ sar_ rol_ ror_ op.Ud2 is = cc
each_op P add_ or_ adc_ sbb_ and_ sub_ xor_ cmp_ test_ inc_ dec_ not_ neg_ mul_ imul_ shl_ shr_ sar_ rol_ ror_ (op.Cmov cond) is = cc
each_op P add_ or_ adc_ sbb_ and_ sub_ xor_ cmp_ test_ inc_ dec_ not_ neg_ mul_ imul_ shl_ shr_ sar_ rol_ ror_ op.Div is = cc
each_op P add_ or_ adc_ sbb_ and_ sub_ xor_ cmp_ test_ inc_ dec_ not_ neg_ mul_ imul_ shl_ shr_ sar_ rol_ ror_ op.Idiv is = cc
each_op P add_ or_ adc_ sbb_ and_ sub_ xor_ cmp_ test_ inc_ dec_ not_ neg_ mul_ imul_ shl_ shr_ sar_ rol_ ror_ (op.Movs rep) is = cc
each_op P add_ or_ adc_ sbb_ and_ sub_ xor_ cmp_ test_ inc_ dec_ not_ neg_ mul_ imul_ shl_ shr_ sar_ rol_ ror_ (op.Stos rep) is = cc
each_op P add_ or_ adc_ sbb_ and_ sub_ xor_ cmp_ test_ inc_ dec_ not_ neg_ mul_ imul_ shl_ shr_ sar_ rol_ ror_ op.Cld is = cc
each_op P add_ or_ adc_ sbb_ and_ sub_ xor_ cmp_ test_ inc_ dec_ not_ neg_ mul_ imul_ shl_ shr_ sar_ rol_ ror_ op.Std is = cc
