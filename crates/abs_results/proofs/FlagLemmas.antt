-- What an operation gives goes by which flags the sets have, however the sets are written.
use Rattle.std.proofs.Common.{◌≡◌, ℕ, true, false, refl, ap, ◌∙◌}
use Rattle.std.specs.Prelude.{◌==◌, if◌then◌else◌, pos, Some}
use mathlib.Core.Path.{fun_ext}
use Rattle.ia32_types.specs.declared.Flag.{Flag}
use Rattle.ia32_types.specs.declared.Flag.TheVariants.{Cf, Pf, Zf, Sf, Of, Df}
use Rattle.ia32_types.specs.declared.Op.{Op}
use Rattle.ia32_types.specs.declared.Op.TheVariants as op
use Rattle.ia32_types.specs.Numbers.{flag_number}
use Rattle.ia32_types.specs.Sets.{flag_set, has_flag}
use Rattle.ia32_semantics.specs.declared.flags.FlagsOut.{FlagsOut}
use Rattle.vset.specs.declared.facts.AbsFlags.{AbsFlags}
use Rattle.vset.specs.Values.{Values, Top}
use Rattle.abs_alu.specs.Flags.{flags_after, flags_out, after, may_be, done_to}
use Rattle.abs_alu.specs.Operands.{operands, known, known_carry, sure, with_second, takes_second, takes_carry}
use Rattle.abs_alu.specs.Results.{value, flags, wide, narrow, computed_or}
use Rattle.abs_alu.specs.Words.{with_carries, by_carry, carried, words}
use Rattle.ia32_types.proofs.SetLemmas.{flag_set_has}
use Rattle.abs_steps.specs.Flags.{allows, sets_of}

-- -- Members

clear_same : (f : AbsFlags) (x : Flag) → has_flag (sets_of (allows f)).zero x ≡ has_flag f.zero x
clear_same f x = flag_set_has (λ y. allows f (flag_number y) false) x ∙ each x
  where
    each : (x : Flag) → allows f (flag_number x) false ≡ has_flag f.zero x
    each Cf = refl
    each Pf = refl
    each Zf = refl
    each Sf = refl
    each Of = refl
    each Df = refl

set_same : (f : AbsFlags) (x : Flag) → has_flag (sets_of (allows f)).one x ≡ has_flag f.one x
set_same f x = flag_set_has (λ y. allows f (flag_number y) true) x ∙ each x
  where
    each : (x : Flag) → allows f (flag_number x) true ≡ has_flag f.one x
    each Cf = refl
    each Pf = refl
    each Zf = refl
    each Sf = refl
    each Of = refl
    each Df = refl

-- -- Values

carry_same : (f g : AbsFlags) → has_flag f.zero Cf ≡ has_flag g.zero Cf → has_flag f.one Cf ≡ has_flag g.one Cf → known_carry f ≡ known_carry g
unfolding known_carry
carry_same f g zero one = ap (λ b. sure b (has_flag f.one Cf)) zero ∙ ap (λ b. sure (has_flag g.zero Cf) b) one

operands_same : (w : ℕ) (o : Op) (a b : Values) (f g : AbsFlags) → has_flag f.zero Cf ≡ has_flag g.zero Cf → has_flag f.one Cf ≡ has_flag g.one Cf → operands w o a b f ≡ operands w o a b g
unfolding operands
operands_same w o a b f g zero one =
    ap (λ carry. with_second (known w a) (if takes_second o then known w b else Some 0) (if takes_carry o then carry else Some false)) (carry_same f g zero one)

carries_same : (o : Op) (a b : Values) (f g : AbsFlags) → has_flag f.zero Cf ≡ has_flag g.zero Cf → has_flag f.one Cf ≡ has_flag g.one Cf → with_carries o a b f ≡ with_carries o a b g
unfolding with_carries
carries_same o a b f g zero one =
    ap (λ t. by_carry t (has_flag f.one Cf) (carried o a b (pos 0)) (carried o a b (pos 1))) zero
    ∙ ap (λ t. by_carry (has_flag g.zero Cf) t (carried o a b (pos 0)) (carried o a b (pos 1))) one

wide_same : (o : Op) (a b : Values) (f g : AbsFlags) → has_flag f.zero Cf ≡ has_flag g.zero Cf → has_flag f.one Cf ≡ has_flag g.one Cf → wide o a b f ≡ wide o a b g
unfolding words
wide_same op.Add a b f g zero one = refl
wide_same op.Or a b f g zero one = refl
wide_same op.Adc a b f g zero one = carries_same op.Adc a b f g zero one
wide_same op.Sbb a b f g zero one = carries_same op.Sbb a b f g zero one
wide_same op.And a b f g zero one = refl
wide_same op.Sub a b f g zero one = refl
wide_same op.Xor a b f g zero one = refl
wide_same op.Cmp a b f g zero one = refl
wide_same op.Mov a b f g zero one = refl
wide_same op.Lea a b f g zero one = refl
wide_same op.Push a b f g zero one = refl
wide_same op.Pop a b f g zero one = refl
wide_same op.Xchg a b f g zero one = refl
wide_same op.Test a b f g zero one = refl
wide_same op.Inc a b f g zero one = refl
wide_same op.Dec a b f g zero one = refl
wide_same op.Not a b f g zero one = refl
wide_same op.Neg a b f g zero one = refl
wide_same op.Mul a b f g zero one = refl
wide_same op.Imul a b f g zero one = refl
wide_same op.Shl a b f g zero one = refl
wide_same op.Shr a b f g zero one = refl
wide_same op.Sar a b f g zero one = refl
wide_same (op.Movzx x) a b f g zero one = refl
wide_same (op.Movsx x) a b f g zero one = refl
wide_same op.Cwde a b f g zero one = refl
wide_same op.Cdq a b f g zero one = refl
wide_same op.Leave a b f g zero one = refl
wide_same (op.Setcc x) a b f g zero one = refl
wide_same op.Call a b f g zero one = refl
wide_same op.Ret a b f g zero one = refl
wide_same op.Jmp a b f g zero one = refl
wide_same (op.Jcc x) a b f g zero one = refl
wide_same op.Nop a b f g zero one = refl
wide_same op.Endbr32 a b f g zero one = refl
wide_same op.Hlt a b f g zero one = refl
wide_same op.Int3 a b f g zero one = refl
wide_same op.Ud2 a b f g zero one = refl
wide_same (op.Cmov x) a b f g zero one = refl
wide_same op.Rol a b f g zero one = ap (computed_or Top 32 op.Rol) (operands_same 32 op.Rol a b f g zero one)
wide_same op.Ror a b f g zero one = ap (computed_or Top 32 op.Ror) (operands_same 32 op.Ror a b f g zero one)
wide_same op.Div a b f g zero one = refl
wide_same op.Idiv a b f g zero one = refl
wide_same (op.Movs x) a b f g zero one = refl
wide_same (op.Stos x) a b f g zero one = refl
wide_same op.Cld a b f g zero one = refl
wide_same op.Std a b f g zero one = refl

value_same : (w : ℕ) (o : Op) (a b : Values) (f g : AbsFlags) → has_flag f.zero Cf ≡ has_flag g.zero Cf → has_flag f.one Cf ≡ has_flag g.one Cf → value w o a b f ≡ value w o a b g
unfolding value
value_same w o a b f g zero one =
    ap (λ v. if w == 32 then v else narrow w o (operands w o a b f)) (wide_same o a b f g zero one)
    ∙ ap (λ x. if w == 32 then wide o a b g else narrow w o x) (operands_same w o a b f g zero one)

pub value_by_members : (w : ℕ) (o : Op) (a b : Values) (f : AbsFlags) → value w o a b (sets_of (allows f)) ≡ value w o a b f
value_by_members w o a b f = value_same w o a b (sets_of (allows f)) f (clear_same f Cf) (set_same f Cf)

-- -- Flags

after_same : (out : FlagsOut) (f : AbsFlags) → after out (sets_of (allows f)) ≡ after out f
unfolding flags_after
after_same out f =
    ap (λ s. record { zero = flag_set (λ x. may_be (done_to out x) false (s x)); one = flags_after out true (sets_of (allows f)).one }) (fun_ext (clear_same f))
    ∙ ap (λ s. record { zero = flags_after out false f.zero; one = flag_set (λ x. may_be (done_to out x) true (s x)) }) (fun_ext (set_same f))

pub flags_by_members : (w : ℕ) (o : Op) (a b : Values) (f : AbsFlags) → flags w o a b (sets_of (allows f)) ≡ flags w o a b f
unfolding flags
flags_by_members w o a b f =
    ap (λ x. after (flags_out w o b x) (sets_of (allows f))) (operands_same w o a b (sets_of (allows f)) f (clear_same f Cf) (set_same f Cf))
    ∙ after_same (flags_out w o b (operands w o a b f)) f
