-- What is told of an entry's registers and flags is what its effects write.
use Rattle.std.proofs.Common.{◌≡◌, ℕ, zero, suc, List, [], ◌∷◌, ◌++◌, refl, sym, ap, ◌∙◌, arith}
use Rattle.std.specs.Prelude.{Bool, true, false, ◌||◌, ◌==◌}
use Rattle.std.proofs.lemmas.Bool.Decides.{nat_tests}
use Rattle.ia32_types.specs.declared.Reg.{Reg}
use Rattle.ia32_types.specs.declared.Reg.TheVariants.{Esi, Edi}
use Rattle.ia32_types.specs.declared.Flag.{Flag}
use Rattle.ia32_types.specs.declared.Flag.TheVariants.{Cf, Pf, Zf, Sf, Of}
use Rattle.ia32_types.specs.declared.Width.{Width}
use Rattle.ia32_types.specs.declared.Width.TheVariants.{B8, W16, D32}
use Rattle.ia32_types.specs.Numbers.{reg_number, flag_number, is_same_reg}
use Rattle.ia32_types.proofs.NumberLemmas.{each_reg}
use Rattle.ia32_semantics.specs.declared.flags.FlagsOut.{FlagsOut}
use Rattle.ia32_semantics.specs.declared.flags.FlagOut.{FlagOut}
use Rattle.ia32_semantics.specs.declared.flags.FlagOut.TheVariants as out
use Rattle.ia32_semantics.specs.State.{InRegister, InFlag}
use Rattle.ia32_semantics.specs.Effects.{Effect, Whole, sets, effects_write}
use Rattle.ia32_semantics.specs.Operands.{flag_effect, flag_effects}
use Rattle.ia32_semantics.specs.Rows.{halves, quotient_effects}
use Rattle.ia32_semantics.specs.Strings.{copied, filled}
use Rattle.ia32_semantics.proofs.EffectLemmas.{by_test}
use Rattle.ia32_semantics.proofs.ChangeLemmas.{write_append}
use Rattle.ia32_machine.specs.Touches.{has_halves, is_set_flag}

pub halves_written : (width : Width) (low high : ℕ) (r : Reg) → has_halves width r ≡ effects_write (halves width low high) (InRegister (reg_number r))
halves_written B8 low high r = each_reg (λ r. has_halves B8 r ≡ effects_write (halves B8 low high) (InRegister (reg_number r))) refl refl refl refl refl refl refl refl r
halves_written W16 low high r = each_reg (λ r. has_halves W16 r ≡ effects_write (halves W16 low high) (InRegister (reg_number r))) refl refl refl refl refl refl refl refl r
halves_written D32 low high r = each_reg (λ r. has_halves D32 r ≡ effects_write (halves D32 low high) (InRegister (reg_number r))) refl refl refl refl refl refl refl refl r

pub quotient_written : (width : Width) (q m : ℕ) (r : Reg) → has_halves width r ≡ effects_write (quotient_effects width q m) (InRegister (reg_number r))
quotient_written B8 q m r = each_reg (λ r. has_halves B8 r ≡ effects_write (quotient_effects B8 q m) (InRegister (reg_number r))) refl refl refl refl refl refl refl refl r
quotient_written W16 q m r = each_reg (λ r. has_halves W16 r ≡ effects_write (quotient_effects W16 q m) (InRegister (reg_number r))) refl refl refl refl refl refl refl refl r
quotient_written D32 q m r = each_reg (λ r. has_halves D32 r ≡ effects_write (quotient_effects D32 q m) (InRegister (reg_number r))) refl refl refl refl refl refl refl refl r

pub copied_registers : (down : Bool) (z n from to u v : ℕ) (r : Reg)
    → (is_same_reg r Esi || is_same_reg r Edi) ≡ effects_write (copied down z n from to ++ (sets Whole 6 u ∷ sets Whole 7 v ∷ [])) (InRegister (reg_number r))
copied_registers down z zero from to u v r =
    each_reg (λ r. (is_same_reg r Esi || is_same_reg r Edi) ≡ effects_write (sets Whole 6 u ∷ sets Whole 7 v ∷ []) (InRegister (reg_number r))) refl refl refl refl refl refl refl refl r
copied_registers down z (suc n) from to u v r = copied_registers down z n _ _ u v r

pub filled_registers : (down : Bool) (z value n to v : ℕ) (r : Reg)
    → is_same_reg r Edi ≡ effects_write (filled down z value n to ++ (sets Whole 7 v ∷ [])) (InRegister (reg_number r))
filled_registers down z value zero to v r =
    each_reg (λ r. is_same_reg r Edi ≡ effects_write (sets Whole 7 v ∷ []) (InRegister (reg_number r))) refl refl refl refl refl refl refl refl r
filled_registers down z value (suc n) to v r = filled_registers down z value n _ v r

-- -- Flags

pub copied_flags : (down : Bool) (z n from to u v k : ℕ) → effects_write (copied down z n from to ++ (sets Whole 6 u ∷ sets Whole 7 v ∷ [])) (InFlag k) ≡ false
copied_flags down z zero from to u v k = refl
copied_flags down z (suc n) from to u v k = copied_flags down z n _ _ u v k

pub filled_flags : (down : Bool) (z value n to v k : ℕ) → effects_write (filled down z value n to ++ (sets Whole 7 v ∷ [])) (InFlag k) ≡ false
filled_flags down z value zero to v k = refl
filled_flags down z value (suc n) to v k = filled_flags down z value n _ v k

one_flag : (flag : Flag) (o : FlagOut) (f : Flag) → is_set_flag flag o f ≡ effects_write (flag_effect (flag_number flag) o) (InFlag (flag_number f))
one_flag flag (out.Set value) f = swap (flag_number f) (flag_number flag)
  where
    swap : (a b : ℕ) → (a == b) ≡ (b == a || false)
    swap a b = by_test (a == b)
        (λ e. let g : (b == a) ≡ true = grind (arith, nat_tests) in rw (e, g) refl)
        (λ e. let g : (b == a) ≡ false = grind (arith, nat_tests) in rw (e, g) refl)
one_flag flag out.Kept f = refl
one_flag flag out.Undefined f = refl

pub flags_written : (o : FlagsOut) (f : Flag)
    → ((((is_set_flag Cf o.cf f || is_set_flag Pf o.pf f) || is_set_flag Zf o.zf f) || is_set_flag Sf o.sf f) || is_set_flag Of o.of f)
    ≡ effects_write (flag_effects o) (InFlag (flag_number f))
flags_written o f =
    both _ _ (((cf ++ pf) ++ zf) ++ sf) (flag_effect 4 o.of)
    (both _ _ ((cf ++ pf) ++ zf) sf (both _ _ (cf ++ pf) zf (both _ _ cf pf (one_flag Cf o.cf f) (one_flag Pf o.pf f)) (one_flag Zf o.zf f)) (one_flag Sf o.sf f))
    (one_flag Of o.of f)
  where
    cf : List Effect
    cf = flag_effect 0 o.cf

    pf : List Effect
    pf = flag_effect 1 o.pf

    zf : List Effect
    zf = flag_effect 2 o.zf

    sf : List Effect
    sf = flag_effect 3 o.sf

    both : (a b : Bool) (es fs : List Effect) → a ≡ effects_write es (InFlag (flag_number f)) → b ≡ effects_write fs (InFlag (flag_number f))
        → (a || b) ≡ effects_write (es ++ fs) (InFlag (flag_number f))
    both a b es fs p q = ap (λ t. t || b) p ∙ ap (λ t. effects_write es (InFlag (flag_number f)) || t) q ∙ sym (write_append es fs (InFlag (flag_number f)))
