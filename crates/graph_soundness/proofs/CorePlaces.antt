-- The places of registers and flags, by their numbers.
use Rattle.std.proofs.Common.{◌≡◌, ℕ, zero, suc, ◌+◌, true, List, [], ◌∷◌, Some, refl, sym, ap, subst, arith, eqb-true, eq-eqb}
use Rattle.std.specs.Prelude.{Contains, slice_get, ◌==◌}
use Rattle.std.proofs.lemmas.Bool.{false≢true, or_left, or_right}
use Rattle.std.proofs.lemmas.Option.{none-some, same_Some}
use Rattle.ia32_types.specs.declared.Reg.{Reg}
use Rattle.ia32_types.specs.declared.Reg.TheVariants.{Eax, Ecx, Edx, Ebx, Esp, Ebp, Esi, Edi}
use Rattle.ia32_types.specs.declared.Flag.{Flag}
use Rattle.ia32_types.specs.declared.Flag.TheVariants.{Cf, Pf, Zf, Sf, Of, Df}
use Rattle.ia32_types.specs.Numbers.{reg_number, flag_number}
use Rattle.ia32_types.specs.Sets.{is_listed_reg, is_listed_flag}
use Rattle.ia32_semantics.specs.Laws.{has_register, has_flag}
use Rattle.ia32_semantics.proofs.EffectLemmas.{or_true}
use Rattle.access_facts.specs.Places.{register_places, flag_places, all_registers, all_flags}
use Rattle.access_facts.proofs.MemberLemmas.{picked_has, has_picked}

-- -- Registers

listed_reg : (rs : List Reg) (n : ℕ) → has_register rs n ≡ true → (r : Reg) × (reg_number r ≡ n) × (is_listed_reg rs r ≡ true)
listed_reg [] n e = absurd (false≢true e)
listed_reg (x ∷ rs) n e =
    or_true (reg_number x == n) (has_register rs n) e
    (λ here. (x, eqb-true (reg_number x) n here, or_left (reg_number x == reg_number x) (is_listed_reg rs x) (eq-eqb (reg_number x) (reg_number x) refl)))
    (λ later. let found = listed_reg rs n later in (found.0, found.1, or_right (reg_number found.0 == reg_number x) (is_listed_reg rs found.0) found.2))

unlisted_reg : (rs : List Reg) (r : Reg) → is_listed_reg rs r ≡ true → has_register rs (reg_number r) ≡ true
unlisted_reg [] r e = absurd (false≢true e)
unlisted_reg (x ∷ rs) r e =
    or_true (reg_number r == reg_number x) (is_listed_reg rs r) e
    (λ here. or_left (reg_number x == reg_number r) (has_register rs (reg_number r)) (eq-eqb (reg_number x) (reg_number r) (sym (eqb-true (reg_number r) (reg_number x) here))))
    (λ later. or_right (reg_number x == reg_number r) (has_register rs (reg_number r)) (unlisted_reg rs r later))

reg_there : (r : Reg) → slice_get all_registers (reg_number r) ≡ Some r
reg_there Eax = refl
reg_there Ecx = refl
reg_there Edx = refl
reg_there Ebx = refl
reg_there Esp = refl
reg_there Ebp = refl
reg_there Esi = refl
reg_there Edi = refl

reg_by : (x r : Reg) → Some x ≡ Some r → reg_number r ≡ reg_number x
reg_by x r e = sym (ap reg_number (same_Some x r e))

reg_back : (k : ℕ) (r : Reg) → slice_get all_registers k ≡ Some r → reg_number r ≡ k
reg_back zero r e = reg_by Eax r e
reg_back (suc zero) r e = reg_by Ecx r e
reg_back (suc (suc zero)) r e = reg_by Edx r e
reg_back (suc (suc (suc zero))) r e = reg_by Ebx r e
reg_back (suc (suc (suc (suc zero)))) r e = reg_by Esp r e
reg_back (suc (suc (suc (suc (suc zero))))) r e = reg_by Ebp r e
reg_back (suc (suc (suc (suc (suc (suc zero)))))) r e = reg_by Esi r e
reg_back (suc (suc (suc (suc (suc (suc (suc zero))))))) r e = reg_by Edi r e
reg_back (suc (suc (suc (suc (suc (suc (suc (suc k)))))))) r e = absurd (none-some r e)

pub register_placed : (rs : List Reg) (n : ℕ) → has_register rs n ≡ true → Contains (register_places rs) n
unfolding register_places
register_placed rs n e =
    let found = listed_reg rs n e in
    let is = found.1 in
    let same : 0 + reg_number found.0 ≡ n = omega (arith, is) in
    subst (Contains (register_places rs)) same (has_picked (is_listed_reg rs) 0 (reg_number found.0) found.0 all_registers (reg_there found.0) found.2)

pub register_back : (rs : List Reg) (n : ℕ) → Contains (register_places rs) n → has_register rs n ≡ true
unfolding register_places
register_back rs n e =
    let p = picked_has (is_listed_reg rs) 0 n all_registers e in
    let back = reg_back p.number p.thing p.there in
    let is = p.is in
    let same : reg_number p.thing ≡ n = omega (arith, back, is) in
    subst (λ k. has_register rs k ≡ true) same (unlisted_reg rs p.thing p.picked)

-- -- Flags

listed_flag : (fs : List Flag) (n : ℕ) → has_flag fs n ≡ true → (f : Flag) × (flag_number f ≡ n) × (is_listed_flag fs f ≡ true)
listed_flag [] n e = absurd (false≢true e)
listed_flag (x ∷ fs) n e =
    or_true (flag_number x == n) (has_flag fs n) e
    (λ here. (x, eqb-true (flag_number x) n here, or_left (flag_number x == flag_number x) (is_listed_flag fs x) (eq-eqb (flag_number x) (flag_number x) refl)))
    (λ later. let found = listed_flag fs n later in (found.0, found.1, or_right (flag_number found.0 == flag_number x) (is_listed_flag fs found.0) found.2))

unlisted_flag : (fs : List Flag) (f : Flag) → is_listed_flag fs f ≡ true → has_flag fs (flag_number f) ≡ true
unlisted_flag [] f e = absurd (false≢true e)
unlisted_flag (x ∷ fs) f e =
    or_true (flag_number f == flag_number x) (is_listed_flag fs f) e
    (λ here. or_left (flag_number x == flag_number f) (has_flag fs (flag_number f)) (eq-eqb (flag_number x) (flag_number f) (sym (eqb-true (flag_number f) (flag_number x) here))))
    (λ later. or_right (flag_number x == flag_number f) (has_flag fs (flag_number f)) (unlisted_flag fs f later))

flag_there : (f : Flag) → slice_get all_flags (flag_number f) ≡ Some f
flag_there Cf = refl
flag_there Pf = refl
flag_there Zf = refl
flag_there Sf = refl
flag_there Of = refl
flag_there Df = refl

flag_by : (x f : Flag) → Some x ≡ Some f → flag_number f ≡ flag_number x
flag_by x f e = sym (ap flag_number (same_Some x f e))

flag_back_by : (k : ℕ) (f : Flag) → slice_get all_flags k ≡ Some f → flag_number f ≡ k
flag_back_by zero f e = flag_by Cf f e
flag_back_by (suc zero) f e = flag_by Pf f e
flag_back_by (suc (suc zero)) f e = flag_by Zf f e
flag_back_by (suc (suc (suc zero))) f e = flag_by Sf f e
flag_back_by (suc (suc (suc (suc zero)))) f e = flag_by Of f e
flag_back_by (suc (suc (suc (suc (suc zero))))) f e = flag_by Df f e
flag_back_by (suc (suc (suc (suc (suc (suc k)))))) f e = absurd (none-some f e)

pub flag_placed : (fs : List Flag) (n : ℕ) → has_flag fs n ≡ true → Contains (flag_places fs) (n + 8)
unfolding flag_places
flag_placed fs n e =
    let found = listed_flag fs n e in
    let is = found.1 in
    let same : 8 + flag_number found.0 ≡ n + 8 = omega (arith, is) in
    subst (Contains (flag_places fs)) same (has_picked (is_listed_flag fs) 8 (flag_number found.0) found.0 all_flags (flag_there found.0) found.2)

pub flag_back : (fs : List Flag) (n : ℕ) → Contains (flag_places fs) (n + 8) → has_flag fs n ≡ true
unfolding flag_places
flag_back fs n e =
    let p = picked_has (is_listed_flag fs) 8 (n + 8) all_flags e in
    let back = flag_back_by p.number p.thing p.there in
    let is = p.is in
    let same : flag_number p.thing ≡ n = omega (arith, back, is) in
    subst (λ k. has_flag fs k ≡ true) same (unlisted_flag fs p.thing p.picked)
