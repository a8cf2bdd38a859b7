-- The registers and flags of a set, one after the other.
use Rattle.std.proofs.Common.{◌≡◌, ℕ, cond, List, [], ◌∷◌, ◌++◌, refl}
use Rattle.ia32_types.specs.declared.Reg.{Reg}
use Rattle.ia32_types.specs.declared.Reg.TheVariants.{Eax, Ecx, Edx, Ebx, Esp, Ebp, Esi, Edi}
use Rattle.ia32_types.specs.declared.Flag.{Flag}
use Rattle.ia32_types.specs.declared.Flag.TheVariants.{Cf, Pf, Zf, Sf, Of, Df}
use Rattle.ia32_types.specs.declared.sets.RegSet.{RegSet}
use Rattle.ia32_types.specs.declared.sets.FlagSet.{FlagSet}
use Rattle.ia32_types.specs.Sets.{HasRegs, HasFlags, has_reg, has_flag, is_listed_reg, is_listed_flag}
use Rattle.access_facts.specs.Places.{picked, register_places, flag_places, all_registers, all_flags}
use Rattle.access_facts.proofs.PickLemmas.{one_more, no_more}

pub registers_pushed : (set : RegSet) (xs : List Reg) (p0 p1 p2 p3 p4 p5 p6 p7 p8 : List ℕ) → HasRegs set xs → p1 ≡ p0 ++ cond (has_reg set Eax) (0 ∷ []) [] → p2 ≡ p1 ++ cond (has_reg set Ecx) (1 ∷ []) [] → p3 ≡ p2 ++ cond (has_reg set Edx) (2 ∷ []) [] → p4 ≡ p3 ++ cond (has_reg set Ebx) (3 ∷ []) [] → p5 ≡ p4 ++ cond (has_reg set Esp) (4 ∷ []) [] → p6 ≡ p5 ++ cond (has_reg set Ebp) (5 ∷ []) [] → p7 ≡ p6 ++ cond (has_reg set Esi) (6 ∷ []) [] → p8 ≡ p7 ++ cond (has_reg set Edi) (7 ∷ []) [] → p8 ≡ p0 ++ register_places xs
unfolding register_places
registers_pushed set xs p0 p1 p2 p3 p4 p5 p6 p7 p8 has put1 put2 put3 put4 put5 put6 put7 put8 =
    let test = is_listed_reg xs in
    let whole = p0 ++ picked test 0 all_registers in
    let e1 : p1 ++ picked test 1 (Ecx ∷ Edx ∷ Ebx ∷ Esp ∷ Ebp ∷ Esi ∷ Edi ∷ []) ≡ whole = one_more test 0 Eax (Ecx ∷ Edx ∷ Ebx ∷ Esp ∷ Ebp ∷ Esi ∷ Edi ∷ []) (has_reg set Eax) p0 p1 whole (has Eax) put1 refl in
    let e2 : p2 ++ picked test 2 (Edx ∷ Ebx ∷ Esp ∷ Ebp ∷ Esi ∷ Edi ∷ []) ≡ whole = one_more test 1 Ecx (Edx ∷ Ebx ∷ Esp ∷ Ebp ∷ Esi ∷ Edi ∷ []) (has_reg set Ecx) p1 p2 whole (has Ecx) put2 e1 in
    let e3 : p3 ++ picked test 3 (Ebx ∷ Esp ∷ Ebp ∷ Esi ∷ Edi ∷ []) ≡ whole = one_more test 2 Edx (Ebx ∷ Esp ∷ Ebp ∷ Esi ∷ Edi ∷ []) (has_reg set Edx) p2 p3 whole (has Edx) put3 e2 in
    let e4 : p4 ++ picked test 4 (Esp ∷ Ebp ∷ Esi ∷ Edi ∷ []) ≡ whole = one_more test 3 Ebx (Esp ∷ Ebp ∷ Esi ∷ Edi ∷ []) (has_reg set Ebx) p3 p4 whole (has Ebx) put4 e3 in
    let e5 : p5 ++ picked test 5 (Ebp ∷ Esi ∷ Edi ∷ []) ≡ whole = one_more test 4 Esp (Ebp ∷ Esi ∷ Edi ∷ []) (has_reg set Esp) p4 p5 whole (has Esp) put5 e4 in
    let e6 : p6 ++ picked test 6 (Esi ∷ Edi ∷ []) ≡ whole = one_more test 5 Ebp (Esi ∷ Edi ∷ []) (has_reg set Ebp) p5 p6 whole (has Ebp) put6 e5 in
    let e7 : p7 ++ picked test 7 (Edi ∷ []) ≡ whole = one_more test 6 Esi (Edi ∷ []) (has_reg set Esi) p6 p7 whole (has Esi) put7 e6 in
    let e8 : p8 ++ picked test 8 [] ≡ whole = one_more test 7 Edi [] (has_reg set Edi) p7 p8 whole (has Edi) put8 e7 in
    no_more test 8 p8 whole e8

pub flags_pushed : (set : FlagSet) (xs : List Flag) (p0 p1 p2 p3 p4 p5 p6 : List ℕ) → HasFlags set xs → p1 ≡ p0 ++ cond (has_flag set Cf) (8 ∷ []) [] → p2 ≡ p1 ++ cond (has_flag set Pf) (9 ∷ []) [] → p3 ≡ p2 ++ cond (has_flag set Zf) (10 ∷ []) [] → p4 ≡ p3 ++ cond (has_flag set Sf) (11 ∷ []) [] → p5 ≡ p4 ++ cond (has_flag set Of) (12 ∷ []) [] → p6 ≡ p5 ++ cond (has_flag set Df) (13 ∷ []) [] → p6 ≡ p0 ++ flag_places xs
unfolding flag_places
flags_pushed set xs p0 p1 p2 p3 p4 p5 p6 has put1 put2 put3 put4 put5 put6 =
    let test = is_listed_flag xs in
    let whole = p0 ++ picked test 8 all_flags in
    let e1 : p1 ++ picked test 9 (Pf ∷ Zf ∷ Sf ∷ Of ∷ Df ∷ []) ≡ whole = one_more test 8 Cf (Pf ∷ Zf ∷ Sf ∷ Of ∷ Df ∷ []) (has_flag set Cf) p0 p1 whole (has Cf) put1 refl in
    let e2 : p2 ++ picked test 10 (Zf ∷ Sf ∷ Of ∷ Df ∷ []) ≡ whole = one_more test 9 Pf (Zf ∷ Sf ∷ Of ∷ Df ∷ []) (has_flag set Pf) p1 p2 whole (has Pf) put2 e1 in
    let e3 : p3 ++ picked test 11 (Sf ∷ Of ∷ Df ∷ []) ≡ whole = one_more test 10 Zf (Sf ∷ Of ∷ Df ∷ []) (has_flag set Zf) p2 p3 whole (has Zf) put3 e2 in
    let e4 : p4 ++ picked test 12 (Of ∷ Df ∷ []) ≡ whole = one_more test 11 Sf (Of ∷ Df ∷ []) (has_flag set Sf) p3 p4 whole (has Sf) put4 e3 in
    let e5 : p5 ++ picked test 13 (Df ∷ []) ≡ whole = one_more test 12 Of (Df ∷ []) (has_flag set Of) p4 p5 whole (has Of) put5 e4 in
    let e6 : p6 ++ picked test 14 [] ≡ whole = one_more test 13 Df [] (has_flag set Df) p5 p6 whole (has Df) put6 e5 in
    no_more test 14 p6 whole e6
