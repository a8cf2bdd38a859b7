-- The parts of an address and of an instruction, joined.
use Rattle.std.proofs.Common.{◌≡◌, ℕ, Bool, true, false, cond, eqb, Some, None, List, [], ◌∷◌, ◌++◌, refl, sym, append_assoc, append-nil}
use Rattle.std.specs.Prelude.{codes}
use Rattle.std.proofs.Math.Bool.{and-false, and-true}
use Rattle.ia32_types.specs.declared.Reg.{Reg}
use Rattle.ia32_types.specs.declared.Mem.{Mem}
use Rattle.ia32_types.specs.declared.Operand.{Operand}
use Rattle.ia32_types.specs.declared.Instr.{Instr}
use Rattle.ia32_print.specs.Names.{reg32_name}
use Rattle.ia32_print.specs.Text.{joined, address_text, scale_text, sum_text, source_width, operand_text, operand_texts, immediate_text, behind_space}

-- what stands behind a register
abbrev pub tail_text : ℕ → List ℕ
tail_text disp = cond (eqb disp 0) [] (codes "+" ++ address_text disp)

joined-one : (part address : List ℕ) (b : Bool) → joined (codes "+") (part ∷ cond b [] (address ∷ [])) ≡ part ++ cond b [] (codes "+" ++ address)
unfolding joined
joined-one part address true = sym (append-nil part)
joined-one part address false = append_assoc part (codes "+") address

joined-two : (first second address : List ℕ) (b : Bool)
    → joined (codes "+") (first ∷ second ∷ cond b [] (address ∷ [])) ≡ first ++ codes "+" ++ second ++ cond b [] (codes "+" ++ address)
unfolding joined
joined-two first second address true = sym (append-nil (first ++ codes "+" ++ second))
joined-two first second address false = simp append_assoc

pub sum-none : (m : Mem) → m.base ≡ None → m.index ≡ None → sum_text m ≡ address_text m.disp
unfolding sum_text joined
sum-none m base index = rw (base, index, and-false (eqb m.disp 0)) refl

pub sum-base : (m : Mem) (base : Reg) → m.base ≡ Some base → m.index ≡ None → sum_text m ≡ reg32_name base ++ tail_text m.disp
unfolding sum_text
sum-base m base base_is index_is = rw (base_is, index_is, and-true (eqb m.disp 0)) (joined-one (reg32_name base) (address_text m.disp) (eqb m.disp 0))

pub sum-index : (m : Mem) (index : Reg) → m.base ≡ None → m.index ≡ Some index
    → sum_text m ≡ reg32_name index ++ codes "*" ++ scale_text m.scale ++ tail_text m.disp
unfolding sum_text
sum-index m index base_is index_is =
    rw (base_is, index_is, and-true (eqb m.disp 0)) (joined-one (reg32_name index ++ codes "*" ++ scale_text m.scale) (address_text m.disp) (eqb m.disp 0))

pub sum-both : (m : Mem) (base index : Reg) → m.base ≡ Some base → m.index ≡ Some index
    → sum_text m ≡ reg32_name base ++ codes "+" ++ (reg32_name index ++ codes "*" ++ scale_text m.scale) ++ tail_text m.disp
unfolding sum_text
sum-both m base index base_is index_is =
    rw (base_is, index_is, and-true (eqb m.disp 0))
    (joined-two (reg32_name base) (reg32_name index ++ codes "*" ++ scale_text m.scale) (address_text m.disp) (eqb m.disp 0))

-- the operands of an instruction, by how many there are
abbrev pub operands_text : Instr → List ℕ
operands_text i = behind_space (operand_texts i.op i.width i.dst i.src i.imm)

pub operands-one : (i : Instr) (first : Operand) → i.dst ≡ Some first → i.src ≡ None → operands_text i ≡ codes " " ++ operand_text i.op i.width first
unfolding joined
operands-one i first dst src = rw (dst, src) refl

pub operands-two : (i : Instr) (first second : Operand) → i.dst ≡ Some first → i.src ≡ Some second → i.imm ≡ None
    → operands_text i ≡ codes " " ++ (operand_text i.op i.width first ++ (codes ", " ++ operand_text i.op (source_width i.op i.width) second))
unfolding joined
operands-two i first second dst src imm = rw (dst, src, imm) (simp append_assoc)

pub operands-three : (i : Instr) (first second : Operand) (third : ℕ) → i.dst ≡ Some first → i.src ≡ Some second → i.imm ≡ Some third
    → operands_text i ≡ codes " " ++ (operand_text i.op i.width first ++ (codes ", " ++ (operand_text i.op (source_width i.op i.width) second
    ++ (codes ", " ++ immediate_text i.width third))))
unfolding joined
operands-three i first second third dst src imm = rw (dst, src, imm) (simp append_assoc)
