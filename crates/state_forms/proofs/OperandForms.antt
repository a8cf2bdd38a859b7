-- Operands as bytes spell them: numbers are words, and a scale is 8 at most.
use Rattle.std.proofs.Common.{◌≡◌, ℕ, zero, suc, ◌+◌, ◌<◌, ◌≤◌, ◌==◌, Bool, true, false, cond, Option, Some, None, refl, subst, arith, lit<, pos}
use Rattle.std.specs.Prelude.{IfSome, Result, Ok, Err}
use Rattle.std.proofs.lemmas.Bool.{cond_both}
use Rattle.std.proofs.lemmas.Int.{ints}
use Rattle.std.proofs.lemmas.Option.{none-some, same_Some}
use Rattle.image_map.specs.declared.image.Image.{Image}
use Rattle.image_map.specs.Queries.{byte_at, is_code}
use Rattle.ia32_types.specs.declared.Instr.{Instr}
use Rattle.ia32_types.specs.declared.Mem.{Mem}
use Rattle.ia32_types.specs.declared.Reg.{Reg}
use Rattle.ia32_types.specs.declared.Operand.{Operand}
use Rattle.ia32_types.specs.declared.Operand.TheVariants as operand
use Rattle.ia32_types.specs.declared.Width.{Width}
use Rattle.ia32_types.specs.declared.Width.TheVariants.{B8, W16, D32}
use Rattle.ia32_types.specs.Numbers.{reg_number}
use Rattle.ia32_types.specs.Operands.{IsRegister, IsCount, IsBelow, IsMemory, HasNone, HasOne, HasTwo, IsProduct, IsReturn, IsIdle, IsFirst, Fits, Shape, shape_of, pair, exchanged, loaded, pushed, popped, changed, factor, product, shifted, extended, tested, chosen, branched, returned, idle, alone, string, IsInstruction}
use Rattle.ia32_decode.specs.declared.NotDecoded.{NotDecoded}
use Rattle.ia32_decode.specs.Decoded.{decoded}
use Rattle.ia32_decode.proofs.DecodedLemmas.{ok_spelled}
use Rattle.ia32_decode.proofs.FrontLemmas.{AreBytes}
use Rattle.ia32_semantics.specs.Fetch.{code_byte, begun_by, code_run, fetch_window}
use Rattle.ia32_fetch.specs.Fetched.{instruction_of, instruction_at}
use Rattle.ia32_fetch.proofs.FetchLaws.{begun_spelled}
use Rattle.strided.specs.Interval.{Interval, one}
use Rattle.strided.proofs.MemberLemmas.{one_canonical}
use Rattle.si_bits.specs.Operations.{mul}
use Rattle.si_bits.proofs.SignLemmas.{fits_between}
use Rattle.alocs.specs.Cells.{Division}
use Rattle.vset.specs.Values.{Values, CanonicalValues, only_number}
use Rattle.vset.specs.Operations.{add}
use Rattle.abs_alu.proofs.CanonicalLemmas.{add_values_canonical, numbers_canonical, only_canonical}
use Rattle.abs_semantics.specs.States.{AbsState, HasCanonical}
use Rattle.abs_semantics.specs.Operands.{base_value, multiple_of, index_value, word_number, address}
use Rattle.abs_semantics.proofs.FormLemmas.{word_form}
use Rattle.abs_steps.specs.Rows.{view_of}
use Rattle.abs_steps.specs.Views.{value_of, address_of}
use Rattle.step_soundness.specs.Terms.{IsOperand}
use Rattle.step_soundness.proofs.IntervalForms.{mul_form}
use Rattle.step_soundness.proofs.RowLaws.{spelt_address, spelt_target, spelt_value, spelt_place}
use Rattle.step_soundness.proofs.ValueForms.{small_form, operand_form}
use Rattle.state_forms.specs.Images.{HasBytes}

-- -- Each operand of an instruction

abbrev pub IsSpelt : Option Operand → Type 0
IsSpelt None = Unit {0}
IsSpelt (Some o) = IsOperand o

abbrev pub AreSpelt : Option Operand → Option Operand → Option ℕ → Type 0
AreSpelt dst src imm = IsSpelt dst × (IsSpelt src × IfSome imm (λ n. n < 4294967296))

register_spelt : (width : Width) (o : Operand) → IsRegister width o → IsOperand o
register_spelt width (operand.Reg r) is = tt
register_spelt width (operand.High r) is = tt
register_spelt B8 (operand.Imm n) is = absurd is
register_spelt W16 (operand.Imm n) is = absurd is
register_spelt D32 (operand.Imm n) is = absurd is
register_spelt B8 (operand.Mem m) is = absurd is
register_spelt W16 (operand.Mem m) is = absurd is
register_spelt D32 (operand.Mem m) is = absurd is

first_spelt : (writes : Bool) (width : Width) (o : Operand) → IsFirst writes width o → IsOperand o
first_spelt true width o is = spelt_target width o is
first_spelt false width o is = spelt_place width o is

count_spelt : (o : Operand) → IsCount o → IsOperand o
count_spelt (operand.Reg r) is = tt
count_spelt (operand.High r) is = absurd is
count_spelt (operand.Imm n) is = omega (arith, is)
count_spelt (operand.Mem m) is = absurd is

below_spelt : (limit : ℕ) → limit ≤ 4294967296 → (o : Operand) → IsBelow limit o → IsOperand o
below_spelt limit few (operand.Reg r) is = absurd is
below_spelt limit few (operand.High r) is = absurd is
below_spelt limit few (operand.Imm n) is = omega (arith, few, is)
below_spelt limit few (operand.Mem m) is = absurd is

memory_spelt : (o : Operand) → IsMemory o → IsOperand o
memory_spelt (operand.Reg r) is = absurd is
memory_spelt (operand.High r) is = absurd is
memory_spelt (operand.Imm n) is = absurd is
memory_spelt (operand.Mem m) is = spelt_address m is

none_spelt : (dst src : Option Operand) (imm : Option ℕ) → HasNone dst src imm → AreSpelt dst src imm
none_spelt None None None fits = (tt, (tt, tt))
none_spelt None None (Some n) fits = absurd fits
none_spelt None (Some y) imm fits = absurd fits
none_spelt (Some x) src imm fits = absurd fits

one_spelt : (P : Operand → Type 0) → ((x : Operand) → P x → IsOperand x) → (dst src : Option Operand) (imm : Option ℕ) → HasOne P dst src imm → AreSpelt dst src imm
one_spelt P each (Some x) None None fits = (each x fits, (tt, tt))
one_spelt P each (Some x) None (Some n) fits = absurd fits
one_spelt P each (Some x) (Some y) imm fits = absurd fits
one_spelt P each None src imm fits = absurd fits

two_spelt : (P : Operand → Operand → Type 0) → ((x y : Operand) → P x y → IsOperand x × IsOperand y) → (dst src : Option Operand) (imm : Option ℕ) → HasTwo P dst src imm → AreSpelt dst src imm
two_spelt P each (Some x) (Some y) None fits = let both = each x y fits in (both.0, (both.1, tt))
two_spelt P each (Some x) (Some y) (Some n) fits = absurd fits
two_spelt P each (Some x) None imm fits = absurd fits
two_spelt P each None src imm fits = absurd fits

product_spelt : (width : Width) (dst src : Option Operand) (imm : Option ℕ) → IsProduct width dst src imm → AreSpelt dst src imm
product_spelt width (Some x) None None fits = (spelt_place width x fits, (tt, tt))
product_spelt width (Some x) (Some y) None fits = (register_spelt width x fits.1, (spelt_place width y fits.2, tt))
product_spelt width (Some x) (Some y) (Some n) fits = (register_spelt width x fits.1, (spelt_place width y fits.2, spelt_value width (operand.Imm n) fits.3))
product_spelt width (Some x) None (Some n) fits = absurd fits
product_spelt width None src imm fits = absurd fits

return_spelt : (dst src : Option Operand) (imm : Option ℕ) → IsReturn dst src imm → AreSpelt dst src imm
return_spelt None None None fits = (tt, (tt, tt))
return_spelt (Some x) None None fits = (below_spelt 65536 (omega arith) x fits, (tt, tt))
return_spelt None None (Some n) fits = absurd fits
return_spelt None (Some y) imm fits = absurd fits
return_spelt (Some x) None (Some n) fits = absurd fits
return_spelt (Some x) (Some y) imm fits = absurd fits

idle_spelt : (width : Width) (dst src : Option Operand) (imm : Option ℕ) → IsIdle width dst src imm → AreSpelt dst src imm
idle_spelt width None None None fits = (tt, (tt, tt))
idle_spelt width (Some x) None None fits = (spelt_place width x fits.1, (tt, tt))
idle_spelt width None None (Some n) fits = absurd fits
idle_spelt width None (Some y) imm fits = absurd fits
idle_spelt width (Some x) None (Some n) fits = absurd fits
idle_spelt width (Some x) (Some y) imm fits = absurd fits

fits_spelt : (s : Shape) (width : Width) (dst src : Option Operand) (imm : Option ℕ) → Fits s width dst src imm → AreSpelt dst src imm
fits_spelt (pair writes) width dst src imm fits = two_spelt _ (λ x y h. (first_spelt writes width x h.0, spelt_value width y h.1)) dst src imm fits
fits_spelt exchanged width dst src imm fits = two_spelt _ (λ x y h. (spelt_target width x h.0, register_spelt width y h.1)) dst src imm fits
fits_spelt loaded width dst src imm fits = two_spelt _ (λ x y h. (register_spelt D32 x h.0, memory_spelt y h.1)) dst src imm fits.1
fits_spelt pushed width dst src imm fits = one_spelt _ (spelt_value D32) dst src imm fits.1
fits_spelt popped width dst src imm fits = one_spelt _ (spelt_target D32) dst src imm fits.1
fits_spelt changed width dst src imm fits = one_spelt _ (spelt_target width) dst src imm fits
fits_spelt factor width dst src imm fits = one_spelt _ (spelt_place width) dst src imm fits
fits_spelt product width dst src imm fits = product_spelt width dst src imm fits
fits_spelt shifted width dst src imm fits = two_spelt _ (λ x y h. (spelt_target width x h.0, count_spelt y h.1)) dst src imm fits
fits_spelt (extended from) width dst src imm fits = two_spelt _ (λ x y h. (register_spelt width x h.0, spelt_place from y h.1)) dst src imm fits.2
fits_spelt (tested c) width dst src imm fits = one_spelt _ (spelt_target B8) dst src imm fits.2
fits_spelt (chosen c) width dst src imm fits = two_spelt _ (λ x y h. (register_spelt width x h.0, spelt_place width y h.1)) dst src imm fits.2
fits_spelt (branched c) width dst src imm fits = one_spelt _ (below_spelt 4294967296 (omega arith)) dst src imm fits.2
fits_spelt returned width dst src imm fits = return_spelt dst src imm fits.1
fits_spelt idle width dst src imm fits = idle_spelt width dst src imm fits
fits_spelt alone width dst src imm fits = none_spelt dst src imm fits.1
fits_spelt string width dst src imm fits = none_spelt dst src imm fits

pub operands_spelt : (i : Instr) → IsInstruction i → AreSpelt i.dst i.src i.imm
operands_spelt i is = fits_spelt (shape_of i.op) i.width i.dst i.src i.imm is.operands

-- -- What stands at an address can be spelled

module _ (image : Image) (bytes : HasBytes image) where
  run_bytes : (a n : ℕ) → AreBytes (code_run image a n)
  unfolding code_run
  run_bytes a zero = tt
  run_bytes a (suc n) = by (run_bytes (a + 1) n) (code_byte image a) refl
    where
      small : (b : ℕ) (t : Bool) → cond t (byte_at image a) None ≡ Some b → b < 256
      small b true e = bytes a b e
      small b false e = absurd (none-some b e)

      by : AreBytes (code_run image (a + 1) n) → (o : Option ℕ) → code_byte image a ≡ o → AreBytes (begun_by o (code_run image (a + 1) n))
      by rest None e = tt
      by rest (Some b) e = (small b (is_code image a) e, rest)

  pub stands_spelt : (a : ℕ) (i : Instr) → instruction_at image a ≡ Some i → IsInstruction i
  unfolding instruction_at
  stands_spelt a i e = by (decoded (fetch_window image a) a) refl e
    where
      by : (r : Result Instr NotDecoded) → decoded (fetch_window image a) a ≡ r → instruction_of r ≡ Some i → IsInstruction i
      by (Ok j) is same = subst IsInstruction (same_Some j i same) (begun_spelled (fetch_window image a) a j (ok_spelled (fetch_window image a) a j (run_bytes a 15) is))
      by (Err x) is same = absurd (none-some i same)

-- -- Values and addresses

module _ (a : AbsState) (form : HasCanonical a) where
  base_form : (o : Option Reg) → CanonicalValues (base_value a o)
  base_form None = small_form 0 (lit< tt)
  base_form (Some r) = form.registers (reg_number r)

  multiple_form : (v : Values) → CanonicalValues v → (scale : ℕ) → scale ≤ 8 → (o : Option Interval) → only_number v ≡ o → CanonicalValues (multiple_of scale o)
  multiple_form v fv scale few None e = tt
  multiple_form v fv scale few (Some x) e =
      numbers_canonical (mul x (one (pos scale))) (mul_form x (one (pos scale)) (only_canonical v x fv e) (one_canonical (pos scale) (fits_between (pos scale) (omega (arith, ints)) (omega (arith, ints)))))

  index_form : (o : Option Reg) (scale : ℕ) → scale ≤ 8 → CanonicalValues (index_value a o scale)
  index_form None scale few = small_form 0 (lit< tt)
  index_form (Some r) scale few =
      let v = a.registers (reg_number r) in
      let fv = form.registers (reg_number r) in
      cond_both (scale == 1) v (multiple_of scale (only_number v)) CanonicalValues (λ _. fv) (λ _. multiple_form v fv scale few (only_number v) refl)

  -- an operand's address
  pub spelt_address_form : (m : Mem) → IsOperand (operand.Mem m) → CanonicalValues (address a m)
  unfolding address
  spelt_address_form m is =
      add_values_canonical (add (base_value a m.base) (index_value a m.index m.scale)) (word_number m.disp)
      (add_values_canonical (base_value a m.base) (index_value a m.index m.scale) (base_form m.base) (index_form m.index m.scale is.0)) (word_form m.disp is.1)

  module _ (d : Division) (p : ℕ) where
    pub spelt_value_form : (width : Width) (o : Option Operand) → IsSpelt o → CanonicalValues (value_of (view_of a d p) width o)
    unfolding value_of
    spelt_value_form width None is = tt
    spelt_value_form width (Some o) is = operand_form a form d p width o (λ k e. subst IsOperand e is)

    pub loaded_form : (o : Option Operand) → IsSpelt o → CanonicalValues (address_of (view_of a d p) o)
    unfolding address_of
    loaded_form (Some (operand.Mem m)) is = spelt_address_form m is
    loaded_form (Some (operand.Reg r)) is = tt
    loaded_form (Some (operand.High r)) is = tt
    loaded_form (Some (operand.Imm n)) is = tt
    loaded_form None is = tt
