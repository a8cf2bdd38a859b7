-- What the slots of a form become: the operands of the forms of one layout.

use Rattle.std.proofs.Common.{◌≡◌, ℕ, ◌-◌, ◌<◌, ◌≤◌, nat_lt, Bool, true, false, ◌&&◌, Option, Some, None, option_map, refl, ◌∙◌, arith, inl}
use Rattle.std.proofs.lemmas.Bool.{cond_both, ltb-true, ltb-false}
use Rattle.ia32_types.specs.declared.Reg.{Reg}
use Rattle.ia32_types.specs.declared.Width.{Width}
use Rattle.ia32_types.specs.declared.Width.TheVariants.{B8, W16, D32}
use Rattle.ia32_types.specs.declared.Mem.{Mem}
use Rattle.ia32_types.specs.declared.Operand.{Operand}
use Rattle.ia32_types.specs.declared.Operand.TheVariants as operand
use Rattle.ia32_types.specs.declared.forms.Form.{Form}
use Rattle.ia32_types.specs.declared.forms.Segment.{Segment}
use Rattle.ia32_types.specs.declared.forms.Segment.TheVariants as segment
use Rattle.ia32_types.specs.declared.forms.Prefixes.{Prefixes}
use Rattle.ia32_types.specs.declared.forms.Parts.{Parts}
use Rattle.ia32_types.specs.Numbers.{reg_number, reg_of, size as width_size}
use Rattle.ia32_types.specs.Forms.{width_limit, reg_operand, reg_mem, sign_extended, rm_field, reg_field, is_gs, at_address, is_memory, operand_of, third_of, parts_width}
use Rattle.ia32_types.specs.Spells.{end_bytes, is_read_only, is_refused, refuses_memory}
use Rattle.ia32_types.specs.Operands.{IsAddress, IsRegister, IsPlace, IsTarget, IsValue, is_in_memory, HasOneAddress, IsFirst, HasOperands}
use Rattle.ia32_types.proofs.NumberLemmas.{number_of_reg}
use Rattle.ia32_types.proofs.EveryLemmas.{number_limit}

-- -- Parts of a form

-- the memory that ModRM names
abbrev pub FitsMemory : Prefixes → Form → Option Mem → Type 0
FitsMemory p f None = is_memory f.second ≡ false
FitsMemory p f (Some m) = IsAddress m × (m.gs ≡ is_gs p.segment) × (refuses_memory p f ≡ false)

pub record IsParts (p : Prefixes) (f : Form) (modrm number : ℕ) (m : Option Mem) : Type 0 where
  pub refused : is_refused p f ≡ false
  pub byte : modrm < 256
  pub below : number < number_limit (end_bytes p f)
  pub memory : FitsMemory p f m

abbrev pub parts_of : Prefixes → Form → ℕ → ℕ → Option Mem → Parts
parts_of p f modrm number m = record { form = f; prefixes = p; modrm = modrm; memory = m; number = number }

-- the operands of parts are those of their operation
abbrev pub HasProperOperands : Parts → Type 0
HasProperOperands x = (next : ℕ) → HasOperands x.form.op (parts_width x) (option_map (operand_of x next) x.form.first) (option_map (operand_of x next) x.form.second) (option_map (third_of x) x.form.third)

-- a form of which all parts have proper operands
abbrev pub IsProper : Form → Type 0
IsProper f = (p : Prefixes) (modrm number : ℕ) (m : Option Mem) → IsParts p f modrm number m → HasProperOperands (parts_of p f modrm number m)

-- -- Registers

first_four : (n : ℕ) → n < 4 → reg_number (reg_of n) < 4
first_four n lt = let e = number_of_reg n (omega arith) in omega (arith, e)

pub is_register : (width : Width) (n : ℕ) → n < 8 → IsRegister width (reg_operand width n)
is_register B8 n lt = cond_both (nat_lt n 4) _ _ (IsRegister B8) (λ low. first_four n (ltb-true n 4 low)) (λ high. let four : 4 ≤ n = ltb-false n 4 high in first_four (n - 4) (omega arith))
is_register W16 n lt = tt
is_register D32 n lt = tt

pub middle_below : (modrm : ℕ) → reg_field modrm < 8
middle_below modrm = omega arith

pub low_below : (modrm : ℕ) → rm_field modrm < 8
low_below modrm = omega arith

-- a register is a place, a target and a value, and is no memory
at_register : (P : Operand → Type 0) (width : Width) (n : ℕ) → ((r : Reg) → IsRegister width (operand.Reg r) → P (operand.Reg r)) → ((r : Reg) → IsRegister width (operand.High r) → P (operand.High r)) → n < 8 → P (reg_operand width n)
at_register P B8 n whole part lt = cond_both (nat_lt n 4) _ _ P (λ low. whole (reg_of n) (first_four n (ltb-true n 4 low))) (λ high. let four : 4 ≤ n = ltb-false n 4 high in part (reg_of (n - 4)) (first_four (n - 4) (omega arith)))
at_register P W16 n whole part lt = whole (reg_of n) tt
at_register P D32 n whole part lt = whole (reg_of n) tt

pub register_place : (width : Width) (n : ℕ) → n < 8 → IsPlace width (reg_operand width n)
register_place width n lt = at_register (IsPlace width) width n (λ r h. h) (λ r h. h) lt

pub register_target : (width : Width) (n : ℕ) → n < 8 → IsTarget width (reg_operand width n)
register_target width n lt = at_register (IsTarget width) width n (λ r h. h) (λ r h. h) lt

pub register_value : (width : Width) (n : ℕ) → n < 8 → IsValue width (reg_operand width n)
register_value width n lt = at_register (IsValue width) width n (λ r h. h) (λ r h. h) lt

pub register_first : (writes : Bool) (width : Width) (n : ℕ) → n < 8 → IsFirst writes width (reg_operand width n)
register_first true width n lt = register_target width n lt
register_first false width n lt = register_place width n lt

pub no_memory : (width : Width) (n : ℕ) → n < 8 → is_in_memory (reg_operand width n) ≡ false
no_memory width n lt = at_register (λ o. is_in_memory o ≡ false) width n (λ r h. refl) (λ r h. refl) lt

-- one address where the first operand is a register, and where the second is none
pub first_elsewhere : (a b : Operand) → is_in_memory a ≡ false → HasOneAddress a b
first_elsewhere a b e is = cc

-- -- The register or memory that ModRM names

-- memory that may be written doesn't count from GS
pub not_from_gs : (s : Segment) → is_read_only s ≡ false → is_gs s ≡ false
not_from_gs segment.None e = refl
not_from_gs segment.Cs e = cc
not_from_gs segment.Ds e = refl
not_from_gs segment.Gs e = cc

module _ (p : Prefixes) (f : Form) (width : Width) (modrm : ℕ) where
  pub place_named : (m : Option Mem) → FitsMemory p f m → IsPlace width (reg_mem width modrm m)
  place_named None fits = register_place width (rm_field modrm) (low_below modrm)
  place_named (Some m) fits = fits.0

  pub value_named : (m : Option Mem) → FitsMemory p f m → IsValue width (reg_mem width modrm m)
  value_named None fits = register_value width (rm_field modrm) (low_below modrm)
  value_named (Some m) fits = fits.0

  pub target_named : (m : Option Mem) → FitsMemory p f m → (refuses_memory p f ≡ false → is_read_only p.segment ≡ false) → IsTarget width (reg_mem width modrm m)
  target_named None fits free = register_target width (rm_field modrm) (low_below modrm)
  target_named (Some m) fits free = (fits.0, fits.1 ∙ not_from_gs p.segment (free fits.2))

-- where a form writes its first operand, ModRM names no memory of a read-only segment
pub free_of : (writes ro : Bool) → writes ≡ true → (writes && ro) ≡ false → ro ≡ false
free_of true ro e h = h
free_of false ro e h = cc

pub first_named : (writes : Bool) (p : Prefixes) (f : Form) (width : Width) (modrm : ℕ) (m : Option Mem) → FitsMemory p f m → (writes ≡ true → refuses_memory p f ≡ false → is_read_only p.segment ≡ false) → IsFirst writes width (reg_mem width modrm m)
first_named true p f width modrm m fits free = target_named p f width modrm m fits (free refl)
first_named false p f width modrm m fits free = place_named p f width modrm m fits

-- -- Numbers

pub extended_below : (width : Width) (n : ℕ) → n < 256 → sign_extended width n < width_limit width
extended_below B8 n lt = cond_both (nat_lt n 128) _ _ (λ v. v < 256) (λ _. lt) (λ _. omega arith)
extended_below W16 n lt = cond_both (nat_lt n 128) _ _ (λ v. v < 65536) (λ _. omega arith) (λ _. omega arith)
extended_below D32 n lt = cond_both (nat_lt n 128) _ _ (λ v. v < 4294967296) (λ _. omega arith) (λ _. omega arith)

limit_of_width : (width : Width) → number_limit (width_size width) ≡ width_limit width
limit_of_width B8 = refl
limit_of_width W16 = refl
limit_of_width D32 = refl

pub address_alone : (gs : Bool) (n : ℕ) → n < 4294967296 → IsAddress (at_address gs n)
address_alone gs n lt = record { scale = inl refl; index = refl; disp = lt }
