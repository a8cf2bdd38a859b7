-- The registers and flags that operands and flags ask for, and those that storing into them changes, are in the tables.
use Rattle.std.proofs.Common.{◌≡◌, ℕ, zero, suc, ◌+◌, ◌*◌, List, [], ◌∷◌, ◌++◌, refl, sym, ◌∙◌, eq-eqb, ◌<◌, ◌^◌, arith}
use Rattle.std.specs.Prelude.{Bool, true, false, ◌==◌, Option, Some, None, option_to_list}
use Rattle.std.proofs.lemmas.Bool.{false≢true, or_right, or_left}
use Rattle.std.proofs.lemmas.List.Folds.{list_any-append}
use Rattle.ia32_types.specs.declared.Reg.{Reg}
use Rattle.ia32_types.specs.declared.Flag.{Flag}
use Rattle.ia32_types.specs.declared.Width.{Width}
use Rattle.ia32_types.specs.declared.Width.TheVariants.{B8, W16, D32}
use Rattle.ia32_types.specs.declared.Mem.{Mem}
use Rattle.ia32_types.specs.declared.Operand.{Operand}
use Rattle.ia32_types.specs.declared.Operand.TheVariants as operand
use Rattle.ia32_types.specs.Numbers.{reg_number, size}
use Rattle.ia32_types.specs.Places as places
use Rattle.ia32_semantics.specs.State.{State, Location, InRegister, InFlag, AtByte}
use Rattle.ia32_semantics.specs.Reading.{gives, register}
use Rattle.ia32_semantics.specs.Operands.{low_part, whole_register, flag_value, any_word, stored_number, register_or_zero, address, memory_value, value, value_of, address_of, bits}
use Rattle.ia32_semantics.specs.Laws.{has_register, has_flag}
use Rattle.ia32_semantics.proofs.EffectLemmas.{or_true}
use Rattle.ia32_semantics.proofs.WithinLemmas.{Within, within_gives, within_faults, within_bind, within_register, within_flag, within_byte, within_choice}

-- -- Registers and flags in lists

abbrev pub in_tables : List Reg → List Flag → Location → Bool
in_tables regs flags (InRegister n) = has_register regs n
in_tables regs flags (InFlag n) = has_flag flags n
in_tables regs flags (AtByte a) = true

pub record HasAll (regs some : List Reg) : Type 0 where
  pub each : (n : ℕ) → has_register some n ≡ true → has_register regs n ≡ true

pub has_self : (regs : List Reg) → HasAll regs regs
has_self regs = record { each = λ n e. e }

pub has_front : (regs a b : List Reg) → HasAll regs (a ++ b) → HasAll regs a
has_front regs a b all = record { each = λ n e. all.each n (list_any-append (λ r. reg_number r == n) a b ∙ or_left _ _ e) }

pub has_back : (regs a b : List Reg) → HasAll regs (a ++ b) → HasAll regs b
has_back regs a b all = record { each = λ n e. all.each n (list_any-append (λ r. reg_number r == n) a b ∙ or_right _ _ e) }

pub has_first : (regs : List Reg) (r : Reg) (rest : List Reg) → HasAll regs (r ∷ rest) → has_register regs (reg_number r) ≡ true
has_first regs r rest all = all.each (reg_number r) (or_left _ _ (eq-eqb (reg_number r) (reg_number r) refl))

pub has_none : (regs : List Reg) → HasAll regs []
has_none regs = record { each = λ n e. absurd (false≢true e) }

pub has_both : (regs a b : List Reg) → HasAll regs a → HasAll regs b → HasAll regs (a ++ b)
has_both regs a b p q = record { each = λ n e. or_true _ _ (sym (list_any-append (λ r. reg_number r == n) a b) ∙ e) (p.each n) (q.each n) }

-- the registers of a place are among those of its value
pub place_in_value : (regs : List Reg) (width : Width) (o : Option Operand) → HasAll regs (places.value_of o) → HasAll regs (places.place_of width o)
place_in_value regs width None all = all
place_in_value regs B8 (Some (operand.Reg r)) all = all
place_in_value regs W16 (Some (operand.Reg r)) all = all
place_in_value regs D32 (Some (operand.Reg r)) all = has_none regs
place_in_value regs width (Some (operand.High r)) all = all
place_in_value regs width (Some (operand.Imm n)) all = all
place_in_value regs width (Some (operand.Mem m)) all = all

-- -- What is asked for

abbrev pub Anything : {A : Type 0} → A → Type 0
Anything x = Unit {0}

module _ (s : State) (regs : List Reg) (flags : List Flag) where
  abbrev pub R : Location → Bool
  R = in_tables regs flags

  pub one_register : (r : Reg) (f : ℕ → ℕ) → HasAll regs (r ∷ []) → Within s R Anything (register (reg_number r) (λ v. gives (f v)))
  one_register r f all = within_register s R Anything (reg_number r) (λ v. gives (f v)) (has_first regs r [] all) (within_gives s R Anything _ tt)

  pub register_within : (n : ℕ) → has_register regs n ≡ true → Within s R Anything (whole_register n)
  unfolding whole_register
  register_within n has = within_register s R Anything n (λ v. gives v) has (within_gives s R Anything _ tt)

  pub flag_within : (n : ℕ) → has_flag flags n ≡ true → Within s R Anything (flag_value n)
  unfolding flag_value
  flag_within n has = within_flag s R Anything n (λ v. gives v) has (within_gives s R Anything _ tt)

  pub word_within : Within s R Anything any_word
  unfolding any_word
  word_within = within_choice s R Anything (λ v. gives v) (λ v. within_gives s R Anything v tt)

  pub number_within : (n a : ℕ) → Within s R Anything (stored_number n a)
  unfolding stored_number
  number_within zero a = within_gives s R Anything 0 tt
  number_within (suc n) a =
      within_byte s R Anything a _ refl (λ low is.
      within_bind s R Anything Anything (stored_number n (a + 1)) (λ rest. gives (low + 256 * rest)) (number_within n (a + 1)) (λ rest q. within_gives s R Anything _ tt))

  some_register : (r : Option Reg) → HasAll regs (option_to_list r) → Within s R Anything (register_or_zero r)
  unfolding register_or_zero
  some_register None all = within_gives s R Anything 0 tt
  some_register (Some r) all = one_register r (λ v. v) all

  pub address_within : (m : Mem) → HasAll regs (places.address_of m) → Within s R Anything (address m)
  unfolding address
  address_within m all =
      within_bind s R Anything Anything (register_or_zero m.base) _ (some_register m.base (has_front regs (option_to_list m.base) (option_to_list m.index) all)) (λ base q.
      within_bind s R Anything Anything (register_or_zero m.index) _ (some_register m.index (has_back regs (option_to_list m.base) (option_to_list m.index) all)) (λ index q.
      within_gives s R Anything _ tt))

  memory_within : (width : Width) (gs : Bool) (a : ℕ) → Within s R Anything (memory_value width gs a)
  unfolding memory_value
  memory_within width true a = within_bind s R Anything Anything any_word _ word_within (λ word q. within_gives s R Anything _ tt)
  memory_within width false a = number_within (size width) a

  pub value_within : (width : Width) (o : Option Operand) → HasAll regs (places.value_of o) → Within s R Anything (value_of width o)
  unfolding value_of value
  value_within width None all = within_faults s R Anything
  value_within width (Some (operand.Reg r)) all = one_register r (low_part width) all
  value_within width (Some (operand.High r)) all = one_register r _ all
  value_within width (Some (operand.Imm n)) all = within_gives s R Anything _ tt
  value_within width (Some (operand.Mem m)) all =
      within_bind s R Anything Anything (address m) _ (address_within m all) (λ a q. memory_within width m.gs a)

  pub address_of_within : (o : Option Operand) → HasAll regs (places.value_of o) → Within s R Anything (address_of o)
  unfolding address_of
  address_of_within None all = within_faults s R Anything
  address_of_within (Some (operand.Reg r)) all = within_faults s R Anything
  address_of_within (Some (operand.High r)) all = within_faults s R Anything
  address_of_within (Some (operand.Imm n)) all = within_faults s R Anything
  address_of_within (Some (operand.Mem m)) all = address_within m all

-- -- Numbers of a width

pub byte_fits : (width : Width) (n : ℕ) → n < 256 → n < 2 ^ bits width
byte_fits B8 n fits = fits
byte_fits W16 n fits = omega arith
byte_fits D32 n fits = omega arith
