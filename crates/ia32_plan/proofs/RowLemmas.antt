-- The parts of rows that ask for registers and flags alone: they leave words and bytes as they are.
use Rattle.std.proofs.Common.{◌≡◌, ℕ, ◌/◌, ◌==◌, List, [], refl, sym, ap, ◌∙◌}
use Rattle.std.specs.Prelude.{Bool, true, false, Option, Some, None, if◌then◌else◌}
use Rattle.ia32_types.specs.declared.Reg.{Reg}
use Rattle.ia32_types.specs.declared.Width.{Width}
use Rattle.ia32_types.specs.declared.Width.TheVariants.{B8, W16, D32}
use Rattle.ia32_types.specs.declared.Mem.{Mem}
use Rattle.ia32_types.specs.declared.Operand.{Operand}
use Rattle.ia32_types.specs.declared.Operand.TheVariants as operand
use Rattle.ia32_types.specs.declared.Op.{Op}
use Rattle.ia32_types.specs.declared.Op.TheVariants as op
use Rattle.ia32_semantics.specs.State.{State}
use Rattle.ia32_semantics.specs.Reading.{Reading, gives, faults, register, flag, ◌>>=◌}
use Rattle.ia32_semantics.specs.Effects.{Effect}
use Rattle.ia32_semantics.specs.Operands.{whole_register, flag_value, register_or_zero, address, address_of, store, store_to, condition_flags, condition}
use Rattle.ia32_semantics.specs.Strings.{movs_effects, stos_effects, repeated, string_effects}
use Rattle.ia32_semantics.specs.Rows.{carry_in, dividend_halves, quotient_or_fault, immediate, extra_bytes}
use Rattle.ia32_plan.specs.Told.{told, with_words, given_by_registers}
use Rattle.ia32_plan.proofs.ToldLemmas.{then_told, told_bind, then_given, given_bind}

-- a reading asks for registers and flags alone
record IsPlain {A : Type 0} (t : Reading A) : Type 0 where
  told_is : (s : State) (words asked : List ℕ) → told t s words asked ≡ with_words (given_by_registers t s) words asked

plain_gives : {A : Type 0} (x : A) → IsPlain (gives x)
plain_gives x = record { told_is = λ s words asked. refl }

plain_faults : {A : Type 0} → IsPlain {A = A} faults
plain_faults = record { told_is = λ s words asked. refl }

plain_register : {A : Type 0} (n : ℕ) (k : ℕ → Reading A) → ((v : ℕ) → IsPlain (k v)) → IsPlain (register n k)
plain_register n k each = record { told_is = λ s words asked. (each (s.registers n)).told_is s words asked }

plain_flag : {A : Type 0} (n : ℕ) (k : Bool → Reading A) → ((v : Bool) → IsPlain (k v)) → IsPlain (flag n k)
plain_flag n k each = record { told_is = λ s words asked. (each (s.flags n)).told_is s words asked }

plain_if : {A : Type 0} (b : Bool) (t u : Reading A) → IsPlain t → IsPlain u → IsPlain (if b then t else u)
plain_if true t u p q = p
plain_if false t u p q = q

then_plain : {A B : Type 0} (given : Option A) (k : A → Reading B) (s : State) (words asked : List ℕ) → ((x : A) → IsPlain (k x))
    → then_told (with_words given words asked) (λ x left more. told (k x) s left more)
    ≡ with_words (then_given given (λ x. given_by_registers (k x) s)) words asked
then_plain None k s words asked each = refl
then_plain (Some x) k s words asked each = (each x).told_is s words asked

plain_bind : {A B : Type 0} (t : Reading A) (k : A → Reading B) → IsPlain t → ((x : A) → IsPlain (k x)) → IsPlain (t >>= k)
plain_bind t k first each = record {
  told_is = λ s words asked.
      told_bind t k s words asked
      ∙ ap (λ o. then_told o (λ x left more. told (k x) s left more)) (first.told_is s words asked)
      ∙ then_plain (given_by_registers t s) k s words asked each
      ∙ ap (λ o. with_words o words asked) (sym (given_bind t k s));
}

-- -- Registers and flags

plain_whole : (n : ℕ) → IsPlain (whole_register n)
unfolding whole_register
plain_whole n = plain_register n _ (λ v. plain_gives v)

pub told_register : (n : ℕ) (s : State) (words asked : List ℕ) → told (whole_register n) s words asked ≡ Some (s.registers n, words, asked)
unfolding whole_register
told_register n s words asked = refl

plain_flag_value : (n : ℕ) → IsPlain (flag_value n)
unfolding flag_value
plain_flag_value n = plain_flag n _ (λ v. plain_gives v)

plain_carry : (o : Op) → IsPlain (carry_in o)
unfolding carry_in
plain_carry op.Adc = plain_flag_value 0
plain_carry op.Sbb = plain_flag_value 0
plain_carry _ = plain_gives false

pub told_carry : (o : Op) (s : State) (words asked : List ℕ) → told (carry_in o) s words asked ≡ with_words (given_by_registers (carry_in o) s) words asked
told_carry o s words asked = (plain_carry o).told_is s words asked

-- -- Operands

plain_register_or_zero : (r : Option Reg) → IsPlain (register_or_zero r)
unfolding register_or_zero
plain_register_or_zero None = plain_gives 0
plain_register_or_zero (Some r) = plain_register _ _ (λ v. plain_gives v)

plain_address : (m : Mem) → IsPlain (address m)
unfolding address
plain_address m =
    plain_bind (register_or_zero m.base) _ (plain_register_or_zero m.base)
    (λ base. plain_bind (register_or_zero m.index) _ (plain_register_or_zero m.index) (λ index. plain_gives _))

pub told_address : (m : Mem) (s : State) (words asked : List ℕ) → told (address m) s words asked ≡ with_words (given_by_registers (address m) s) words asked
told_address m s words asked = (plain_address m).told_is s words asked

plain_address_of : (o : Option Operand) → IsPlain (address_of o)
unfolding address_of
plain_address_of None = plain_faults
plain_address_of (Some (operand.Reg r)) = plain_faults
plain_address_of (Some (operand.High r)) = plain_faults
plain_address_of (Some (operand.Imm n)) = plain_faults
plain_address_of (Some (operand.Mem m)) = plain_address m

pub told_address_of : (o : Option Operand) (s : State) (words asked : List ℕ)
    → told (address_of o) s words asked ≡ with_words (given_by_registers (address_of o) s) words asked
told_address_of o s words asked = (plain_address_of o).told_is s words asked

plain_store : (width : Width) (o : Operand) (v : ℕ) → IsPlain (store width o v)
unfolding store
plain_store width (operand.Reg r) v = plain_gives _
plain_store width (operand.High r) v = plain_gives _
plain_store width (operand.Imm n) v = plain_faults
plain_store width (operand.Mem m) v = plain_if m.gs _ _ plain_faults (plain_bind (address m) _ (plain_address m) (λ a. plain_gives _))

plain_store_to : (width : Width) (o : Option Operand) (v : ℕ) → IsPlain (store_to width o v)
unfolding store_to
plain_store_to width None v = plain_faults
plain_store_to width (Some o) v = plain_store width o v

pub told_store_to : (width : Width) (o : Option Operand) (v : ℕ) (s : State) (words asked : List ℕ)
    → told (store_to width o v) s words asked ≡ with_words (given_by_registers (store_to width o v) s) words asked
told_store_to width o v s words asked = (plain_store_to width o v).told_is s words asked

-- -- Conditions

plain_condition_flags : (n : ℕ) → IsPlain (condition_flags n)
unfolding condition_flags
plain_condition_flags n =
    plain_if (n == 0) _ _ (plain_flag 4 _ (λ of. plain_gives _))
    (plain_if (n == 1) _ _ (plain_flag 0 _ (λ cf. plain_gives _))
    (plain_if (n == 2) _ _ (plain_flag 2 _ (λ zf. plain_gives _))
    (plain_if (n == 3) _ _ (plain_flag 0 _ (λ cf. plain_flag 2 _ (λ zf. plain_gives _)))
    (plain_if (n == 4) _ _ (plain_flag 3 _ (λ sf. plain_gives _))
    (plain_if (n == 5) _ _ (plain_flag 1 _ (λ pf. plain_gives _))
    (plain_if (n == 6) _ _ (plain_flag 3 _ (λ sf. plain_flag 4 _ (λ of. plain_gives _)))
    (plain_flag 2 _ (λ zf. plain_flag 3 _ (λ sf. plain_flag 4 _ (λ of. plain_gives _))))))))))

plain_condition : (c : ℕ) → IsPlain (condition c)
unfolding condition
plain_condition c = plain_bind (condition_flags (c / 2)) _ (plain_condition_flags (c / 2)) (λ f. plain_gives _)

pub told_condition : (c : ℕ) (s : State) (words asked : List ℕ) → told (condition c) s words asked ≡ with_words (given_by_registers (condition c) s) words asked
told_condition c s words asked = (plain_condition c).told_is s words asked

-- -- Quotients

plain_halves : (width : Width) → IsPlain (dividend_halves width)
unfolding dividend_halves
plain_halves B8 = plain_bind (whole_register 0) _ (plain_whole 0) (λ a. plain_gives _)
plain_halves W16 = plain_bind (whole_register 0) _ (plain_whole 0) (λ a. plain_bind (whole_register 2) _ (plain_whole 2) (λ d. plain_gives _))
plain_halves D32 = plain_bind (whole_register 0) _ (plain_whole 0) (λ a. plain_bind (whole_register 2) _ (plain_whole 2) (λ d. plain_gives _))

pub told_halves : (width : Width) (s : State) (words asked : List ℕ)
    → told (dividend_halves width) s words asked ≡ with_words (given_by_registers (dividend_halves width) s) words asked
told_halves width s words asked = (plain_halves width).told_is s words asked

pub told_quotient : (q : Option (ℕ × ℕ)) (s : State) (words asked : List ℕ) → told (quotient_or_fault q) s words asked ≡ with_words q words asked
unfolding quotient_or_fault
told_quotient None s words asked = refl
told_quotient (Some q) s words asked = refl

-- -- Numbers of operands

plain_immediate : (o : Option Operand) → IsPlain (immediate o)
unfolding immediate
plain_immediate None = plain_faults
plain_immediate (Some (operand.Reg r)) = plain_faults
plain_immediate (Some (operand.High r)) = plain_faults
plain_immediate (Some (operand.Imm n)) = plain_gives n
plain_immediate (Some (operand.Mem m)) = plain_faults

pub told_immediate : (o : Option Operand) (s : State) (words asked : List ℕ)
    → told (immediate o) s words asked ≡ with_words (given_by_registers (immediate o) s) words asked
told_immediate o s words asked = (plain_immediate o).told_is s words asked

plain_extra : (o : Option Operand) → IsPlain (extra_bytes o)
unfolding extra_bytes
plain_extra None = plain_gives 0
plain_extra (Some o) = plain_immediate (Some o)

pub told_extra : (o : Option Operand) (s : State) (words asked : List ℕ)
    → told (extra_bytes o) s words asked ≡ with_words (given_by_registers (extra_bytes o) s) words asked
told_extra o s words asked = (plain_extra o).told_is s words asked

-- -- Strings

plain_movs : (z n : ℕ) → IsPlain (movs_effects z n)
unfolding movs_effects
plain_movs z n =
    plain_bind (flag_value 5) _ (plain_flag_value 5)
    (λ down. plain_bind (whole_register 6) _ (plain_whole 6) (λ from. plain_bind (whole_register 7) _ (plain_whole 7) (λ to. plain_gives _)))

plain_stos : (z n : ℕ) → IsPlain (stos_effects z n)
unfolding stos_effects
plain_stos z n =
    plain_bind (flag_value 5) _ (plain_flag_value 5)
    (λ down. plain_bind (whole_register 0) _ (plain_whole 0) (λ value. plain_bind (whole_register 7) _ (plain_whole 7) (λ to. plain_gives _)))

plain_string : (rep : Bool) (effects : ℕ → Reading (List Effect)) → ((n : ℕ) → IsPlain (effects n)) → IsPlain (string_effects rep effects)
unfolding repeated
plain_string false effects each = each 1
plain_string true effects each =
    plain_bind (whole_register 1) _ (plain_whole 1)
    (λ n. plain_if (n == 0) _ _ (plain_gives []) (plain_bind (effects n) _ (each n) (λ done. plain_gives _)))

pub told_movs : (rep : Bool) (z : ℕ) (s : State) (words asked : List ℕ)
    → told (string_effects rep (movs_effects z)) s words asked ≡ with_words (given_by_registers (string_effects rep (movs_effects z)) s) words asked
told_movs rep z s words asked = (plain_string rep (movs_effects z) (plain_movs z)).told_is s words asked

pub told_stos : (rep : Bool) (z : ℕ) (s : State) (words asked : List ℕ)
    → told (string_effects rep (stos_effects z)) s words asked ≡ with_words (given_by_registers (string_effects rep (stos_effects z)) s) words asked
told_stos rep z s words asked = (plain_string rep (stos_effects z) (plain_stos z)).told_is s words asked
