-- Shifts and rotates keep to their tables: by 0 they write no flag, and else those of the table.
use Rattle.std.proofs.Common.{◌≡◌, ℕ, ◌%◌, List, [], ◌∷◌, refl, sym, ap, ◌∙◌, arith}
use Rattle.std.specs.Prelude.{Bool, true, false, ◌||◌, ◌&&◌, ◌==◌, if◌then◌else◌, nat_le, Option, Some, None}
use Rattle.std.proofs.lemmas.Bool.{false≢true}
use Rattle.std.proofs.Math.Bool.{or-false}
use Rattle.ia32_types.specs.declared.Reg.{Reg}
use Rattle.ia32_types.specs.declared.Flag.{Flag}
use Rattle.ia32_types.specs.declared.Flag.TheVariants.{Cf, Of}
use Rattle.ia32_types.specs.declared.Width.TheVariants.{B8}
use Rattle.ia32_types.specs.declared.Operand.{Operand}
use Rattle.ia32_types.specs.declared.Operand.TheVariants as operand
use Rattle.ia32_types.specs.declared.Op.{Op}
use Rattle.ia32_types.specs.declared.Op.TheVariants as op
use Rattle.ia32_types.specs.declared.Instr.{Instr}
use Rattle.ia32_types.specs.Places as places
use Rattle.ia32_semantics.specs.declared.flags.FlagOut.TheVariants as out
use Rattle.ia32_semantics.specs.Alu.{result_flags, kept_flags}
use Rattle.ia32_semantics.specs.Shift.{masked, set_by_one, set_below, left_flags, right_flags, signed_flags, rotated_left_flags, rotated_right_flags, shift_flags, shift_flags_by}
use Rattle.ia32_semantics.specs.State.{State, Location}
use Rattle.ia32_semantics.specs.Operands.{bits, value, value_of, store_to, any_flags, flag_effects}
use Rattle.ia32_semantics.specs.Rows.{shifted}
use Rattle.ia32_semantics.specs.Laws.{has_register, has_flag, is_number}
use Rattle.ia32_semantics.proofs.EffectLemmas.{by_test}
use Rattle.ia32_semantics.proofs.WithinLemmas.{Within, within_gives, within_bind}
use Rattle.ia32_semantics.proofs.OperandLemmas.{in_tables, HasAll, has_none, has_both, place_in_value, Anything, value_within}
use Rattle.ia32_semantics.proofs.ChangeLemmas.{none, changes_both, Stored, store_within, AreDrawn, outs, flags_change, flags_within, is_written}
use Rattle.ia32_semantics.proofs.TableLemmas.{Meets}

-- the flags that a shift or a rotate writes by a count other than 0
abbrev pub shift_table : Op → List Flag
shift_table op.Rol = Cf ∷ Of ∷ []
shift_table op.Ror = Cf ∷ Of ∷ []
shift_table _ = places.arithmetic_flags

pub data IsShiftOp : Op → Type 0 where
  shl : IsShiftOp op.Shl
  shr : IsShiftOp op.Shr
  sar : IsShiftOp op.Sar
  rol : IsShiftOp op.Rol
  ror : IsShiftOp op.Ror

one_written : (n : ℕ) (v : Bool) → is_written (set_by_one n v) ≡ true
one_written n v = by_test (n == 1)
    (λ e. ap (λ b. is_written (if b then out.Set v else out.Undefined)) e)
    (λ e. ap (λ b. is_written (if b then out.Set v else out.Undefined)) e)

below_written : (w n : ℕ) (v : Bool) → is_written (set_below w n v) ≡ true
below_written w n v = by_test (nat_le w n)
    (λ e. ap (λ b. is_written (if b then out.Undefined else out.Set v)) e)
    (λ e. ap (λ b. is_written (if b then out.Undefined else out.Set v)) e)

-- all five, where carry and overflow are written
five_outs : (carry overflow : Bool) (n : ℕ) → carry ≡ true → overflow ≡ true
    → ((carry && 0 == n) || ((true && 1 == n) || ((true && 2 == n) || ((true && 3 == n) || (overflow && 4 == n))))) ≡ has_flag places.arithmetic_flags n
five_outs carry overflow n c o =
    ap (λ b. (b && 0 == n) || (1 == n || (2 == n || (3 == n || (overflow && 4 == n))))) c
    ∙ ap (λ b. 0 == n || (1 == n || (2 == n || (3 == n || (b && 4 == n))))) o
    ∙ ap (λ b. 0 == n || (1 == n || (2 == n || (3 == n || b)))) (sym (or-false (4 == n)))

two_outs : (overflow : Bool) (n : ℕ) → overflow ≡ true → (0 == n || (overflow && 4 == n)) ≡ has_flag (Cf ∷ Of ∷ []) n
two_outs overflow n o = ap (λ b. 0 == n || (b && 4 == n)) o ∙ ap (λ b. 0 == n || b) (sym (or-false (4 == n)))

by_outs : (w a n k : ℕ) {o : Op} → IsShiftOp o → outs (shift_flags_by w o a n) k ≡ has_flag (shift_table o) k
unfolding shift_flags_by left_flags right_flags signed_flags rotated_left_flags rotated_right_flags result_flags kept_flags
by_outs w a n k shl = five_outs _ _ k (below_written w n _) (one_written n _)
by_outs w a n k shr = five_outs _ _ k (below_written w n _) (one_written n _)
by_outs w a n k sar = five_outs _ _ k refl (one_written n _)
by_outs w a n k rol = two_outs _ k (one_written n _)
by_outs w a n k ror = two_outs _ k (one_written n _)

-- by a count whose masked value is 0, and by others
pub none_by_zero : (w : ℕ) (o : Op) (a count k : ℕ) → (masked count == 0) ≡ true → outs (shift_flags w o a count) k ≡ false
unfolding shift_flags kept_flags
none_by_zero w o a count k e = ap (λ b. outs (if b then kept_flags else shift_flags_by w o a (masked count)) k) e

pub all_by_others : (w : ℕ) (o : Op) (a count k : ℕ) → IsShiftOp o → (masked count == 0) ≡ false → outs (shift_flags w o a count) k ≡ has_flag (shift_table o) k
unfolding shift_flags
all_by_others w o a count k is e =
    ap (λ b. outs (if b then kept_flags else shift_flags_by w o a (masked count)) k) e ∙ by_outs w a (masked count) k is

-- -- The count

-- what is known of the count that an operand gives
abbrev pub IsCountOf : Option Operand → ℕ → Type 0
IsCountOf (Some (operand.Imm n)) count = (masked count == 0) ≡ (n % 32 == 0)
IsCountOf _ count = Unit {0}

low_bits : (n : ℕ) → n % 256 % 32 ≡ n % 32
low_bits n = omega arith

pub count_within : (s : State) (reads : List Reg) (asked : List Flag) (o : Option Operand) → HasAll reads (places.value_of o)
    → Within s (in_tables reads asked) (IsCountOf o) (value_of B8 o)
unfolding value_of value
count_within s reads asked None all = value_within s reads asked B8 None all
count_within s reads asked (Some (operand.Reg r)) all = value_within s reads asked B8 (Some (operand.Reg r)) all
count_within s reads asked (Some (operand.High r)) all = value_within s reads asked B8 (Some (operand.High r)) all
count_within s reads asked (Some (operand.Imm n)) all = within_gives s (in_tables reads asked) (IsCountOf (Some (operand.Imm n))) (n % 256) (ap (λ m. m == 0) (low_bits n))
count_within s reads asked (Some (operand.Mem m)) all = value_within s reads asked B8 (Some (operand.Mem m)) all

-- flags that are written are in the table
in_shift_table : (o : Option Operand) (w : ℕ) (op : Op) (a count k : ℕ) → IsShiftOp op → IsCountOf o count
    → outs (shift_flags w op a count) k ≡ true → has_flag (places.unless_by_zero o (shift_table op)) k ≡ true
in_shift_table o w op a count k is counted e =
    by_test (masked count == 0)
    (λ zero. absurd (false≢true (sym (none_by_zero w op a count k zero) ∙ e)))
    (λ some. table o counted some)
  where
    written : (masked count == 0) ≡ false → has_flag (shift_table op) k ≡ true
    written some = sym (all_by_others w op a count k is some) ∙ e

    table : (o : Option Operand) → IsCountOf o count → (masked count == 0) ≡ false → has_flag (places.unless_by_zero o (shift_table op)) k ≡ true
    table None counted some = written some
    table (Some (operand.Reg r)) counted some = written some
    table (Some (operand.High r)) counted some = written some
    table (Some (operand.Imm n)) counted some = ap (λ b. has_flag (if b then [] else shift_table op) k) (sym counted ∙ some) ∙ written some
    table (Some (operand.Mem m)) counted some = written some

-- the table's are written where the count is a number
all_of_table : (o : Option Operand) (w : ℕ) (op : Op) (a count k : ℕ) → IsShiftOp op → IsCountOf o count
    → is_number o ≡ true → has_flag (places.unless_by_zero o (shift_table op)) k ≡ true → outs (shift_flags w op a count) k ≡ true
all_of_table None w op a count k is counted number e = absurd (false≢true number)
all_of_table (Some (operand.Reg r)) w op a count k is counted number e = absurd (false≢true number)
all_of_table (Some (operand.High r)) w op a count k is counted number e = absurd (false≢true number)
all_of_table (Some (operand.Imm n)) w op a count k is counted number e =
    by_test (masked count == 0)
    (λ zero. absurd (false≢true (sym (ap (λ b. has_flag (if b then [] else shift_table op) k) (sym counted ∙ zero)) ∙ e)))
    (λ some. all_by_others w op a count k is some ∙ sym (ap (λ b. has_flag (if b then [] else shift_table op) k) (sym counted ∙ some)) ∙ e)
all_of_table (Some (operand.Mem m)) w op a count k is counted number e = absurd (false≢true number)

pub shifted_within : (s : State) (reads : List Reg) (asked : List Flag) (x : Bool) (o : Op) (i : Instr) → IsShiftOp o
    → HasAll reads (places.value_of i.dst) → HasAll reads (places.value_of i.src)
    → Within s (in_tables reads asked) (Meets reads (places.target_of i.dst) (places.unless_by_zero i.src (shift_table o)) x (is_number i.src)) (shifted o i)
shifted_within s reads asked x o i is first second =
    within_bind s R (IsCountOf i.src) _ (value_of B8 i.src) _ (count_within s reads asked i.src second) (λ count counted.
    within_bind s R Anything _ (value_of i.width i.dst) _ (value_within s reads asked i.width i.dst first) (λ a q.
    within_bind s R (AreDrawn (shift_flags (bits i.width) o a count)) _ (any_flags (shift_flags (bits i.width) o a count)) _ (flags_within s R (shift_flags (bits i.width) o a count)) (λ flags drawn.
    within_bind s R (Stored i.width i.dst) _ (store_to i.width i.dst _) _ (store_within s reads asked i.width i.dst _ place) (λ stored changes.
    let both = changes_both (has_register (places.target_of i.dst)) none none (outs (shift_flags (bits i.width) o a count)) (places.place_of i.width i.dst) [] stored (flag_effects flags)
    changes (flags_change (shift_flags (bits i.width) o a count) flags drawn) in
    within_gives s R (Meets reads (places.target_of i.dst) (places.unless_by_zero i.src (shift_table o)) x (is_number i.src)) _ (record {
      takes = λ n e. (has_both reads (places.place_of i.width i.dst) [] place (has_none reads)).each n (both.takes n e);
      registers = λ n e. sym (both.registers n ∙ or-false _) ∙ e;
      flags = λ n e. in_shift_table i.src (bits i.width) o a count n is counted (sym (both.flags n) ∙ e);
      all_registers = λ sure n e. both.registers n ∙ or-false _ ∙ e;
      all_flags = λ sure n e. both.flags n ∙ all_of_table i.src (bits i.width) o a count n is counted sure e;
    })))))
  where
    R : Location → Bool
    R = in_tables reads asked

    place : HasAll reads (places.place_of i.width i.dst)
    place = place_in_value reads i.width i.dst first
