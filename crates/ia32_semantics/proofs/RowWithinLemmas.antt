-- Every row keeps to its tables, and so does every step of an instruction.
use Rattle.std.proofs.Common.{◌≡◌, ℕ, List, [], ◌∷◌, ◌++◌, refl, sym, ap, subst, ◌∙◌}
use Rattle.std.specs.Prelude.{Bool, true, false, not, ◌&&◌, ◌==◌, Option, Some, None}
use Rattle.std.proofs.lemmas.Bool.{false≢true}
use Rattle.ia32_types.specs.declared.Reg.{Reg}
use Rattle.ia32_types.specs.declared.Reg.TheVariants.{Eax, Ecx, Esp, Ebp, Esi, Edi}
use Rattle.ia32_types.specs.declared.Flag.{Flag}
use Rattle.ia32_types.specs.declared.Flag.TheVariants.{Cf, Pf, Zf, Sf, Of}
use Rattle.ia32_types.specs.declared.Operand.{Operand}
use Rattle.ia32_types.specs.declared.Operand.TheVariants as operand
use Rattle.ia32_types.specs.declared.Op.{Op}
use Rattle.ia32_types.specs.declared.Op.TheVariants as op
use Rattle.ia32_types.specs.declared.Instr.{Instr}
use Rattle.ia32_types.specs.Places as places
use Rattle.ia32_types.specs.Places.{op_reads, op_writes, op_flag_reads, op_flag_writes, registers_read, flags_read}
use Rattle.ia32_semantics.specs.Alu.{alu_flags, sum_flags, difference_flags, logic_flags, result_flags, kept_flags}
use Rattle.ia32_semantics.specs.State.{State, Location, InRegister, InFlag}
use Rattle.ia32_semantics.specs.Machine.{Occurrence}
use Rattle.ia32_semantics.specs.Reading.{Reading, gives, asks, outcome}
use Rattle.ia32_semantics.specs.Effects.{effects_take}
use Rattle.ia32_semantics.specs.Outcome.{Outcome}
use Rattle.ia32_types.specs.Numbers.{size}
use Rattle.ia32_semantics.specs.Operands.{bits, flag_effects}
use Rattle.ia32_semantics.specs.Strings.{movs_effects, stos_effects}
use Rattle.ia32_semantics.specs.Product.{extended}
use Rattle.ia32_semantics.specs.Rows.{carry_in, row, imul}
use Rattle.ia32_semantics.specs.Step.{Act, act_row, outcome_takes, reads}
use Rattle.ia32_semantics.specs.Laws.{has_flag, is_repeated, is_shift, is_number, StepsKeepToTables}
use Rattle.ia32_semantics.proofs.EffectLemmas.{or_true}
use Rattle.ia32_semantics.proofs.WithinLemmas.{Within, within_gives, within_faults}
use Rattle.ia32_semantics.proofs.OperandLemmas.{in_tables, HasAll, has_self, has_front, has_back, has_none, place_in_value, Anything, flag_within}
use Rattle.ia32_semantics.proofs.ChangeLemmas.{takes_no_flag}
use Rattle.ia32_semantics.proofs.TableLemmas.{Meets, FlagsOf, computed_within, compared_within, altered_within, moved_within, addressed_within, exchanged_within, tested_within, chosen_within, branched_within, jumped_within, idle_within, pushed_within, called_within, popped_within, left_within, returned_within, sign_within, spread_within, direction_within}
use Rattle.ia32_semantics.proofs.TableRowLemmas.{multiplied_within, multiplied_into_within, divided_within, movs_within, stos_within, once_within, repeated_within, rotated, turned_round}
use Rattle.ia32_semantics.proofs.ShiftTableLemmas.{shl, shr, sar, rol, ror, shifted_within}
use Rattle.ia32_semantics.proofs.StepLemmas.{writes_are}

-- -- The flags of arithmetic

abbrev FourFlags : List Flag
FourFlags = Pf ∷ Zf ∷ Sf ∷ Of ∷ []

add_flags : (w a b : ℕ) (c : Bool) → FlagsOf places.arithmetic_flags (flag_effects (alu_flags w op.Add a b c))
unfolding alu_flags sum_flags result_flags
add_flags w a b c = record { registers = λ n. refl; flags = λ n. refl; takes = λ n e. e }

or_flags : (w a b : ℕ) (c : Bool) → FlagsOf places.arithmetic_flags (flag_effects (alu_flags w op.Or a b c))
unfolding alu_flags logic_flags result_flags
or_flags w a b c = record { registers = λ n. refl; flags = λ n. refl; takes = λ n e. e }

adc_flags : (w a b : ℕ) (c : Bool) → FlagsOf places.arithmetic_flags (flag_effects (alu_flags w op.Adc a b c))
unfolding alu_flags sum_flags result_flags
adc_flags w a b c = record { registers = λ n. refl; flags = λ n. refl; takes = λ n e. e }

sbb_flags : (w a b : ℕ) (c : Bool) → FlagsOf places.arithmetic_flags (flag_effects (alu_flags w op.Sbb a b c))
unfolding alu_flags difference_flags result_flags
sbb_flags w a b c = record { registers = λ n. refl; flags = λ n. refl; takes = λ n e. e }

and_flags : (w a b : ℕ) (c : Bool) → FlagsOf places.arithmetic_flags (flag_effects (alu_flags w op.And a b c))
unfolding alu_flags logic_flags result_flags
and_flags w a b c = record { registers = λ n. refl; flags = λ n. refl; takes = λ n e. e }

sub_flags : (w a b : ℕ) (c : Bool) → FlagsOf places.arithmetic_flags (flag_effects (alu_flags w op.Sub a b c))
unfolding alu_flags difference_flags result_flags
sub_flags w a b c = record { registers = λ n. refl; flags = λ n. refl; takes = λ n e. e }

xor_flags : (w a b : ℕ) (c : Bool) → FlagsOf places.arithmetic_flags (flag_effects (alu_flags w op.Xor a b c))
unfolding alu_flags logic_flags result_flags
xor_flags w a b c = record { registers = λ n. refl; flags = λ n. refl; takes = λ n e. e }

cmp_flags : (w a b : ℕ) (c : Bool) → FlagsOf places.arithmetic_flags (flag_effects (alu_flags w op.Cmp a b c))
unfolding alu_flags difference_flags result_flags
cmp_flags w a b c = record { registers = λ n. refl; flags = λ n. refl; takes = λ n e. e }

test_flags : (w a b : ℕ) (c : Bool) → FlagsOf places.arithmetic_flags (flag_effects (alu_flags w op.Test a b c))
unfolding alu_flags logic_flags result_flags
test_flags w a b c = record { registers = λ n. refl; flags = λ n. refl; takes = λ n e. e }

inc_flags : (w a b : ℕ) (c : Bool) → FlagsOf FourFlags (flag_effects (alu_flags w op.Inc a b c))
unfolding alu_flags sum_flags result_flags
inc_flags w a b c = record { registers = λ n. refl; flags = λ n. refl; takes = λ n e. e }

dec_flags : (w a b : ℕ) (c : Bool) → FlagsOf FourFlags (flag_effects (alu_flags w op.Dec a b c))
unfolding alu_flags difference_flags result_flags
dec_flags w a b c = record { registers = λ n. refl; flags = λ n. refl; takes = λ n e. e }

not_flags : (w a b : ℕ) (c : Bool) → FlagsOf [] (flag_effects (alu_flags w op.Not a b c))
unfolding alu_flags kept_flags
not_flags w a b c = record { registers = λ n. refl; flags = λ n. refl; takes = λ n e. e }

neg_flags : (w a b : ℕ) (c : Bool) → FlagsOf places.arithmetic_flags (flag_effects (alu_flags w op.Neg a b c))
unfolding alu_flags difference_flags result_flags
neg_flags w a b c = record { registers = λ n. refl; flags = λ n. refl; takes = λ n e. e }

-- -- Rows

no_carry : (s : State) (reads : List Reg) (asked : List Flag) → Within s (in_tables reads asked) Anything (gives false)
no_carry s reads asked = within_gives s (in_tables reads asked) Anything false tt

abbrev value : Option Operand → List Reg
value o = places.value_of o

-- the registers of two operands whose values are read, and of a place and a value
abbrev two : Option Operand → Option Operand → List Reg
two a b = places.value_of a ++ places.value_of b

fst : (a b : List Reg) → HasAll (a ++ b) a
fst a b = has_front (a ++ b) a b (has_self (a ++ b))

snd : (a b : List Reg) → HasAll (a ++ b) b
snd a b = has_back (a ++ b) a b (has_self (a ++ b))

-- all flags of a condition are asked for
all_flags : (c n : ℕ) → has_flag (places.cond_flags c) n ≡ true → has_flag (places.cond_flags c) n ≡ true
all_flags c n e = e

imul_within : (s : State) (i : Instr) (src : Option Operand) (imm : Option ℕ) (x y : Bool)
    → Within s (in_tables (places.imul_reads i.width i.dst src imm) [])
    (Meets (places.imul_reads i.width i.dst src imm) (places.imul_writes i.width i.dst src) places.arithmetic_flags x y) (imul i src imm)
imul_within s i None imm x y =
    multiplied_within s (places.value_of i.dst ++ places.product_reads i.width) [] x y true i (fst (value i.dst) (places.product_reads i.width)) (snd (value i.dst) (places.product_reads i.width))
imul_within s i (Some src) None x y =
    multiplied_into_within s (two i.dst (Some src)) [] x y i i.dst (Some src)
    (place_in_value (two i.dst (Some src)) i.width i.dst (fst (value i.dst) (value (Some src)))) (fst (value i.dst) (value (Some src))) (snd (value i.dst) (value (Some src)))
imul_within s i (Some src) (Some imm) x y =
    multiplied_into_within s (places.place_of i.width i.dst ++ places.value_of (Some src)) [] x y i (Some src) (Some (operand.Imm imm))
    (fst (places.place_of i.width i.dst) (value (Some src))) (snd (places.place_of i.width i.dst) (value (Some src))) (has_none _)

abbrev RowMeets : State → Op → Instr → Type 0
RowMeets s o i =
    Within s (in_tables (op_reads o i.width i.dst i.src i.imm) (op_flag_reads o))
    (Meets (op_reads o i.width i.dst i.src i.imm) (op_writes o i.width i.dst i.src) (op_flag_writes o i.src) (not (is_repeated o)) (not (is_shift o && not (is_number i.src))))
    (row o i)

-- flags are sure where the count of a shift is a number
not_not : (b : Bool) → not (not b) ≡ b
not_not true = refl
not_not false = refl

shift_sure : (s : State) (i : Instr) (o : Op) (turned : List Flag) {t : Reading Outcome}
    → Within s (in_tables (two i.dst i.src) []) (Meets (two i.dst i.src) (places.target_of i.dst) (places.unless_by_zero i.src turned) true (is_number i.src)) t
    → Within s (in_tables (two i.dst i.src) []) (Meets (two i.dst i.src) (places.target_of i.dst) (places.unless_by_zero i.src turned) true (not (not (is_number i.src)))) t
shift_sure s i o turned {t} h =
    subst (λ b. Within s (in_tables (two i.dst i.src) []) (Meets (two i.dst i.src) (places.target_of i.dst) (places.unless_by_zero i.src turned) true b) t)
    (sym (not_not (is_number i.src))) h

pub row_within : (s : State) (o : Op) (i : Instr) → RowMeets s o i
unfolding row op_reads op_writes op_flag_reads op_flag_writes carry_in
row_within s op.Add i = computed_within s (two i.dst i.src) [] true true op.Add i places.arithmetic_flags (fst (value i.dst) (value i.src)) (snd (value i.dst) (value i.src)) (no_carry s (two i.dst i.src) []) (add_flags (bits i.width))
row_within s op.Or i = computed_within s (two i.dst i.src) [] true true op.Or i places.arithmetic_flags (fst (value i.dst) (value i.src)) (snd (value i.dst) (value i.src)) (no_carry s (two i.dst i.src) []) (or_flags (bits i.width))
row_within s op.Adc i = computed_within s (two i.dst i.src) (Cf ∷ []) true true op.Adc i places.arithmetic_flags (fst (value i.dst) (value i.src)) (snd (value i.dst) (value i.src)) (flag_within s (two i.dst i.src) (Cf ∷ []) 0 refl) (adc_flags (bits i.width))
row_within s op.Sbb i = computed_within s (two i.dst i.src) (Cf ∷ []) true true op.Sbb i places.arithmetic_flags (fst (value i.dst) (value i.src)) (snd (value i.dst) (value i.src)) (flag_within s (two i.dst i.src) (Cf ∷ []) 0 refl) (sbb_flags (bits i.width))
row_within s op.And i = computed_within s (two i.dst i.src) [] true true op.And i places.arithmetic_flags (fst (value i.dst) (value i.src)) (snd (value i.dst) (value i.src)) (no_carry s (two i.dst i.src) []) (and_flags (bits i.width))
row_within s op.Sub i = computed_within s (two i.dst i.src) [] true true op.Sub i places.arithmetic_flags (fst (value i.dst) (value i.src)) (snd (value i.dst) (value i.src)) (no_carry s (two i.dst i.src) []) (sub_flags (bits i.width))
row_within s op.Xor i = computed_within s (two i.dst i.src) [] true true op.Xor i places.arithmetic_flags (fst (value i.dst) (value i.src)) (snd (value i.dst) (value i.src)) (no_carry s (two i.dst i.src) []) (xor_flags (bits i.width))
row_within s op.Cmp i = compared_within s (two i.dst i.src) [] true true op.Cmp i places.arithmetic_flags (fst (value i.dst) (value i.src)) (snd (value i.dst) (value i.src)) (cmp_flags (bits i.width))
row_within s op.Mov i = moved_within s (places.place_of i.width i.dst ++ places.value_of i.src) [] true true i i.width (λ v. v) (fst (places.place_of i.width i.dst) (value i.src)) (snd (places.place_of i.width i.dst) (value i.src))
row_within s op.Lea i = addressed_within s (places.place_of i.width i.dst ++ places.value_of i.src) [] true true i (fst (places.place_of i.width i.dst) (value i.src)) (snd (places.place_of i.width i.dst) (value i.src))
row_within s op.Push i = pushed_within s (value i.dst ++ (Esp ∷ [])) [] true true i (fst (value i.dst) (Esp ∷ [])) ((snd (value i.dst) (Esp ∷ [])).each 4 refl)
row_within s op.Pop i = popped_within s (places.place_of i.width i.dst ++ (Esp ∷ [])) [] true true i (fst (places.place_of i.width i.dst) (Esp ∷ [])) ((snd (places.place_of i.width i.dst) (Esp ∷ [])).each 4 refl)
row_within s op.Xchg i = exchanged_within s (two i.dst i.src) [] true true i (fst (value i.dst) (value i.src)) (snd (value i.dst) (value i.src))
row_within s op.Test i = compared_within s (two i.dst i.src) [] true true op.Test i places.arithmetic_flags (fst (value i.dst) (value i.src)) (snd (value i.dst) (value i.src)) (test_flags (bits i.width))
row_within s op.Inc i = altered_within s (value i.dst) [] true true op.Inc i FourFlags (has_self (value i.dst)) (inc_flags (bits i.width))
row_within s op.Dec i = altered_within s (value i.dst) [] true true op.Dec i FourFlags (has_self (value i.dst)) (dec_flags (bits i.width))
row_within s op.Not i = altered_within s (value i.dst) [] true true op.Not i [] (has_self (value i.dst)) (not_flags (bits i.width))
row_within s op.Neg i = altered_within s (value i.dst) [] true true op.Neg i places.arithmetic_flags (has_self (value i.dst)) (neg_flags (bits i.width))
row_within s op.Mul i = multiplied_within s (value i.dst ++ places.product_reads i.width) [] true true false i (fst (value i.dst) (places.product_reads i.width)) (snd (value i.dst) (places.product_reads i.width))
row_within s op.Imul i = imul_within s i i.src i.imm true true
row_within s op.Shl i = shift_sure s i op.Shl places.arithmetic_flags (shifted_within s (two i.dst i.src) [] true op.Shl i shl (fst (value i.dst) (value i.src)) (snd (value i.dst) (value i.src)))
row_within s op.Shr i = shift_sure s i op.Shr places.arithmetic_flags (shifted_within s (two i.dst i.src) [] true op.Shr i shr (fst (value i.dst) (value i.src)) (snd (value i.dst) (value i.src)))
row_within s op.Sar i = shift_sure s i op.Sar places.arithmetic_flags (shifted_within s (two i.dst i.src) [] true op.Sar i sar (fst (value i.dst) (value i.src)) (snd (value i.dst) (value i.src)))
row_within s (op.Movzx from) i = moved_within s (places.place_of i.width i.dst ++ places.value_of i.src) [] true true i from (extended false (bits from) (bits i.width)) (fst (places.place_of i.width i.dst) (value i.src)) (snd (places.place_of i.width i.dst) (value i.src))
row_within s (op.Movsx from) i = moved_within s (places.place_of i.width i.dst ++ places.value_of i.src) [] true true i from (extended true (bits from) (bits i.width)) (fst (places.place_of i.width i.dst) (value i.src)) (snd (places.place_of i.width i.dst) (value i.src))
row_within s op.Cwde i = sign_within s (Eax ∷ []) [] true true i refl
row_within s op.Cdq i = spread_within s (Eax ∷ []) [] true true i refl
row_within s op.Leave i = left_within s (Ebp ∷ []) [] true true i refl
row_within s (op.Setcc c) i = tested_within s (places.place_of i.width i.dst) (places.cond_flags c) true true c i (all_flags c) (has_self (places.place_of i.width i.dst))
row_within s op.Call i = called_within s (value i.dst ++ (Esp ∷ [])) [] true true i (fst (value i.dst) (Esp ∷ [])) ((snd (value i.dst) (Esp ∷ [])).each 4 refl)
row_within s op.Ret i = returned_within s (Esp ∷ []) [] true true i refl
row_within s op.Jmp i = jumped_within s (value i.dst) [] true true i (has_self (value i.dst))
row_within s (op.Jcc c) i = branched_within s [] (places.cond_flags c) true true c i (all_flags c)
row_within s op.Nop i = idle_within s [] [] true true i
row_within s op.Endbr32 i = idle_within s [] [] true true i
row_within s op.Hlt i = idle_within s [] [] true true i
row_within s op.Int3 i = within_faults s (in_tables [] []) (Meets [] [] [] true true)
row_within s op.Ud2 i = within_faults s (in_tables [] []) (Meets [] [] [] true true)
row_within s (op.Cmov c) i = chosen_within s (two i.dst i.src) (places.cond_flags c) true true c i (all_flags c) (fst (value i.dst) (value i.src)) (snd (value i.dst) (value i.src))
row_within s op.Rol i = shift_sure s i op.Rol (Cf ∷ Of ∷ []) (shifted_within s (two i.dst i.src) [] true op.Rol i rol (fst (value i.dst) (value i.src)) (snd (value i.dst) (value i.src)))
row_within s op.Ror i = shift_sure s i op.Ror (Cf ∷ Of ∷ []) (shifted_within s (two i.dst i.src) [] true op.Ror i ror (fst (value i.dst) (value i.src)) (snd (value i.dst) (value i.src)))
row_within s op.Div i = divided_within s (value i.dst ++ places.quotient_places i.width) [] true true false i (fst (value i.dst) (places.quotient_places i.width)) (snd (value i.dst) (places.quotient_places i.width))
row_within s op.Idiv i = divided_within s (value i.dst ++ places.quotient_places i.width) [] true true true i (fst (value i.dst) (places.quotient_places i.width)) (snd (value i.dst) (places.quotient_places i.width))
row_within s (op.Movs false) i = once_within s (Esi ∷ Edi ∷ []) true (Esi ∷ Edi ∷ []) (movs_effects (size i.width) 1) i (movs_within s (Esi ∷ Edi ∷ []) true (size i.width) 1 refl refl)
row_within s (op.Movs true) i = repeated_within s (Ecx ∷ Esi ∷ Edi ∷ []) true (Esi ∷ Edi ∷ []) (movs_effects (size i.width)) i refl (λ n. rotated (6 == n) (7 == n) (1 == n)) (λ n. movs_within s (Ecx ∷ Esi ∷ Edi ∷ []) true (size i.width) n refl refl)
row_within s (op.Stos false) i = once_within s (Eax ∷ Edi ∷ []) true (Edi ∷ []) (stos_effects (size i.width) 1) i (stos_within s (Eax ∷ Edi ∷ []) true (size i.width) 1 refl refl)
row_within s (op.Stos true) i = repeated_within s (Eax ∷ Ecx ∷ Edi ∷ []) true (Edi ∷ []) (stos_effects (size i.width)) i refl (λ n. turned_round (7 == n) (1 == n)) (λ n. stos_within s (Eax ∷ Ecx ∷ Edi ∷ []) true (size i.width) n refl refl)
row_within s op.Cld i = direction_within s [] [] true true i false
row_within s op.Std i = direction_within s [] [] true true i true

-- -- Steps

-- what it takes, beside what it asks for, and what a reader would read
taken_registers : (o : Occurrence Act) (done : Outcome) (s : State) (n : ℕ) → outcome_takes (Some (done, [])) s (InRegister n) ≡ true → effects_take done.effects (InRegister n) ≡ true
taken_registers o done s n e = or_true (effects_take done.effects (InRegister n)) _ e (λ t. t) (λ r. absurd (false≢true (sym (and_false done.reads_all) ∙ r)))
  where
    and_false : (b : Bool) → (b && false) ≡ false
    and_false true = refl
    and_false false = refl

taken_flags : (o : Occurrence Act) (done : Outcome) (s : State) (n : ℕ) → outcome_takes (Some (done, [])) s (InFlag n) ≡ true → ⊥
taken_flags o done s n e = or_true (effects_take done.effects (InFlag n)) _ e (λ t. false≢true (sym (takes_no_flag done.effects n) ∙ t)) (λ r. false≢true (sym (and_false done.reads_all) ∙ r))
  where
    and_false : (b : Bool) → (b && false) ≡ false
    and_false true = refl
    and_false false = refl

kept_sure : (o : Op) (src : Option Operand) → (is_shift o && not (is_number src)) ≡ false → not (is_shift o && not (is_number src)) ≡ true
kept_sure o src e = ap not e

pub steps_keep_to_tables : StepsKeepToTables
steps_keep_to_tables image i o act st =
    let all = row_within o.before i.op i in
    let done_is : outcome (row i.op i) o.before o.choices ≡ Some (st.done, []) = ap (λ a. outcome (act_row a) o.before o.choices) (sym act) ∙ st.row in
    let meets = all.given o.choices [] st.done done_is in
    let asked_as : (l : Location) → asks (act_row o.act) o.before o.choices l ≡ asks (row i.op i) o.before o.choices l =
    λ l. ap (λ a. asks (act_row a) o.before o.choices l) act in
    record {
      reads_registers = λ n e. or_true (asks (act_row o.act) o.before o.choices (InRegister n)) _ e
          (λ a. all.asked o.choices (InRegister n) (sym (asked_as (InRegister n)) ∙ a))
          (λ t. meets.takes n (taken_registers o st.done o.before n (sym (ap (λ r. outcome_takes r o.before (InRegister n)) st.row) ∙ t)));
      reads_flags = λ n e. or_true (asks (act_row o.act) o.before o.choices (InFlag n)) _ e
          (λ a. all.asked o.choices (InFlag n) (sym (asked_as (InFlag n)) ∙ a))
          (λ t. absurd (taken_flags o st.done o.before n (sym (ap (λ r. outcome_takes r o.before (InFlag n)) st.row) ∙ t)));
      writes_registers = λ n e. meets.registers n (sym (writes_are image o st (InRegister n)) ∙ e);
      writes_flags = λ n e. meets.flags n (sym (writes_are image o st (InFlag n)) ∙ e);
      always_registers = λ sure n e. writes_are image o st (InRegister n) ∙ meets.all_registers (ap not sure) n e;
      always_flags = λ sure n e. writes_are image o st (InFlag n) ∙ meets.all_flags (kept_sure i.op i.src sure) n e;
    }
