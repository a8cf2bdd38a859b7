-- Products, quotients, shifts and string instructions keep to their tables, and so does every row.
use Rattle.std.proofs.Common.{◌≡◌, ℕ, zero, suc, List, [], ◌∷◌, ◌++◌, refl, sym, ap, ◌∙◌}
use Rattle.std.specs.Prelude.{Bool, true, false, ◌||◌, ◌==◌, Option, Some, None}
use Rattle.std.proofs.lemmas.Bool.{false≢true}
use Rattle.std.proofs.Math.Bool.{or-false}
use Rattle.ia32_types.specs.declared.Reg.{Reg}
use Rattle.ia32_types.specs.declared.Reg.TheVariants.{Eax, Ecx, Edx, Esi, Edi}
use Rattle.ia32_types.specs.declared.Flag.{Flag}
use Rattle.ia32_types.specs.declared.Flag.TheVariants.{Df}
use Rattle.ia32_types.specs.declared.Width.{Width}
use Rattle.ia32_types.specs.declared.Width.TheVariants.{B8, W16, D32}
use Rattle.ia32_types.specs.declared.Operand.{Operand}
use Rattle.ia32_types.specs.declared.Instr.{Instr}
use Rattle.ia32_types.specs.Places as places
use Rattle.ia32_types.specs.Places.{op_reads, op_writes, op_flag_reads, op_flag_writes}
use Rattle.ia32_semantics.specs.declared.flags.FlagsOut.{FlagsOut}
use Rattle.ia32_semantics.specs.Product.{product_flags}
use Rattle.ia32_semantics.specs.Division.{division_flags}
use Rattle.ia32_semantics.specs.State.{State, Location, InRegister, InFlag}
use Rattle.ia32_semantics.specs.Reading.{Reading}
use Rattle.ia32_semantics.specs.Effects.{Effect, Whole, sets, effects_write, effects_take}
use Rattle.ia32_semantics.specs.Outcome.{Outcome}
use Rattle.ia32_semantics.specs.Operands.{bits, whole_register, flag_value, value_of, store_to, any_flags, flag_effects}
use Rattle.ia32_semantics.specs.Strings.{copied, filled, stepped, movs_effects, stos_effects, repeated}
use Rattle.ia32_semantics.specs.Rows.{product_undefined, settled, halves, multiplied, multiplied_into, dividend_halves, quotient_effects, quotient_or_fault, divided, strung}
use Rattle.ia32_semantics.specs.Laws.{has_register, has_flag}
use Rattle.ia32_semantics.proofs.WithinLemmas.{Within, within_gives, within_faults, within_bind, within_if}
use Rattle.ia32_semantics.proofs.OperandLemmas.{in_tables, HasAll, has_first, has_none, has_both, Anything, register_within, flag_within, value_within}
use Rattle.ia32_semantics.proofs.ChangeLemmas.{Changes, none, changes_both, Stored, store_within, AreDrawn, flags_change, flags_within}
use Rattle.ia32_semantics.proofs.TableLemmas.{Meets, exactly, FlagsOf, stored_and_turned, done_with}

-- -- All five flags

pub closed : (a b c d e : Bool) → (a || (b || (c || (d || e)))) ≡ (a || (b || (c || (d || (e || false)))))
closed a b c d e = ap (λ v. a || (b || (c || (d || v)))) (sym (or-false e))

-- where each of the five is drawn or set
all_five : (g : FlagsOut) → AreDrawn division_flags g → FlagsOf places.arithmetic_flags (flag_effects g)
unfolding division_flags
all_five g drawn =
    let all = flags_change division_flags g drawn in
    record { registers = all.registers; flags = λ n. all.flags n ∙ closed (0 == n) (1 == n) (2 == n) (3 == n) (4 == n); takes = all.takes }

product_drawn : (w : ℕ) (signed : Bool) (a b : ℕ) (drawn : FlagsOut) → AreDrawn product_undefined drawn → AreDrawn division_flags (settled drawn (product_flags w signed a b))
unfolding division_flags product_flags
product_drawn w signed a b drawn is = record { cf = (_, refl); pf = is.pf; zf = is.zf; sf = is.sf; of = (_, refl) }

halves_change : (width : Width) (low high : ℕ) → Changes (has_register (places.product_writes width)) none (places.product_reads width) (halves width low high)
halves_change B8 low high = record { registers = λ n. refl; flags = λ n. refl; takes = λ n e. e }
halves_change W16 low high = record { registers = λ n. refl; flags = λ n. refl; takes = λ n e. e }
halves_change D32 low high = record { registers = λ n. refl; flags = λ n. refl; takes = λ n e. absurd (false≢true e) }

quotient_changes : (width : Width) (q r : ℕ) → Changes (has_register (places.quotient_places width)) none (places.quotient_places width) (quotient_effects width q r)
quotient_changes B8 q r = record { registers = λ n. two_once (0 == n); flags = λ n. refl; takes = λ n e. sym (two_once (0 == n)) ∙ e }
  where
    two_once : (b : Bool) → (b || (b || false)) ≡ (b || false)
    two_once true = refl
    two_once false = refl
quotient_changes W16 q r = record { registers = λ n. refl; flags = λ n. refl; takes = λ n e. e }
quotient_changes D32 q r = record { registers = λ n. refl; flags = λ n. refl; takes = λ n e. absurd (false≢true e) }

reads_eax : (regs : List Reg) (width : Width) → HasAll regs (places.product_reads width) → has_register regs 0 ≡ true
reads_eax regs B8 all = has_first regs Eax [] all
reads_eax regs W16 all = has_first regs Eax (Edx ∷ []) all
reads_eax regs D32 all = has_first regs Eax [] all

module _ (s : State) (reads : List Reg) (asked : List Flag) (x y : Bool) where
  abbrev pub R : Location → Bool
  R = in_tables reads asked

  pub multiplied_within : (signed : Bool) (i : Instr) → HasAll reads (places.value_of i.dst) → HasAll reads (places.product_reads i.width)
      → Within s R (Meets reads (places.product_writes i.width) places.arithmetic_flags x y) (multiplied signed i)
  multiplied_within signed i first factors =
      within_bind s R (AreDrawn product_undefined) _ (any_flags product_undefined) _ (flags_within s R product_undefined) (λ drawn is.
      within_bind s R Anything _ (whole_register 0) _ (register_within s reads asked 0 (reads_eax reads i.width factors)) (λ a q.
      within_bind s R Anything _ (value_of i.width i.dst) _ (value_within s reads asked i.width i.dst first) (λ b q.
      within_gives s R (Meets reads (places.product_writes i.width) places.arithmetic_flags x y) _
      (exactly reads (places.product_writes i.width) places.arithmetic_flags x y _ _ (places.product_reads i.width ++ []) _
      (changes_both (has_register (places.product_writes i.width)) none none (has_flag places.arithmetic_flags) (places.product_reads i.width) [] _ _
      (halves_change i.width _ _) (all_five _ (product_drawn (bits i.width) signed _ _ drawn is)))
      (λ n. or-false _) (λ n. refl) (has_both reads (places.product_reads i.width) [] factors (has_none reads))))))

  pub multiplied_into_within : (i : Instr) (first second : Option Operand) → HasAll reads (places.place_of i.width i.dst)
      → HasAll reads (places.value_of first) → HasAll reads (places.value_of second)
      → Within s R (Meets reads (places.target_of i.dst) places.arithmetic_flags x y) (multiplied_into i first second)
  multiplied_into_within i first second place one two =
      within_bind s R (AreDrawn product_undefined) _ (any_flags product_undefined) _ (flags_within s R product_undefined) (λ drawn is.
      within_bind s R Anything _ (value_of i.width first) _ (value_within s reads asked i.width first one) (λ a q.
      within_bind s R Anything _ (value_of i.width second) _ (value_within s reads asked i.width second two) (λ b q.
      within_bind s R (Stored i.width i.dst) _ (store_to i.width i.dst _) _ (store_within s reads asked i.width i.dst _ place) (λ stored changes.
      stored_and_turned s reads asked x y i places.arithmetic_flags stored _ place changes (all_five _ (product_drawn (bits i.width) true a b drawn is))))))

  pub halves_within : (width : Width) → HasAll reads (places.quotient_places width) → Within s R Anything (dividend_halves width)
  unfolding dividend_halves
  halves_within B8 all =
      within_bind s R Anything Anything (whole_register 0) _ (register_within s reads asked 0 (has_first reads Eax [] all)) (λ a q. within_gives s R Anything _ tt)
  halves_within W16 all =
      within_bind s R Anything Anything (whole_register 0) _ (register_within s reads asked 0 (has_first reads Eax (Edx ∷ []) all)) (λ a q.
      within_bind s R Anything Anything (whole_register 2) _ (register_within s reads asked 2 (all.each 2 refl)) (λ d q. within_gives s R Anything _ tt))
  halves_within D32 all =
      within_bind s R Anything Anything (whole_register 0) _ (register_within s reads asked 0 (has_first reads Eax (Edx ∷ []) all)) (λ a q.
      within_bind s R Anything Anything (whole_register 2) _ (register_within s reads asked 2 (all.each 2 refl)) (λ d q. within_gives s R Anything _ tt))

  pub quotient_within : (q : Option (ℕ × ℕ)) → Within s R Anything (quotient_or_fault q)
  unfolding quotient_or_fault
  quotient_within None = within_faults s R Anything
  quotient_within (Some q) = within_gives s R Anything q tt

  pub divided_within : (signed : Bool) (i : Instr) → HasAll reads (places.value_of i.dst) → HasAll reads (places.quotient_places i.width)
      → Within s R (Meets reads (places.quotient_places i.width) places.arithmetic_flags x y) (divided signed i)
  divided_within signed i first parts_all =
      within_bind s R (AreDrawn division_flags) _ (any_flags division_flags) _ (flags_within s R division_flags) (λ drawn is.
      within_bind s R Anything _ (value_of i.width i.dst) _ (value_within s reads asked i.width i.dst first) (λ by q.
      within_bind s R Anything _ (dividend_halves i.width) _ (halves_within i.width parts_all) (λ parts q.
      within_bind s R Anything _ (quotient_or_fault _) _ (quotient_within _) (λ done q.
      within_gives s R (Meets reads (places.quotient_places i.width) places.arithmetic_flags x y) _
      (exactly reads (places.quotient_places i.width) places.arithmetic_flags x y _ _ (places.quotient_places i.width ++ []) _
      (changes_both (has_register (places.quotient_places i.width)) none none (has_flag places.arithmetic_flags) (places.quotient_places i.width) [] _ _
      (quotient_changes i.width _ _) (all_five drawn is))
      (λ n. or-false _) (λ n. refl) (has_both reads (places.quotient_places i.width) [] parts_all (has_none reads)))))))

-- -- Strings

copied_writes : (down : Bool) (z n from to k : ℕ) → effects_write (copied down z n from to) (InRegister k) ≡ false
copied_writes down z zero from to k = refl
copied_writes down z (suc n) from to k = copied_writes down z n (stepped down z 1 from) (stepped down z 1 to) k

copied_turns : (down : Bool) (z n from to k : ℕ) → effects_write (copied down z n from to) (InFlag k) ≡ false
copied_turns down z zero from to k = refl
copied_turns down z (suc n) from to k = copied_turns down z n (stepped down z 1 from) (stepped down z 1 to) k

copied_takes : (down : Bool) (z n from to k : ℕ) → effects_take (copied down z n from to) (InRegister k) ≡ false
copied_takes down z zero from to k = refl
copied_takes down z (suc n) from to k = copied_takes down z n (stepped down z 1 from) (stepped down z 1 to) k

filled_writes : (down : Bool) (z v n to k : ℕ) → effects_write (filled down z v n to) (InRegister k) ≡ false
filled_writes down z v zero to k = refl
filled_writes down z v (suc n) to k = filled_writes down z v n (stepped down z 1 to) k

filled_turns : (down : Bool) (z v n to k : ℕ) → effects_write (filled down z v n to) (InFlag k) ≡ false
filled_turns down z v zero to k = refl
filled_turns down z v (suc n) to k = filled_turns down z v n (stepped down z 1 to) k

filled_takes : (down : Bool) (z v n to k : ℕ) → effects_take (filled down z v n to) (InRegister k) ≡ false
filled_takes down z v zero to k = refl
filled_takes down z v (suc n) to k = filled_takes down z v n (stepped down z 1 to) k

-- no register, and no flag
abbrev IsMemoryAlone : List Effect → Type 0
IsMemoryAlone es = Changes none none [] es

-- pointers after effects on memory alone
then_pointers : (regs : List Reg) (es ps : List Effect) → IsMemoryAlone es → Changes (has_register regs) none [] ps → Changes (has_register regs) none [] (es ++ ps)
then_pointers regs es ps memory pointers = changes_both none (has_register regs) none none [] [] es ps memory pointers

pub rotated : (a b c : Bool) → ((a || (b || false)) || (c || false)) ≡ (c || (a || (b || false)))
rotated true true true = refl
rotated true true false = refl
rotated true false true = refl
rotated true false false = refl
rotated false true true = refl
rotated false true false = refl
rotated false false true = refl
rotated false false false = refl

pub turned_round : (a c : Bool) → ((a || false) || (c || false)) ≡ (c || (a || false))
turned_round true true = refl
turned_round true false = refl
turned_round false true = refl
turned_round false false = refl

module _ (s : State) (reads : List Reg) (y : Bool) where
  abbrev pub D : Location → Bool
  D = in_tables reads (Df ∷ [])

  pub movs_within : (z n : ℕ) → has_register reads 6 ≡ true → has_register reads 7 ≡ true → Within s D (Changes (has_register (Esi ∷ Edi ∷ [])) none []) (movs_effects z n)
  unfolding movs_effects
  movs_within z n si di =
      within_bind s D Anything _ (flag_value 5) _ (flag_within s reads (Df ∷ []) 5 refl) (λ down q.
      within_bind s D Anything _ (whole_register 6) _ (register_within s reads (Df ∷ []) 6 si) (λ from q.
      within_bind s D Anything _ (whole_register 7) _ (register_within s reads (Df ∷ []) 7 di) (λ to q.
      within_gives s D (Changes (has_register (Esi ∷ Edi ∷ [])) none []) _
      (then_pointers (Esi ∷ Edi ∷ []) (copied down z n from to) _
      (record { registers = copied_writes down z n from to; flags = copied_turns down z n from to; takes = λ k e. sym (copied_takes down z n from to k) ∙ e })
      (record { registers = λ k. refl; flags = λ k. refl; takes = λ k e. e })))))

  pub stos_within : (z n : ℕ) → has_register reads 0 ≡ true → has_register reads 7 ≡ true → Within s D (Changes (has_register (Edi ∷ [])) none []) (stos_effects z n)
  unfolding stos_effects
  stos_within z n ax di =
      within_bind s D Anything _ (flag_value 5) _ (flag_within s reads (Df ∷ []) 5 refl) (λ down q.
      within_bind s D Anything _ (whole_register 0) _ (register_within s reads (Df ∷ []) 0 ax) (λ v q.
      within_bind s D Anything _ (whole_register 7) _ (register_within s reads (Df ∷ []) 7 di) (λ to q.
      within_gives s D (Changes (has_register (Edi ∷ [])) none []) _
      (then_pointers (Edi ∷ []) (filled down z v n to) _
      (record { registers = filled_writes down z v n to; flags = filled_turns down z v n to; takes = λ k e. sym (filled_takes down z v n to k) ∙ e })
      (record { registers = λ k. refl; flags = λ k. refl; takes = λ k e. e })))))

  -- one round
  pub once_within : (regs : List Reg) (effects : Reading (List Effect)) (i : Instr) → Within s D (Changes (has_register regs) none []) effects
      → Within s D (Meets reads regs [] true y) (strung effects i)
  once_within regs effects i each =
      within_bind s D (Changes (has_register regs) none []) _ effects _ each (λ es changes.
      done_with s reads (Df ∷ []) true y regs [] [] _ changes (has_none reads))

  -- ECX rounds, or none
  pub repeated_within : (regs : List Reg) (effects : ℕ → Reading (List Effect)) (i : Instr) → has_register reads 1 ≡ true
      → ((n : ℕ) → (has_register regs n || (1 == n || false)) ≡ (1 == n || has_register regs n))
      → ((n : ℕ) → Within s D (Changes (has_register regs) none []) (effects n))
      → Within s D (Meets reads (Ecx ∷ regs) [] false y) (strung (repeated effects) i)
  unfolding repeated
  repeated_within regs effects i cx order each =
      within_bind s D (λ es. Meets reads (Ecx ∷ regs) [] false y (outcome_of es)) _ (repeated effects) _
      (within_bind s D Anything _ (whole_register 1) _ (register_within s reads (Df ∷ []) 1 cx) (λ n q.
      within_if s D (λ es. Meets reads (Ecx ∷ regs) [] false y (outcome_of es)) (n == 0) _ _
      (λ none_left. within_gives s D (λ es. Meets reads (Ecx ∷ regs) [] false y (outcome_of es)) [] (record {
        takes = λ k e. absurd (false≢true e);
        registers = λ k e. absurd (false≢true e);
        flags = λ k e. absurd (false≢true e);
        all_registers = λ sure. absurd (false≢true sure);
        all_flags = λ sure k e. e;
      }))
      (λ some. within_bind s D (Changes (has_register regs) none []) _ (effects n) _ (each n) (λ es changes.
      within_gives s D (λ es. Meets reads (Ecx ∷ regs) [] false y (outcome_of es)) _
      (exactly reads (Ecx ∷ regs) [] false y _ _ [] _
      (changes_both (has_register regs) (has_register (Ecx ∷ [])) none none [] [] es (sets Whole 1 0 ∷ []) changes
      (record { registers = λ k. refl; flags = λ k. refl; takes = λ k e. e }))
      order (λ k. refl) (has_none reads))))))
      (λ es meets. within_gives s D (Meets reads (Ecx ∷ regs) [] false y) _ (record {
        takes = meets.takes;
        registers = meets.registers;
        flags = meets.flags;
        all_registers = meets.all_registers;
        all_flags = meets.all_flags;
      }))
    where
      outcome_of : List Effect → Outcome
      outcome_of es = Rattle.ia32_semantics.specs.Outcome.going es 0
