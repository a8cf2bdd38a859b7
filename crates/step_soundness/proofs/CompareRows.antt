-- Comparisons, and what is remembered of them.
use Rattle.std.proofs.Common.{◌≡◌, ◌⊎◌, inl, inr, ℕ, ◌+◌, ◌-◌, ◌%◌, ◌^◌, ◌<◌, ◌==◌, ◌&&◌, Bool, true, false, cond, List, [], ◌++◌, Option, Some, None, refl, sym, ◌∙◌, ap, subst, arith, lit<, pos}
use Rattle.std.proofs.lemmas.Bool.{false≢true, cond_both, eqb-true, ltb-true}
use Rattle.std.proofs.lemmas.Option.{none-some, same_Some}
use Rattle.std.specs.Int.Bits.{and_self}
use Rattle.std.specs.Prelude.{nat_lt, ◌+ℤ◌, bit_and}
use Rattle.std.specs.Option.{option_map}
use Rattle.image_map.specs.declared.image.Image.{Image}
use Rattle.image_map.specs.declared.region.Cell.{Cell}
use Rattle.ia32_types.specs.declared.Mem.{Mem}
use Rattle.ia32_types.specs.declared.Op.{Op}
use Rattle.ia32_types.specs.declared.Op.TheVariants as op
use Rattle.ia32_types.specs.declared.Instr.{Instr}
use Rattle.ia32_types.specs.declared.Operand.{Operand}
use Rattle.ia32_types.specs.declared.Operand.TheVariants as operand
use Rattle.ia32_types.specs.declared.Width.{Width}
use Rattle.ia32_types.specs.declared.Width.TheVariants.{B8, W16, D32}
use Rattle.ia32_types.specs.Numbers.{reg_number}
use Rattle.ia32_types.specs.Operands.{IsPlace, IsValue, HasTwo, HasOneAddress}
use Rattle.ia32_semantics.specs.declared.flags.FlagsOut.{FlagsOut}
use Rattle.ia32_semantics.specs.declared.flags.FlagOut.TheVariants as out
use Rattle.ia32_semantics.specs.Alu.{differ, sign, alu_flags, difference, difference_flags, difference_borrows, difference_overflows, logic_flags, result_flags, has_even_parity}
use Rattle.ia32_semantics.specs.CallModel.{AreActivations}
use Rattle.ia32_semantics.specs.Effects.{all_changed}
use Rattle.vset.specs.World.{base_of}
use Rattle.ia32_semantics.specs.Operands as machine
use Rattle.ia32_semantics.specs.Operands.{bits, low_part, flag_effects as machine_flags}
use Rattle.ia32_semantics.specs.Outcome.{going}
use Rattle.ia32_semantics.specs.Rows as rows
use Rattle.ia32_semantics.specs.Rows.{next_place, goes_on}
use Rattle.ia32_semantics.specs.State.{State, bytes_at, little_endian}
use Rattle.ia32_semantics.proofs.ChangeLemmas.{flags_write_none}
use Rattle.alocs.specs.Cells.{Division}
use Rattle.strided.specs.Interval.{Interval, IsMember, one}
use Rattle.strided.proofs.SumLemmas.{member_one}
use Rattle.vset.specs.declared.part.Part.{Part}
use Rattle.vset.specs.declared.facts.CmpPlace.{CmpPlace}
use Rattle.vset.specs.declared.facts.CmpPlace.TheVariants as place
use Rattle.vset.specs.Values.{Values, Top, only_number}
use Rattle.abs_alu.specs.Computed.{is_computed, computed_flags}
use Rattle.abs_alu.specs.Operands.{takes_second}
use Rattle.abs_alu.specs.Runs.{AreAfter}
use Rattle.abs_alu.proofs.WordLemmas.{only_has, signed_is}
use Rattle.abs_cmp.specs.Facts.{IsCompared, all_set}
use Rattle.abs_semantics.specs.States.{AbsState, HasCanonical}
use Rattle.abs_semantics.specs.StandsFor.{StandsFor, world_of, flags_of, HoldsFact}
use Rattle.abs_semantics.specs.Ownership.{IsKnown, IsRange, IsOwnedAt}
use Rattle.abs_semantics.specs.Operands.{address}
use Rattle.abs_semantics.specs.Ranges.{lone_range}
use Rattle.abs_semantics.specs.Touching.{cell_at}
use Rattle.abs_semantics.proofs.FirstLemmas.{bytes_mapped}
use Rattle.abs_semantics.proofs.ReadLemmas.{lone_owned, cell_at_is}
use Rattle.abs_steps.specs.Accesses.{of_operand}
use Rattle.abs_steps.specs.Effects.{all_done}
use Rattle.abs_steps.specs.Results.{are_one_register, keeps_flags}
use Rattle.abs_steps.specs.Rows as steps
use Rattle.abs_steps.specs.Rows.{view_of, flag_effects, is_remembered, as_place, place_at, place_of, fact_on, learned, learned_by}
use Rattle.abs_steps.specs.Views.{value_of}
use Rattle.step_soundness.specs.Accessed.{IsAccessed}
use Rattle.step_soundness.specs.Terms.{IsOperand, address_in}
use Rattle.step_soundness.proofs.ArithmeticLaws.{AreTaken}
use Rattle.step_soundness.proofs.CoreLaws.{owns_after, learns_stand}
use Rattle.step_soundness.proofs.EndLaws.{accessed_left, accessed_right, done_append, flags_take}
use Rattle.step_soundness.proofs.FlagLaws.{all_flagged, flags_changed, flags_by}
use Rattle.step_soundness.proofs.GivenLaws.{Gives, gives_bind, gives_this}
use Rattle.step_soundness.proofs.OperandLaws.{registers_hold}
use Rattle.step_soundness.proofs.OperationLaws.{with_operands}
use Rattle.step_soundness.proofs.PointerLaws.{address_has}
use Rattle.step_soundness.proofs.ReadLaws.{IsRead, IsSelf}
use Rattle.step_soundness.proofs.RowLaws.{Row, Has, read_gives, value_canonical, arithmetic_flags, spelt_value, spelt_place}
use Rattle.step_soundness.proofs.SinceLaws.{since_itself}

-- -- Flags of comparisons

-- the flags after a comparison
compared_all : (m n : ℕ) (f : ℕ → Bool) → alu_flags 32 op.Cmp m n false ≡ all_set (flags_by (all_flagged (alu_flags 32 op.Cmp m n false) f))
unfolding alu_flags difference_flags result_flags
compared_all m n f = refl

-- a test of a word by itself leaves the flags of its comparison with 0
tested_all : (m : ℕ) (f : ℕ → Bool) → m < 4294967296 → alu_flags 32 op.Cmp m 0 false ≡ all_set (flags_by (all_flagged (alu_flags 32 op.Test m m false) f))
unfolding alu_flags difference_flags logic_flags result_flags difference difference_borrows difference_overflows
tested_all m f lt =
    let word_ : (m + 4294967296 - 0 - 0) % 4294967296 ≡ m = omega (arith, lt) in
    let own : bit_and m m ≡ m = and_self m in
    let result : (m + 4294967296 - 0 - 0) % 4294967296 ≡ bit_and m m = word_ ∙ sym own in
    λ i. record {
      cf = out.Set (no_borrow m i);
      pf = out.Set (has_even_parity (result i));
      zf = out.Set (result i == 0);
      sf = out.Set (sign 32 (result i));
      of = out.Set (no_overflow m ((m + 4294967296 - 0 - 0) % 4294967296) word_ i);
    }
  where
    no_borrow : (m : ℕ) → nat_lt m (0 + 0) ≡ false
    no_borrow m = by (nat_lt m (0 + 0)) refl
      where
        by : (b : Bool) → nat_lt m (0 + 0) ≡ b → b ≡ false
        by true e = let lt : m < 0 + 0 = ltb-true m (0 + 0) e in absurd (omega (arith, lt))
        by false e = refl

    no_overflow : (m r : ℕ) → r ≡ m → (differ (sign 32 m) (sign 32 0) && differ (sign 32 m) (sign 32 r)) ≡ false
    no_overflow m r e = ap (λ k. differ (sign 32 m) (sign 32 0) && differ (sign 32 m) (sign 32 k)) e ∙ by (sign 32 m) (differ (sign 32 m) (sign 32 0))
      where
        by : (b c : Bool) → (c && differ b b) ≡ false
        by true true = refl
        by true false = refl
        by false true = refl
        by false false = refl

module _ (image : Image) (lane p : ℕ) (a : AbsState) (s : State) (d : Division) (known_ : IsKnown image lane a p s) (form : HasCanonical a) where
  abbrev val : Width → Operand → Values
  val width o = value_of (view_of a d p) width (Some o)

  -- -- What is remembered

  -- the state after the flags were written
  abbrev after : FlagsOut → State
  after o = record s { flags = all_flagged o s.flags }

  module _ (o : FlagsOut) (m : ℕ) (bound : Interval) (is : IsCompared bound m (flags_of (after o))) where
    -- a word of memory that is remembered
    cell_fact : (x : Mem) → IsOperand (operand.Mem x) → option_map little_endian (bytes_at s.memory (address_in s x) 4) ≡ Some m
        → (r : Option Part) → lone_range a p (address a x) 4 ≡ r → (q : CmpPlace) → place_at d r ≡ Some q → HoldsFact lane (after o) (Some (fact_on q bound))
    cell_fact x spelt word_ None e q f = absurd (none-some _ f)
    cell_fact x spelt word_ (Some y) e q f = of_word (bytes_at s.memory (address_in s x) 4) refl word_
      where
        of_cell : (bytes : List ℕ) → bytes_at s.memory (address_in s x) 4 ≡ Some bytes → (c : Option Cell) → cell_at d y.region y.si.lo 4 ≡ c → as_place c ≡ Some q → HoldsFact lane (after o) (Some (fact_on q bound))
        of_cell bytes b None g h = absurd (none-some _ h)
        of_cell bytes b (Some c) g h =
            let at_cell = cell_at_is d y.region y.si.lo 4 c g in
            let range : IsRange lane s (address a x) (address_in s x) 4 4 = record {
              word = omega arith;
              member = address_has lane (world_of s) a s (registers_hold image lane a p s d known_ form) x (omega (arith, spelt)) spelt.1;
              some = omega arith;
              within = omega arith;
              mapped = bytes_mapped s.memory (address_in s x) 4 bytes b;
            } in
            let lone = lone_owned image lane a p s known_ (address_in s x) 4 d (address a x) range y e in
            let owned : IsOwnedAt lane s (address_in s x) 4 y = lone.0 in
            subst (λ r. HoldsFact lane (after o) (Some (fact_on r bound))) (same_Some (place.Cell c) q h)
            (record {
              thing = owned.thing;
              at = address_in s x;
              of_thing = record {
                is_in = owned.is_in;
                region = owned.region ∙ sym at_cell.region;
                lies = record {
                  start = owned.reached ∙ ap (λ z. pos (base_of owned.thing) +ℤ z) (lone.1 ∙ sym at_cell.start);
                  end = at_cell.end;
                  owned = λ k lt. owns_after lane a s known_.stands s.registers (all_flagged o s.flags) owned.thing (address_in s x + k) (owned.owned k lt);
                };
              };
              word = m;
              is_word = word_;
              compared = is;
            })

        of_word : (b : Option (List ℕ)) → bytes_at s.memory (address_in s x) 4 ≡ b → option_map little_endian b ≡ Some m → HoldsFact lane (after o) (Some (fact_on q bound))
        of_word None b w = absurd (none-some _ w)
        of_word (Some bytes) b w =
            cond_both (is_remembered y.region) (as_place (cell_at d y.region y.si.lo 4)) None (λ r. r ≡ Some q → HoldsFact lane (after o) (Some (fact_on q bound)))
            (λ yes h. of_cell bytes b (cell_at d y.region y.si.lo 4) refl h) (λ no_ h. absurd (none-some _ h)) f

    memory_fact : (x : Mem) → IsOperand (operand.Mem x) → (gs : Bool) → (gs ≡ false → option_map little_endian (bytes_at s.memory (address_in s x) 4) ≡ Some m)
        → (q : CmpPlace) → cond gs None (place_at d (lone_range a p (address a x) 4)) ≡ Some q → HoldsFact lane (after o) (Some (fact_on q bound))
    memory_fact x spelt true self q f = absurd (none-some _ f)
    memory_fact x spelt false self q f = cell_fact x spelt (self refl) (lone_range a p (address a x) 4) refl q f

    -- the place that was compared holds the fact
    pub place_fact : (x : Operand) → IsOperand x → IsSelf s D32 x m → (q : CmpPlace) → place_of (view_of a d p) (Some x) ≡ Some q → HoldsFact lane (after o) (Some (fact_on q bound))
    place_fact (operand.Reg r) spelt self q f =
        subst (λ q. HoldsFact lane (after o) (Some (fact_on q bound))) (same_Some (place.Reg r) q f) (subst (λ k. IsCompared bound k (flags_of (after o))) self is)
    place_fact (operand.High r) spelt self q f = absurd (none-some _ f)
    place_fact (operand.Imm k) spelt self q f = absurd (none-some _ f)
    place_fact (operand.Mem x) spelt self q f = memory_fact x spelt x.gs self q f

  -- an abstract state that has learned of a place stands for the state after
  learned_stands : (b : AbsState) (o : FlagsOut) → StandsFor lane b (after o) → (q : Option CmpPlace) (bound : Option Interval)
      → ((r : CmpPlace) (x : Interval) → q ≡ Some r → bound ≡ Some x → HoldsFact lane (after o) (Some (fact_on r x))) → StandsFor lane (all_done d image p (learned q bound) b) (after o)
  learned_stands b o stands None bound h = stands
  learned_stands b o stands (Some r) None h = stands
  learned_stands b o stands (Some r) (Some x) h = learns_stand lane d image p b (after o) stands (fact_on r x) (h r x refl refl)

  -- the word that was compared with
  other_is : (y : Operand) (m n : ℕ) (o : FlagsOut) → IsRead lane (world_of s) D32 (val D32 y) n → alu_flags 32 op.Cmp m n false ≡ all_set (flags_of (after o)) → (x : Interval) → only_number (val D32 y) ≡ Some x
      → IsCompared x m (flags_of (after o))
  other_is y m n o hn given x e = by hn.sure
    where
      by : (n < 4294967296) ⊎ ((val D32 y ≡ Top) × (D32 ≡ D32)) → IsCompared x m (flags_of (after o))
      by (inl lt) =
          record { other = n; is_word = lt; within = subst (λ z. IsMember z x) (sym (signed_is n lt)) (only_has lane (world_of s) n lt (val D32 y) x e hn.has); given = given }
      by (inr top) = absurd (none-some x (sym (ap only_number top.0) ∙ e))

  zero_is : (m : ℕ) (o : FlagsOut) → alu_flags 32 op.Cmp m 0 false ≡ all_set (flags_of (after o)) → IsCompared (one (pos 0)) m (flags_of (after o))
  zero_is m o given =
      record { other = 0; is_word = lit< tt; within = subst (λ z. IsMember z (one (pos 0))) (sym (signed_is 0 (lit< tt))) (member_one (pos 0)); given = given }

  abbrev Learns : Op → Width → Operand → Operand → FlagsOut → Type 0
  Learns c width x y o = (b : AbsState) → StandsFor lane b (after o) → StandsFor lane (all_done d image p (learned_by (view_of a d p) c width (Some x) (Some y) (val width y)) b) (after o)

  module _ (x y : Operand) (spelt : IsOperand x) (m n : ℕ) where
    pub cmp_learns : (width : Width) → Has image lane p a s d known_ form width x m → Has image lane p a s d known_ form width y n → Learns op.Cmp width x y (alu_flags (bits width) op.Cmp m n false)
    unfolding learned_by
    cmp_learns B8 hm hn b stands = stands
    cmp_learns W16 hm hn b stands = stands
    cmp_learns D32 hm hn b stands =
        learned_stands b (alu_flags 32 op.Cmp m n false) stands (place_of (view_of a d p) (Some x)) (only_number (val D32 y))
        (λ r z e f. place_fact (alu_flags 32 op.Cmp m n false) m z (other_is y m n (alu_flags 32 op.Cmp m n false) hn.0 (compared_all m n s.flags) z f) x spelt hm.1 r e)

    one_word : (x y : Operand) → are_one_register (Some x) (Some y) ≡ true → IsSelf s D32 x m → IsSelf s D32 y n → (m ≡ n) × (m < 4294967296)
    one_word (operand.Reg r) (operand.Reg q) e f g =
        (f ∙ ap s.registers (eqb-true (reg_number r) (reg_number q) e) ∙ sym g, subst (λ k. k < 4294967296) (sym f) (known_.whole.laid_out.sized.registers (reg_number r)))
    one_word (operand.Reg r) (operand.High q) e f g = absurd (false≢true e)
    one_word (operand.Reg r) (operand.Imm k) e f g = absurd (false≢true e)
    one_word (operand.Reg r) (operand.Mem q) e f g = absurd (false≢true e)
    one_word (operand.High r) y e f g = absurd (false≢true e)
    one_word (operand.Imm r) y e f g = absurd (false≢true e)
    one_word (operand.Mem r) y e f g = absurd (false≢true e)

    pub test_learns : (width : Width) → Has image lane p a s d known_ form width x m → Has image lane p a s d known_ form width y n → Learns op.Test width x y (alu_flags (bits width) op.Test m n false)
    unfolding learned_by
    test_learns B8 hm hn b stands = stands
    test_learns W16 hm hn b stands = stands
    test_learns D32 hm hn b stands =
        cond_both (are_one_register (Some x) (Some y)) (learned (place_of (view_of a d p) (Some x)) (Some (one (pos 0)))) []
        (λ es. StandsFor lane (all_done d image p es b) (after (alu_flags 32 op.Test m n false)))
        (λ same.
        let both = one_word x y same hm.1 hn.1 in
        learned_stands b (alu_flags 32 op.Test m n false) stands (place_of (view_of a d p) (Some x)) (Some (one (pos 0)))
        (λ r z e f.
        let given : alu_flags 32 op.Cmp m 0 false ≡ all_set (flags_of (after (alu_flags 32 op.Test m n false))) =
        subst (λ k. alu_flags 32 op.Cmp m 0 false ≡ all_set (flags_of (after (alu_flags 32 op.Test m k false)))) both.0 (tested_all m s.flags both.1) in
        subst (λ x. HoldsFact lane (after (alu_flags 32 op.Test m n false)) (Some (fact_on r x))) (same_Some (one (pos 0)) z f)
        (place_fact (alu_flags 32 op.Test m n false) m (one (pos 0)) (zero_is m (alu_flags 32 op.Test m n false) given) x spelt hm.1 r e)))
        (λ no_. stands)

  -- -- The rows

  pub compared_goes : (c : Op) → is_computed c ≡ true → takes_second c ≡ true
      → ((width : Width) (m n : ℕ) → alu_flags (bits width) c m n false ≡ computed_flags (bits width) c m n (s.flags 0))
      → ((w : ℕ) (v : Values) → keeps_flags w c v ≡ false)
      → ((x y : Operand) → IsOperand x → (m n : ℕ) (width : Width) → Has image lane p a s d known_ form width x m → Has image lane p a s d known_ form width y n → Learns c width x y (alu_flags (bits width) c m n false))
      → (i : Instr) (dst src : Option Operand) (imm : Option ℕ) → HasTwo (λ x y. IsPlace i.width x × IsValue i.width y × HasOneAddress x y) dst src imm
      → Gives s (IsAccessed lane s (of_operand false a i.width dst ++ of_operand false a i.width src))
      (Row image lane p a s d known_ form i (of_operand false a i.width dst ++ of_operand false a i.width src) [] (steps.compared c (view_of a d p) (with_operands i dst src imm)))
      (rows.compared c (with_operands i dst src imm))
  compared_goes c is two flags_is keeps learns_ i (Some x) (Some y) None fits =
      let reads = of_operand false a i.width (Some x) ++ of_operand false a i.width (Some y) in
      let R = IsAccessed lane s reads in
      let fx = spelt_place i.width x fits.0 in
      let fy = spelt_value i.width y fits.1 in
      gives_bind s R (Has image lane p a s d known_ form i.width x) _ (machine.value_of i.width (Some x)) _
      (read_gives image lane p a s d known_ form R i.width x fx (λ byte h. accessed_left lane s (of_operand false a i.width (Some x)) (of_operand false a i.width (Some y)) byte h)) (λ m hm.
      gives_bind s R (Has image lane p a s d known_ form i.width y) _ (machine.value_of i.width (Some y)) _
      (read_gives image lane p a s d known_ form R i.width y fy (λ byte h. accessed_right lane s (of_operand false a i.width (Some x)) (of_operand false a i.width (Some y)) byte h)) (λ n hn.
      let o = alu_flags (bits i.width) c m n false in
      let flagged = arithmetic_flags image lane p a s d known_ form i.width c is (val i.width x) (val i.width y) (value_canonical image lane p a s d known_ form i.width x fx)
      (value_canonical image lane p a s d known_ form i.width y fy) m n (taken x y m n hm hn) o (λ b now h. subst (λ f. AreAfter f b now) (flags_is i.width m n) h) (λ e. absurd (false≢true (sym (keeps (bits i.width) (val i.width y)) ∙ e))) in
      let flags = flag_effects (view_of a d p) (bits i.width) c (val i.width x) (val i.width y) in
      let more = learned_by (view_of a d p) c i.width (Some x) (Some y) (val i.width y) in
      gives_this s R _ (going (machine_flags o) (next_place i))
      (record {
        is = refl;
        taken = λ byte fit f. absurd (false≢true (sym (flags_take o byte) ∙ f));
        ends = λ fit. record {
          stands = subst (λ e. StandsFor lane e (all_changed (machine_flags o) s)) (sym (done_append d image p flags more a))
              (subst (λ t. StandsFor lane (all_done d image p more (all_done d image p flags a)) t) (sym (flags_changed o s))
              (learns_ x y fx m n i.width hm hn (all_done d image p flags a)
              (subst (λ t. StandsFor lane (all_done d image p flags a) t) (flags_changed o s) (flagged.stands a s (since_itself image lane p a s known_ form)))));
          slots = subst (λ (t : State). AreActivations image t.memory s.slot s.activations) (sym (flags_changed o s)) known_.whole.activations;
          written = λ byte f. absurd (false≢true (sym (flags_write_none o byte) ∙ f));
          filled = tt;
        };
      })))
    where
      taken : (x y : Operand) (m n : ℕ) → Has image lane p a s d known_ form i.width x m → Has image lane p a s d known_ form i.width y n → AreTaken lane (world_of s) i.width c (val i.width x) (val i.width y) m n
      taken x y m n hm hn = record { first = hm.0; second_has = λ _. hn.0.has; second_sure = by hn.0.sure }
        where
          by : (n < 2 ^ bits i.width) ⊎ ((val i.width y ≡ Top) × (i.width ≡ D32)) → (n < 2 ^ bits i.width) ⊎ ((val i.width y ≡ Top) × (takes_second c ≡ true))
          by (inl lt) = inl lt
          by (inr e) = inr (e.0, two)
  compared_goes c is two flags_is keeps learns_ i None src imm fits = absurd fits
  compared_goes c is two flags_is keeps learns_ i (Some x) None imm fits = absurd fits
  compared_goes c is two flags_is keeps learns_ i (Some x) (Some y) (Some n) fits = absurd fits
