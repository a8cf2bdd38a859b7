-- What an instruction does to a state of the form that the analysis keeps has that form too.
use Rattle.std.proofs.Common.{◌≡◌, ℕ, zero, suc, ◌+◌, ◌*◌, ◌^◌, ◌<◌, ◌≤◌, ◌==◌, ◌&&◌, Bool, true, false, List, [], ◌∷◌, ◌++◌, Option, Some, None, refl, sym, subst, arith, lit<, ℤ, pos, negsuc, ◌+ℤ◌}
use Rattle.std.specs.Prelude.{IfSome, nat_le, int_le, unsigned_abs}
use Rattle.std.specs.Ordering.{int_eq}
use Rattle.std.proofs.lemmas.Bool.{cond_both}
use Rattle.std.proofs.lemmas.Int.{ints, int_rem_euclid_is}
use Rattle.std.proofs.lemmas.Nat.{mod_below}
use Rattle.image_map.specs.declared.region.Cell.{Cell}
use Rattle.image_map.specs.declared.region.RegionId.{RegionId}
use Rattle.image_map.specs.declared.region.RegionId.TheVariants.{Global, Frame, OldFrame, Heap, OldHeap}
use Rattle.ia32_types.specs.declared.Instr.{Instr}
use Rattle.ia32_types.specs.declared.Op.{Op}
use Rattle.ia32_types.specs.declared.Op.TheVariants as op
use Rattle.ia32_types.specs.declared.Operand.{Operand}
use Rattle.ia32_types.specs.declared.Operand.TheVariants as operand
use Rattle.ia32_types.specs.declared.Reg.TheVariants.{Eax}
use Rattle.ia32_types.specs.declared.Width.{Width}
use Rattle.ia32_types.specs.declared.Width.TheVariants.{B8, W16, D32}
use Rattle.ia32_types.specs.Numbers.{reg_number, size}
use Rattle.ia32_semantics.specs.Operands.{bits, part_of}
use Rattle.alocs.specs.Cells.{Division}
use Rattle.strided.specs.Interval.{Interval, IsCanonical, one}
use Rattle.strided.specs.Operations.{only}
use Rattle.vset.specs.declared.part.Part.{Part as ValuePart}
use Rattle.vset.specs.declared.facts.CmpPlace.{CmpPlace}
use Rattle.vset.specs.Values.{Values, Top, Parts, CanonicalValues, only_number}
use Rattle.abs_alu.specs.Computed.{is_computed}
use Rattle.abs_alu.specs.Results.{flags}
use Rattle.abs_alu.specs.Words.{number}
use Rattle.abs_alu.proofs.CanonicalLemmas.{only_canonical, sub_values_canonical}
use Rattle.abs_semantics.specs.declared.parts.Known.{Known}
use Rattle.abs_semantics.specs.States.{AbsState, HasCanonical}
use Rattle.abs_semantics.specs.Ranges.{lone_range}
use Rattle.abs_semantics.specs.Operands.{address}
use Rattle.abs_semantics.specs.Touching.{names_one, cell_at}
use Rattle.abs_semantics.proofs.FormLemmas.{word_form}
use Rattle.abs_semantics.proofs.ReadLemmas.{cell_at_is}
use Rattle.abs_steps.specs.Calls.{remainder}
use Rattle.abs_steps.specs.Effects.{turns, saves, frees}
use Rattle.abs_steps.specs.Results.{are_one_register, is_zero, power_of, only_of, align_of, lowered, lowered_by, first_of, aligned_or, keeps_flags}
use Rattle.abs_steps.specs.Rows.{view_of, extended, divided, flag_effects, result, computed_of, computed, altered, shifted, is_remembered, as_place, place_at, place_of, learned, learned_by, compared, product_effects, multiplied, multiplied_into, imul, quotient_effects, chosen_into, risen, row, post}
use Rattle.abs_steps.specs.Strings.{stepped, if_counted, count_of, bytes_of, grown, pointer_effects, moved_often, stored_often, moved, stored}
use Rattle.abs_steps.specs.Views.{View, held, flags_held, value_of, store, store_to, with_held}
use Rattle.step_soundness.proofs.SinceLaws.{part_form}
use Rattle.step_soundness.proofs.StringRows.{few_size}
use Rattle.step_soundness.proofs.ValueForms.{small_form, stored_form, value_form, stepped_form, grown_form, choice_form, pushed_form, risen_form, truth_form, sign_form, widened_form}
use Rattle.call_soundness.specs.Maps.{IsPlaceOfOne, HasForm}
use Rattle.state_forms.specs.Formed.{AreFormedEffects}
use Rattle.state_forms.proofs.EffectForms.{effects_both, all_formed}
use Rattle.state_forms.proofs.QuotientForms.{AreWords, quotient_words}
use Rattle.image_map.specs.declared.image.Image.{Image}
use Rattle.ia32_types.specs.Operands.{IsInstruction}
use Rattle.state_forms.proofs.OperandForms.{loaded_form, operands_spelt, IsSpelt, AreSpelt, spelt_value_form}

-- -- Results that are lowered to a multiple of a power

remainder_small : (z : ℤ) (t : ℕ) → remainder z (suc t) < suc t
remainder_small (pos b) t = subst (λ r. unsigned_abs r < suc t) (sym (int_rem_euclid_is (pos b) (pos (suc t)) (suc t) 0 b (omega arith) refl (omega (arith, ints)))) (mod_below b (suc t) (omega arith))
remainder_small (negsuc b) t =
    subst (λ r. unsigned_abs r < suc t) (sym (int_rem_euclid_is (negsuc b) (pos (suc t)) (suc t) (b + 1) ((b + 1) * t) (omega arith) refl (omega (arith, ints)))) (mod_below ((b + 1) * t) (suc t) (omega arith))

remainder_below : (z : ℤ) (m : ℕ) → 0 < m → m ≤ 16 → remainder z m < 2147483648
remainder_below z zero some few = absurd (omega (arith, some))
remainder_below z (suc t) some few = let small = remainder_small z t in omega (arith, small, few)

abbrev IsSmall : Option ℕ → Type 0
IsSmall None = Unit {0}
IsSmall (Some m) = (0 < m) × (m ≤ 16)

power_small : (o : Option ℤ) → IsSmall (power_of o)
power_small None = tt
power_small (Some z) =
    cond_both (int_eq z (negsuc 0)) (Some 1) _ IsSmall (λ _. (omega arith, omega arith))
    (λ _. cond_both (int_eq z (negsuc 1)) (Some 2) _ IsSmall (λ _. (omega arith, omega arith))
    (λ _. cond_both (int_eq z (negsuc 3)) (Some 4) _ IsSmall (λ _. (omega arith, omega arith))
    (λ _. cond_both (int_eq z (negsuc 7)) (Some 8) _ IsSmall (λ _. (omega arith, omega arith))
    (λ _. cond_both (int_eq z (negsuc 15)) (Some 16) None IsSmall (λ _. (omega arith, omega arith)) (λ _. tt)))))

abbrev IsFormedOption : Option Values → Type 0
IsFormedOption None = Unit {0}
IsFormedOption (Some v) = CanonicalValues v

lowered_form : (b : Option ℕ) (o : Option ℤ) (m : Option ℕ) (v : Values) → IsSmall m → CanonicalValues v → IsFormedOption (lowered b o m v)
lowered_form (Some b) (Some o) (Some m) v small form =
    sub_values_canonical v (number (pos (remainder (pos b +ℤ o) m))) form (small_form (remainder (pos b +ℤ o) m) (remainder_below (pos b +ℤ o) m small.0 small.1))
lowered_form None o m v small form = tt
lowered_form (Some b) None m v small form = tt
lowered_form (Some b) (Some o) None v small form = tt

lowered_by_form : (ks : List Known) (v mask : Values) → CanonicalValues v → IsFormedOption (lowered_by ks v mask)
lowered_by_form ks Top mask form = tt
lowered_by_form ks (Parts []) mask form = tt
lowered_by_form ks (Parts (x ∷ [])) mask form = lowered_form (align_of ks x.region) (only x.si) (power_of (only_of (only_number mask))) (Parts (x ∷ [])) (power_small (only_of (only_number mask))) form
lowered_by_form ks (Parts (x ∷ y ∷ rest)) mask form = tt

first_form : (o p : Option Values) (other : Values) → IsFormedOption o → IsFormedOption p → CanonicalValues other → CanonicalValues (first_of o p other)
first_form (Some v) p other first second form = first
first_form None (Some v) other first second form = second
first_form None None other first second form = form

aligned_form : (ks : List Known) (o : Op) (width : Width) (x y other : Values) → CanonicalValues x → CanonicalValues y → CanonicalValues other → CanonicalValues (aligned_or ks o width x y other)
unfolding aligned_or
aligned_form ks op.And D32 x y other fx fy form = first_form (lowered_by ks x y) (lowered_by ks y x) other (lowered_by_form ks x y fx) (lowered_by_form ks y x fy) form
aligned_form ks op.And B8 x y other fx fy form = form
aligned_form ks op.And W16 x y other fx fy form = form
aligned_form ks _ width x y other fx fy form = form

-- -- Places that are compared

remembered_one : (d : Division) (r : RegionId) (offset : ℤ) → is_remembered r ≡ true → (o : Option Cell) → cell_at d r offset 4 ≡ o → IfSome (as_place o) IsPlaceOfOne
remembered_one d r offset is None e = tt
remembered_one d r offset is (Some c) e = subst (λ q. names_one q ≡ true) (sym (cell_at_is d r offset 4 c e).region) (by r is)
  where
    by : (r : RegionId) → is_remembered r ≡ true → names_one r ≡ true
    by Global is = refl
    by (Frame p) is = refl
    by (OldFrame p) is = cc
    by (Heap key) is = cc
    by (OldHeap key) is = cc

place_one : (d : Division) (o : Option ValuePart) → IfSome (place_at d o) IsPlaceOfOne
place_one d None = tt
place_one d (Some x) =
    cond_both (is_remembered x.region) (as_place (cell_at d x.region x.si.lo 4)) None (λ o. IfSome o IsPlaceOfOne) (λ is. remembered_one d x.region x.si.lo is (cell_at d x.region x.si.lo 4) refl) (λ _. tt)

operand_one : (v : View) (o : Option Operand) → IfSome (place_of v o) IsPlaceOfOne
operand_one v (Some (operand.Reg r)) = tt
operand_one v (Some (operand.Mem m)) =
    cond_both m.gs None (place_at v.cells (lone_range v.state v.procedure (address v.state m) 4)) (λ o. IfSome o IsPlaceOfOne) (λ _. tt) (λ _. place_one v.cells (lone_range v.state v.procedure (address v.state m) 4))
operand_one v (Some (operand.High r)) = tt
operand_one v (Some (operand.Imm n)) = tt
operand_one v None = tt

learned_form : (o : Option CmpPlace) (b : Option Interval) → IfSome o IsPlaceOfOne → AreFormedEffects (learned o b)
learned_form None b one = tt
learned_form (Some q) None one = tt
learned_form (Some q) (Some x) one = (one, tt)

learned_by_form : (v : View) (o : Op) (width : Width) (first second : Option Operand) (b : Values) → AreFormedEffects (learned_by v o width first second b)
unfolding learned_by
learned_by_form v op.Cmp D32 first second b = learned_form (place_of v first) (only_number b) (operand_one v first)
learned_by_form v op.Cmp B8 first second b = tt
learned_by_form v op.Cmp W16 first second b = tt
learned_by_form v op.Test D32 first second b =
    cond_both (are_one_register first second) (learned (place_of v first) (Some (one (pos 0)))) [] AreFormedEffects (λ _. learned_form (place_of v first) (Some (one (pos 0))) (operand_one v first)) (λ _. tt)
learned_by_form v op.Test B8 first second b = tt
learned_by_form v op.Test W16 first second b = tt
learned_by_form v _ width first second b = tt

-- -- Effects

store_formed : (v : View) (width : Width) (o : Option Operand) (w : Values) → CanonicalValues w → AreFormedEffects (store_to v width o w)
unfolding store_to store
store_formed v width None w form = tt
store_formed v width (Some (operand.Reg r)) w form = (form, tt)
store_formed v width (Some (operand.High r)) w form = (form, tt)
store_formed v width (Some (operand.Imm n)) w form = tt
store_formed v width (Some (operand.Mem m)) w form = cond_both m.gs [] (saves (address v.state m) (size width) w ∷ []) AreFormedEffects (λ _. tt) (λ _. (form, tt))

flags_formed : (v : View) (w : ℕ) (o : Op) (x y : Values) → AreFormedEffects (flag_effects v w o x y)
flags_formed v w o x y = cond_both (keeps_flags w o y) [] (turns (flags w o x y _) ∷ []) AreFormedEffects (λ _. tt) (λ _. (tt, tt))

quotients_formed : (width : Width) (o : Option (ℕ × ℕ)) → IfSome o AreWords → AreFormedEffects (quotient_effects width o)
quotients_formed width (Some q) words = (word_form q.0 words.0, (word_form q.1 words.1, tt))
quotients_formed B8 None words = (tt, tt)
quotients_formed W16 None words = (tt, (tt, tt))
quotients_formed D32 None words = (tt, (tt, tt))

module _ (a : AbsState) (form : HasCanonical a) (d : Division) (p : ℕ) (i : Instr) (spelt : AreSpelt i.dst i.src i.imm) where
  abbrev v : View
  v = view_of a d p

  value_formed : (width : Width) (o : Option Operand) → IsSpelt o → CanonicalValues (value_of v width o)
  value_formed width o is = spelt_value_form a form d p width o is

  dst_formed : (width : Width) → CanonicalValues (value_of v width i.dst)
  dst_formed width = value_formed width i.dst spelt.0

  src_formed : (width : Width) → CanonicalValues (value_of v width i.src)
  src_formed width = value_formed width i.src spelt.1.0

  result_formed : (o : Op) → is_computed o ≡ true → (x y : Values) → CanonicalValues x → CanonicalValues y → CanonicalValues (result v o i x y)
  result_formed o is x y fx fy =
      cond_both (is_zero o i.width i.dst i.src) (number (pos 0)) _ CanonicalValues (λ _. small_form 0 (lit< tt)) (λ _. aligned_form a.aligns o i.width x y _ fx fy (value_form i.width x y fx fy _ o is))

  computed_formed : (o : Op) → is_computed o ≡ true → (x y : Values) → CanonicalValues x → CanonicalValues y → AreFormedEffects (computed_of v o i x y)
  computed_formed o is x y fx fy =
      effects_both (store_to v i.width i.dst (result v o i x y)) (flag_effects v (bits i.width) o x y) (store_formed v i.width i.dst (result v o i x y) (result_formed o is x y fx fy)) (flags_formed v (bits i.width) o x y)

  two_formed : (o : Op) → is_computed o ≡ true → AreFormedEffects (computed o v i)
  two_formed o is = computed_formed o is (value_of v i.width i.dst) (value_of v i.width i.src) (dst_formed i.width) (src_formed i.width)

  shifted_formed : (o : Op) → is_computed o ≡ true → AreFormedEffects (shifted o v i)
  shifted_formed o is = computed_formed o is (value_of v i.width i.dst) (value_of v B8 i.src) (dst_formed i.width) (src_formed B8)

  altered_formed : (o : Op) → is_computed o ≡ true → AreFormedEffects (altered o v i)
  altered_formed o is =
      effects_both (store_to v i.width i.dst _) (flag_effects v (bits i.width) o (value_of v i.width i.dst) Top) (store_formed v i.width i.dst _ (value_form i.width (value_of v i.width i.dst) Top (dst_formed i.width) tt _ o is))
      (flags_formed v (bits i.width) o (value_of v i.width i.dst) Top)

  compared_formed : (o : Op) → AreFormedEffects (compared o v i)
  compared_formed o =
      effects_both (flag_effects v (bits i.width) o (value_of v i.width i.dst) (value_of v i.width i.src)) (learned_by v o i.width i.dst i.src (value_of v i.width i.src))
      (flags_formed v (bits i.width) o (value_of v i.width i.dst) (value_of v i.width i.src)) (learned_by_form v o i.width i.dst i.src (value_of v i.width i.src))

  product_formed : (width : Width) (low : Values) → CanonicalValues low → AreFormedEffects (product_effects width low)
  product_formed D32 low fl = (fl, (tt, tt))
  product_formed B8 low fl = (tt, (tt, tt))
  product_formed W16 low fl = (tt, (tt, tt))

  multiplied_formed : (o : Op) → is_computed o ≡ true → AreFormedEffects (multiplied o v i)
  multiplied_formed o is =
      let x = value_of v i.width (Some (operand.Reg Eax)) in
      let y = value_of v i.width i.dst in
      effects_both (product_effects i.width _) (flag_effects v (bits i.width) o x y) (product_formed i.width _ (value_form i.width x y (value_formed i.width (Some (operand.Reg Eax)) tt) (dst_formed i.width) _ o is)) (flags_formed v (bits i.width) o x y)

  into_formed : (first second : Option Operand) → IsSpelt first → IsSpelt second → AreFormedEffects (multiplied_into v i first second)
  unfolding is_computed
  into_formed first second is_first is_second =
      computed_formed op.Imul refl (value_of v i.width first) (value_of v i.width second) (value_formed i.width first is_first) (value_formed i.width second is_second)

  imul_formed : (o : Option Operand) (imm : Option ℕ) → IsSpelt o → IfSome imm (λ n. n < 4294967296) → AreFormedEffects (imul v i o imm)
  unfolding is_computed
  imul_formed None imm is word = multiplied_formed op.Imul refl
  imul_formed (Some x) None is word = into_formed i.dst (Some x) spelt.0 is
  imul_formed (Some x) (Some n) is word = into_formed (Some x) (Some (operand.Imm n)) is word

  -- -- Moves

  exchanged_formed : AreFormedEffects (store_to v i.width i.dst (value_of v i.width i.src) ++ store_to v i.width i.src (value_of v i.width i.dst))
  exchanged_formed =
      effects_both (store_to v i.width i.dst (value_of v i.width i.src)) (store_to v i.width i.src (value_of v i.width i.dst)) (store_formed v i.width i.dst _ (src_formed i.width)) (store_formed v i.width i.src _ (dst_formed i.width))

  chosen_formed : (c : ℕ) (width : Width) (o : Option Operand) (new old : Values) → CanonicalValues new → CanonicalValues old → AreFormedEffects (chosen_into c v width o new old)
  chosen_formed c width (Some (operand.Reg r)) new old fn fo =
      (choice_form c (flags_held v) _ _ (part_form (held v (reg_number r)) new fn (part_of width)) (part_form (held v (reg_number r)) old fo (part_of width)), tt)
  chosen_formed c width (Some (operand.High r)) new old fn fo = tt
  chosen_formed c width (Some (operand.Imm n)) new old fn fo = tt
  chosen_formed c width (Some (operand.Mem m)) new old fn fo = tt
  chosen_formed c width None new old fn fo = tt

  -- -- Strings

  counted_form : (z : ℕ) (o : Option Interval) → IfSome o IsCanonical → IfSome (if_counted z o) IsCanonical
  counted_form z None forms = tt
  counted_form z (Some c) forms = cond_both (int_le (pos 0) c.lo && nat_le (unsigned_abs c.hi * z) (2 ^ 20)) (Some c) None (λ o. IfSome o IsCanonical) (λ _. forms) (λ _. tt)

  alone_form : (o : Option Interval) → only_number (a.registers 1) ≡ o → IfSome o IsCanonical
  alone_form None e = tt
  alone_form (Some x) e = only_canonical (a.registers 1) x (form.registers 1) e

  count_form : (z : ℕ) → IfSome (count_of a z) IsCanonical
  count_form z = cond_both _ (if_counted z (only_number (a.registers 1))) None (λ o. IfSome o IsCanonical) (λ _. counted_form z (only_number (a.registers 1)) (alone_form (only_number (a.registers 1)) refl)) (λ _. tt)

  pointers_formed : (from to : Values) → CanonicalValues from → CanonicalValues to → AreFormedEffects (pointer_effects from to)
  pointers_formed from to first second = (first, (second, (small_form 0 (lit< tt), tt)))

  further_form : (width : Width) (c : Interval) → IsCanonical c → (n : ℕ) → CanonicalValues (grown (size width) c (a.registers n))
  further_form width c fc n = let few = few_size width in grown_form (size width) c (a.registers n) (omega (arith, few)) fc (form.registers n)

  moved_often_formed : (width : Width) (o : Option Interval) → IfSome o IsCanonical → AreFormedEffects (moved_often v width o)
  moved_often_formed width None forms = (tt, pointers_formed Top Top tt tt)
  moved_often_formed width (Some c) forms =
      cond_both (bytes_of (size width) c == 0) (pointer_effects (held v 6) (held v 7)) _ AreFormedEffects (λ _. pointers_formed (held v 6) (held v 7) (form.registers 6) (form.registers 7))
      (λ _. (tt, pointers_formed (grown (size width) c (held v 6)) (grown (size width) c (held v 7)) (further_form width c forms 6) (further_form width c forms 7)))

  stored_often_formed : (width : Width) (o : Option Interval) → IfSome o IsCanonical → AreFormedEffects (stored_often v width o)
  stored_often_formed width None forms = (tt, pointers_formed (held v 6) Top (form.registers 6) tt)
  stored_often_formed width (Some c) forms =
      cond_both (bytes_of (size width) c == 0) (pointer_effects (held v 6) (held v 7)) _ AreFormedEffects (λ _. pointers_formed (held v 6) (held v 7) (form.registers 6) (form.registers 7))
      (λ _. (tt, pointers_formed (held v 6) (grown (size width) c (held v 7)) (form.registers 6) (further_form width c forms 7)))

  pointer_form : (width : Width) (n : ℕ) → CanonicalValues (stepped (flags_held v) (size width) (held v n))
  pointer_form width n = stepped_form (flags_held v) (size width) (held v n) (few_size width) (form.registers n)

  moved_formed : (repeat : Bool) (width : Width) → AreFormedEffects (moved repeat v width)
  moved_formed false width = (stored_form a form d p width (held v 6), (pointer_form width 6, (pointer_form width 7, tt)))
  moved_formed true width = moved_often_formed width (count_of a (size width)) (count_form (size width))

  stored_formed : (repeat : Bool) (width : Width) → AreFormedEffects (stored repeat v width)
  stored_formed false width = (value_formed width (Some (operand.Reg Eax)) tt, (pointer_form width 7, tt))
  stored_formed true width = stored_often_formed width (count_of a (size width)) (count_form (size width))

  -- -- The table

  divided_formed : (signed : Bool) → AreFormedEffects (divided signed v i)
  divided_formed signed =
      effects_both (quotient_effects i.width _) (frees ∷ []) (quotients_formed i.width _ (quotient_words i.width signed (held v 2) (held v 0) (value_of v i.width i.dst))) (tt, tt)

  extended_formed : (signed : Bool) (from : Width) → AreFormedEffects (extended signed from v i)
  extended_formed signed from = store_formed v i.width i.dst _ (widened_form signed from i.width (value_of v from i.src) (src_formed from))

  pub row_formed : (o : Op) → AreFormedEffects (row o v i)
  unfolding row is_computed
  row_formed op.Add = two_formed op.Add refl
  row_formed op.Or = two_formed op.Or refl
  row_formed op.Adc = two_formed op.Adc refl
  row_formed op.Sbb = two_formed op.Sbb refl
  row_formed op.And = two_formed op.And refl
  row_formed op.Sub = two_formed op.Sub refl
  row_formed op.Xor = two_formed op.Xor refl
  row_formed op.Cmp = compared_formed op.Cmp
  row_formed op.Mov = store_formed v i.width i.dst _ (src_formed i.width)
  row_formed op.Lea = store_formed v i.width i.dst _ (loaded_form a form d p i.src spelt.1.0)
  row_formed op.Push = let low = pushed_form (held v 4) (form.registers 4) in (low, (dst_formed i.width, tt))
  row_formed op.Pop = (risen_form (held v 4) (form.registers 4), store_formed (with_held v 4 (risen (held v 4))) i.width i.dst _ (stored_form a form d p D32 (held v 4)))
  row_formed op.Xchg = exchanged_formed
  row_formed op.Test = compared_formed op.Test
  row_formed op.Inc = altered_formed op.Inc refl
  row_formed op.Dec = altered_formed op.Dec refl
  row_formed op.Not = altered_formed op.Not refl
  row_formed op.Neg = altered_formed op.Neg refl
  row_formed op.Mul = multiplied_formed op.Mul refl
  row_formed op.Imul = imul_formed i.src i.imm spelt.1.0 spelt.1.1
  row_formed op.Shl = shifted_formed op.Shl refl
  row_formed op.Shr = shifted_formed op.Shr refl
  row_formed op.Sar = shifted_formed op.Sar refl
  row_formed (op.Movzx from) = extended_formed false from
  row_formed (op.Movsx from) = extended_formed true from
  row_formed op.Cwde = (widened_form true W16 D32 _ (value_formed W16 (Some (operand.Reg Eax)) tt), tt)
  row_formed op.Cdq = (sign_form (held v 0), tt)
  row_formed op.Leave = (risen_form (held v 5) (form.registers 5), (stored_form a form d p D32 (held v 5), tt))
  row_formed (op.Setcc c) = store_formed v i.width i.dst _ (truth_form c (flags_held v))
  row_formed op.Call = tt
  row_formed op.Ret = tt
  row_formed op.Jmp = tt
  row_formed (op.Jcc c) = tt
  row_formed op.Nop = tt
  row_formed op.Endbr32 = tt
  row_formed op.Hlt = tt
  row_formed op.Int3 = tt
  row_formed op.Ud2 = tt
  row_formed (op.Cmov c) = chosen_formed c i.width i.dst _ _ (src_formed i.width) (dst_formed i.width)
  row_formed op.Rol = shifted_formed op.Rol refl
  row_formed op.Ror = shifted_formed op.Ror refl
  row_formed op.Div = divided_formed false
  row_formed op.Idiv = divided_formed true
  row_formed (op.Movs repeat) = moved_formed repeat i.width
  row_formed (op.Stos repeat) = stored_formed repeat i.width
  row_formed op.Cld = (tt, tt)
  row_formed op.Std = (tt, tt)

pub post_formed : (image : Image) (a : AbsState) (i : Instr) (d : Division) (p : ℕ) → HasForm a → IsInstruction i → HasForm (post a i d image p)
unfolding post
post_formed image a i d p form is = all_formed d image p (row i.op (view_of a d p) i) a form (row_formed a form.canonical d p i (operands_spelt i is) i.op)
