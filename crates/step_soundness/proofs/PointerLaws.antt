-- The stack pointer, the pointers of string instructions, and addresses.
use Rattle.std.proofs.Common.{◌≡◌, ℕ, ◌+◌, ◌-◌, ◌*◌, ◌%◌, ◌<◌, ◌≤◌, ◌==◌, Bool, true, false, cond, Option, Some, None, refl, sym, ◌∙◌, ap, subst, pos, arith, lit<}
use Rattle.std.proofs.lemmas.Int.{ints}
use Rattle.std.proofs.lemmas.Bool.{eqb-true, cond_both}
use Rattle.std.proofs.Math.Nat.{mod-add-mod}
use Rattle.ia32_types.specs.declared.Reg.{Reg}
use Rattle.ia32_types.specs.declared.Mem.{Mem}
use Rattle.ia32_types.specs.Numbers.{reg_number}
use Rattle.ia32_types.proofs.NumberLemmas.{reg_number_below}
use Rattle.ia32_semantics.specs.State.{State}
use Rattle.ia32_semantics.specs.Strings.{stepped as steps}
use Rattle.si_bits.specs.Concrete as concrete
use Rattle.si_bits.specs.Operations.{mul}
use Rattle.si_bits.proofs.MultipleLemmas.{member-mul}
use Rattle.si_bits.proofs.ReadingLemmas.{product_of-number}
use Rattle.si_bits.proofs.SignLemmas.{number-low, number_fits}
use Rattle.strided.specs.Interval.{Interval, IsMember, IsCanonical, one}
use Rattle.strided.proofs.MemberLemmas.{one_canonical}
use Rattle.strided.proofs.SumLemmas.{member_one}
use Rattle.vset.specs.Values.{Values, CanonicalValues, only_number}
use Rattle.vset.specs.Operations.{add, sub, join}
use Rattle.vset.specs.World.{World}
use Rattle.vset.specs.Members.{HasValue}
use Rattle.vset.proofs.MemberLemmas.{join_has_left, join_has_right}
use Rattle.vset.proofs.SumLemmas.{add_has, sub_has}
use Rattle.abs_alu.specs.Words.{numbers, number}
use Rattle.abs_alu.proofs.CanonicalLemmas.{number_canonical, add_values_canonical, sub_values_canonical, only_canonical, numbers_canonical}
use Rattle.abs_alu.proofs.WordLemmas.{numbers_has, number_has, only_has}
use Rattle.abs_semantics.specs.States.{AbsState}
use Rattle.abs_semantics.specs.Operands.{word_number, base_value, multiple_of, scaled, index_value, address}
use Rattle.abs_steps.specs.Flags.{MayBe, decided}
use Rattle.abs_steps.specs.Strings.{stepped, grown}
use Rattle.abs_steps.specs.Rows.{pushed_at, risen}
use Rattle.step_soundness.specs.Terms.{RegistersHold, register_or_zero, address_in}
use Rattle.step_soundness.proofs.WordLaws.{word_has}
use Rattle.step_soundness.proofs.IntervalForms.{mul_form}

-- a sum of a remainder
sum_mod : (n m : ℕ) → (n + m % 4294967296) % 4294967296 ≡ (n + m) % 4294967296
sum_mod n m =
    let e : n + m % 4294967296 ≡ m % 4294967296 + n = omega arith in
    let f : m + n ≡ n + m = omega arith in
    ap (λ k. k % 4294967296) e ∙ mod-add-mod m 4294967296 n ∙ ap (λ k. k % 4294967296) f

module _ (lane : ℕ) (world : World) where
  small_has : (k : ℕ) → k < 2147483648 → HasValue lane world k (number (pos k))
  small_has k lt = subst (λ z. HasValue lane world k (number z)) (number-low k lt) (number_has lane world k (omega arith))

  small_form : (k : ℕ) → k < 2147483648 → CanonicalValues (number (pos k))
  small_form k lt = number_canonical (pos k) (omega (arith, ints))

  module _ (v : Values) (form : CanonicalValues v) (n : ℕ) (has : HasValue lane world n v) where
    pub raised_has : (k : ℕ) → k < 2147483648 → HasValue lane world ((n + k) % 4294967296) (add v (number (pos k)))
    raised_has k lt = add_has lane world n k v (number (pos k)) (omega arith) form (small_form k lt) has (small_has k lt)

    pub lowered_has : (k : ℕ) → k < 2147483648 → HasValue lane world ((n + 4294967296 - k) % 4294967296) (sub v (number (pos k)))
    lowered_has k lt = sub_has lane world n k v (number (pos k)) (omega arith) form (small_form k lt) has (small_has k lt)

    pub risen_has : HasValue lane world ((n + 4) % 4294967296) (risen v)
    risen_has = raised_has 4 (lit< tt)

    pub pushed_has : HasValue lane world ((n + 4294967296 - 4) % 4294967296) (pushed_at v)
    pushed_has = lowered_has 4 (lit< tt)

    -- a pointer after one element
    pub stepped_has : (may : MayBe) (down : Bool) → may 5 down ≡ true → (z : ℕ) → z ≤ 4 → HasValue lane world (steps down z 1 n) (stepped may z v)
    unfolding steps
    stepped_has may down is z few = by (may 5 true) (may 5 false) down (picked down is)
      where
        picked : (down : Bool) → may 5 down ≡ true → cond down (may 5 true) (may 5 false) ≡ true
        picked true e = e
        picked false e = e

        up : HasValue lane world ((n + 1 * z) % 4294967296) (add v (number (pos z)))
        up = let e : n + z ≡ n + 1 * z = omega arith in subst (λ m. HasValue lane world (m % 4294967296) (add v (number (pos z)))) e (raised_has z (omega arith))

        lower : HasValue lane world ((n + 1 * (4294967296 - z)) % 4294967296) (sub v (number (pos z)))
        lower =
            let e : n + 4294967296 - z ≡ n + 1 * (4294967296 - z) = omega arith in
            subst (λ m. HasValue lane world (m % 4294967296) (sub v (number (pos z)))) e (lowered_has z (omega arith))

        up_form : CanonicalValues (add v (number (pos z)))
        up_form = add_values_canonical v (number (pos z)) form (small_form z (omega arith))

        low_form : CanonicalValues (sub v (number (pos z)))
        low_form = sub_values_canonical v (number (pos z)) form (small_form z (omega arith))

        either_way : (down : Bool) → HasValue lane world ((n + 1 * cond down (4294967296 - z) z) % 4294967296) (join (add v (number (pos z))) (sub v (number (pos z))))
        either_way true = join_has_right lane world _ _ _ up_form low_form lower
        either_way false = join_has_left lane world _ _ _ up_form low_form up

        by : (p q down : Bool) → cond down p q ≡ true
            → HasValue lane world ((n + 1 * cond down (4294967296 - z) z) % 4294967296) (decided p q (sub v (number (pos z))) (add v (number (pos z))) (join (add v (number (pos z))) (sub v (number (pos z)))))
        by true true down is = either_way down
        by true false true is = lower
        by true false false is = cc
        by false true true is = cc
        by false true false is = up
        by false false down is = either_way down

  -- a pointer after so many elements upwards
  module _ (c : Interval) (form : IsCanonical c) (count : ℕ) (lt : count < 4294967296) (is : IsMember (concrete.number count) c) where
    times_has : (z : ℕ) → z < 2147483648 → HasValue lane world (count * z % 4294967296) (numbers (mul c (one (pos z))))
    times_has z less =
        let product : concrete.product_of (concrete.number count) (concrete.number z) ≡ concrete.number (count * z % 4294967296) = product_of-number count z lt (omega arith) in
        let plain : concrete.number z ≡ pos z = number-low z less in
        numbers_has lane world (count * z % 4294967296) (omega arith) (mul c (one (pos z)))
        (subst (λ x. IsMember x (mul c (one (pos z)))) (ap (concrete.product_of (concrete.number count)) (sym plain) ∙ product)
        (member-mul c (one (pos z)) (concrete.number count) (pos z) form (one_canonical (pos z) (omega (arith, ints))) is (member_one (pos z))))

    -- a pointer after so many elements upwards
    pub grown_has : (z : ℕ) → z < 2147483648 → (v : Values) → CanonicalValues v → (n : ℕ) → HasValue lane world n v
        → HasValue lane world (steps false z count n) (grown z c v)
    unfolding steps
    grown_has z less v fv n has =
        let sum : (n + count * z % 4294967296) % 4294967296 ≡ (n + count * z) % 4294967296 = sum_mod n (count * z) in
        subst (λ m. HasValue lane world m (grown z c v)) sum
        (add_has lane world n (count * z % 4294967296) v (numbers (mul c (one (pos z)))) (omega arith) fv (numbers_canonical (mul c (one (pos z))) (mul_form c (one (pos z)) form (one_canonical (pos z) (omega (arith, ints))))) has (times_has z less))

-- -- Addresses

module _ (lane : ℕ) (world : World) (a : AbsState) (s : State) (r : RegistersHold lane world a s) where
  base_has : (o : Option Reg) → HasValue lane world (register_or_zero s o) (base_value a o)
  base_has None = small_has lane world 0 (lit< tt)
  base_has (Some reg) = r.held (reg_number reg) (reg_number_below reg)

  base_form : (o : Option Reg) → CanonicalValues (base_value a o)
  base_form None = small_form lane world 0 (lit< tt)
  base_form (Some reg) = r.form (reg_number reg)

  -- an index times its scale
  multiple_has : (v : Values) → CanonicalValues v → (n : ℕ) → n < 4294967296 → HasValue lane world n v → (scale : ℕ) → scale < 2147483648 → (o : Option Interval) → only_number v ≡ o
      → HasValue lane world (n * scale % 4294967296) (multiple_of scale o)
  multiple_has v form n lt has scale less None e = tt
  multiple_has v form n lt has scale less (Some x) e = times_has lane world x (only_canonical v x form e) n lt (only_has lane world n lt v x e has) scale less

  multiple_form : (v : Values) → CanonicalValues v → (scale : ℕ) → scale < 2147483648 → (o : Option Interval) → only_number v ≡ o → CanonicalValues (multiple_of scale o)
  multiple_form v form scale less None e = tt
  multiple_form v form scale less (Some x) e =
      numbers_canonical (mul x (one (pos scale))) (mul_form x (one (pos scale)) (only_canonical v x form e) (one_canonical (pos scale) (omega (arith, ints))))

  scaled_has : (v : Values) → CanonicalValues v → (n : ℕ) → n < 4294967296 → HasValue lane world n v → (scale : ℕ) → scale < 2147483648 → HasValue lane world (n * scale % 4294967296) (scaled scale v)
  scaled_has v form n lt has scale less =
      cond_both (scale == 1) v (multiple_of scale (only_number v)) (HasValue lane world (n * scale % 4294967296))
      (λ is. let one_ : scale ≡ 1 = eqb-true scale 1 is in let plain : n * 1 % 4294967296 ≡ n = omega arith in subst (λ m. HasValue lane world m v) (sym plain ∙ ap (λ k. n * k % 4294967296) (sym one_)) has)
      (λ _. multiple_has v form n lt has scale less (only_number v) refl)

  scaled_form : (v : Values) → CanonicalValues v → (scale : ℕ) → scale < 2147483648 → CanonicalValues (scaled scale v)
  scaled_form v form scale less = cond_both (scale == 1) v (multiple_of scale (only_number v)) CanonicalValues (λ _. form) (λ _. multiple_form v form scale less (only_number v) refl)

  index_has : (o : Option Reg) (scale : ℕ) → scale < 2147483648 → HasValue lane world (register_or_zero s o * scale % 4294967296) (index_value a o scale)
  index_has None scale less = let plain : 0 ≡ 0 * scale % 4294967296 = omega arith in subst (λ m. HasValue lane world m (number (pos 0))) plain (small_has lane world 0 (lit< tt))
  index_has (Some reg) scale less = scaled_has (a.registers (reg_number reg)) (r.form (reg_number reg)) (s.registers (reg_number reg)) (r.sized (reg_number reg)) (r.held (reg_number reg) (reg_number_below reg)) scale less

  index_form : (o : Option Reg) (scale : ℕ) → scale < 2147483648 → CanonicalValues (index_value a o scale)
  index_form None scale less = small_form lane world 0 (lit< tt)
  index_form (Some reg) scale less = scaled_form (a.registers (reg_number reg)) (r.form (reg_number reg)) scale less

  pub address_has : (m : Mem) → m.scale < 2147483648 → m.disp < 4294967296 → HasValue lane world (address_in s m) (address a m)
  unfolding address
  address_has m less fits =
      let base = register_or_zero s m.base in
      let index = register_or_zero s m.index * m.scale in
      let sum : (base + index % 4294967296) % 4294967296 ≡ (base + index) % 4294967296 = sum_mod base index in
      let whole : ((base + index % 4294967296) % 4294967296 + m.disp) % 4294967296 ≡ address_in s m = ap (λ k. (k + m.disp) % 4294967296) sum ∙ mod-add-mod (base + index) 4294967296 m.disp in
      let both_form : CanonicalValues (add (base_value a m.base) (index_value a m.index m.scale)) = add_values_canonical (base_value a m.base) (index_value a m.index m.scale) (base_form m.base) (index_form m.index m.scale less) in
      let both : HasValue lane world ((base + index % 4294967296) % 4294967296) (add (base_value a m.base) (index_value a m.index m.scale)) =
      add_has lane world base (index % 4294967296) (base_value a m.base) (index_value a m.index m.scale) (omega arith) (base_form m.base) (index_form m.index m.scale less) (base_has m.base) (index_has m.index m.scale less) in
      subst (λ k. HasValue lane world k (address a m)) whole
      (add_has lane world ((base + index % 4294967296) % 4294967296) m.disp (add (base_value a m.base) (index_value a m.index m.scale)) (word_number m.disp) fits both_form (number_canonical (concrete.number m.disp) (number_fits m.disp fits)) both (word_has lane world m.disp fits))

  pub address_form : (m : Mem) → m.scale < 2147483648 → m.disp < 4294967296 → CanonicalValues (address a m)
  unfolding address
  address_form m less fits =
      add_values_canonical (add (base_value a m.base) (index_value a m.index m.scale)) (word_number m.disp)
      (add_values_canonical (base_value a m.base) (index_value a m.index m.scale) (base_form m.base) (index_form m.index m.scale less)) (number_canonical (concrete.number m.disp) (number_fits m.disp fits))
