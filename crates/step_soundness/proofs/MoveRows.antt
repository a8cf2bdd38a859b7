-- The rows of moves: copies, addresses, exchanges, extensions, signs, and what conditions set and choose.
use Rattle.std.proofs.Common.{◌≡◌, ◌⊎◌, inl, inr, ℕ, ◌+◌, ◌-◌, ◌/◌, ◌%◌, ◌^◌, ◌<◌, ◌==◌, ◌&&◌, Bool, true, false, not, cond, List, [], ◌∷◌, ◌++◌, Option, Some, None, refl, sym, ◌∙◌, ap, subst, arith, lit<}
use Rattle.std.proofs.lemmas.Bool.{false≢true, cond_both}
use Rattle.image_map.specs.declared.image.Image.{Image}
use Rattle.ia32_types.specs.declared.Mem.{Mem}
use Rattle.ia32_types.specs.declared.Reg.{Reg}
use Rattle.ia32_types.specs.declared.Reg.TheVariants.{Eax}
use Rattle.ia32_types.specs.declared.Instr.{Instr}
use Rattle.ia32_types.specs.declared.Operand.{Operand}
use Rattle.ia32_types.specs.declared.Operand.TheVariants as operand
use Rattle.ia32_types.specs.declared.Width.{Width}
use Rattle.ia32_types.specs.declared.Width.TheVariants.{B8, W16, D32}
use Rattle.ia32_types.specs.Numbers.{reg_number}
use Rattle.ia32_types.specs.Operands.{IsAddress, IsRegister, IsPlace, IsTarget, IsValue, IsMemory, IsWide, IsNarrow, HasOne, HasTwo, HasOneAddress}
use Rattle.ia32_types.proofs.NumberLemmas.{reg_number_below, below_eight}
use Rattle.ia32_semantics.specs.Alu.{sign}
use Rattle.ia32_semantics.specs.Condition.{even_condition, holds}
use Rattle.ia32_semantics.specs.Effects.{Whole, sets, turns as turns_flag, with_part, effects_take}
use Rattle.ia32_semantics.specs.Operands as machine
use Rattle.ia32_semantics.specs.Operands.{bits, low_part, part_of, condition_flags, no_flags}
use Rattle.ia32_semantics.specs.Outcome.{going}
use Rattle.ia32_semantics.specs.Product.{extended}
use Rattle.ia32_semantics.specs.Rows as rows
use Rattle.ia32_semantics.specs.Rows.{next_place, goes_on}
use Rattle.ia32_semantics.specs.State.{State, AtByte, put}
use Rattle.alocs.specs.Cells.{Division}
use Rattle.vset.specs.Values.{Values, Top, CanonicalValues}
use Rattle.vset.specs.Members.{HasValue}
use Rattle.abs_semantics.specs.States.{AbsState, HasCanonical}
use Rattle.abs_semantics.specs.StandsFor.{world_of, flags_of}
use Rattle.abs_semantics.specs.Ownership.{IsKnown}
use Rattle.abs_semantics.specs.Operands.{address, operand_value, with_part_value}
use Rattle.abs_steps.specs.declared.accesses.Access.{Access}
use Rattle.abs_steps.specs.Accesses.{of_operand}
use Rattle.abs_steps.specs.Effects.{puts, steers, done}
use Rattle.abs_steps.specs.Results.{widened, sign_of, truth_of, chosen_by}
use Rattle.abs_steps.specs.Rows as steps
use Rattle.abs_steps.specs.Rows.{view_of}
use Rattle.abs_steps.specs.Views.{value_of, store_to}
use Rattle.abs_steps.specs.Views as views
use Rattle.step_soundness.specs.Accessed.{IsAccessed}
use Rattle.step_soundness.specs.Terms.{AreAllowed, address_in}
use Rattle.step_soundness.proofs.ConditionLaws.{truth_has, chosen_has}
use Rattle.step_soundness.proofs.CoreLaws.{steers_stand}
use Rattle.step_soundness.proofs.EndLaws.{Leads, accessed_left, accessed_right, follows_append, goes_follow, goes_leads}
use Rattle.step_soundness.proofs.ExtensionLaws.{sign_has, widened_has}
use Rattle.step_soundness.proofs.GivenLaws.{Gives, gives_bind, gives_this, gives_register, gives_flag}
use Rattle.step_soundness.proofs.OperandLaws.{registers_hold}
use Rattle.step_soundness.proofs.OperationLaws.{with_operands}
use Rattle.step_soundness.proofs.PointerLaws.{address_has, address_form}
use Rattle.step_soundness.proofs.ReadLaws.{IsRead, cut_has, address_gives}
use Rattle.step_soundness.proofs.RowLaws.{Row, Has, read_gives, value_canonical, stored_goes, stored_follows, spelt_address, spelt_target, spelt_value, spelt_place}
use Rattle.step_soundness.proofs.SinceLaws.{Since, since_itself, since_puts, part_form}
use Rattle.step_soundness.proofs.ValueForms.{widened_form, sign_form, truth_form, choice_form}
use Rattle.step_soundness.proofs.WordLaws.{low_has, part_has}
use Rattle.step_soundness.proofs.WriteLaws.{AreQuiet, sets_follow, cut_part, cut_below}
use Rattle.step_soundness.proofs.WidthLaws.{cut_same, fits_part, fits_word}

pub register_target : (width : Width) (x : Operand) → IsRegister width x → IsTarget width x
register_target width (operand.Reg r) is = is
register_target width (operand.High r) is = is
register_target B8 (operand.Imm n) is = absurd is
register_target W16 (operand.Imm n) is = absurd is
register_target D32 (operand.Imm n) is = absurd is
register_target B8 (operand.Mem m) is = absurd is
register_target W16 (operand.Mem m) is = absurd is
register_target D32 (operand.Mem m) is = absurd is

quiet_left : (a : AbsState) (p : ℕ) (xs ys : List Access) → AreQuiet a p (xs ++ ys) → AreQuiet a p xs
quiet_left a p [] ys h = tt
quiet_left a p (x ∷ xs) ys h = (h.0, quiet_left a p xs ys h.1)

quiet_right : (a : AbsState) (p : ℕ) (xs ys : List Access) → AreQuiet a p (xs ++ ys) → AreQuiet a p ys
quiet_right a p [] ys h = h
quiet_right a p (x ∷ xs) ys h = quiet_right a p xs ys h.1

extended_below : (signed : Bool) (from to : Width) (n : ℕ) → IsNarrow from → IsWide to → n < 2 ^ bits from → extended signed (bits from) (bits to) n < 2 ^ bits to
unfolding extended
extended_below signed from B8 n narrow wide lt = absurd wide
extended_below signed D32 to n narrow wide lt = absurd narrow
extended_below signed B8 W16 n narrow wide lt = cond_both (signed && sign 8 n) (n + 65536 - 256) n (λ (k : ℕ). k < 65536) (λ _. omega (arith, lt)) (λ _. omega (arith, lt))
extended_below signed B8 D32 n narrow wide lt = cond_both (signed && sign 8 n) (n + 4294967296 - 256) n (λ (k : ℕ). k < 4294967296) (λ _. omega (arith, lt)) (λ _. omega (arith, lt))
extended_below signed W16 W16 n narrow wide lt = cond_both (signed && sign 16 n) (n + 65536 - 65536) n (λ (k : ℕ). k < 65536) (λ _. omega (arith, lt)) (λ _. omega (arith, lt))
extended_below signed W16 D32 n narrow wide lt = cond_both (signed && sign 16 n) (n + 4294967296 - 65536) n (λ (k : ℕ). k < 4294967296) (λ _. omega (arith, lt)) (λ _. omega (arith, lt))

-- a part of a word is a word, and the whole is what is put
part_below : (width : Width) (old k : ℕ) → old < 4294967296 → with_part (part_of width) old k < 4294967296
unfolding with_part
part_below B8 old k lt = omega (arith, lt)
part_below W16 old k lt = omega (arith, lt)
part_below D32 old k lt = omega arith

pub whole_is : (k old : ℕ) → k < 4294967296 → with_part Whole old k ≡ k
unfolding with_part
whole_is k old lt = omega (arith, lt)

-- -- Conditions

module _ (s : State) (R : ℕ → Type 0) where
  flags_told : (n : ℕ) → n < 8 → Gives s R (λ f. even_condition n f ≡ even_condition n (flags_of s)) (condition_flags n)
  unfolding condition_flags even_condition
  flags_told =
      below_eight (λ n. Gives s R (λ f. even_condition n f ≡ even_condition n (flags_of s)) (condition_flags n))
      (gives_flag s R _ 4 _ (gives_this s R _ _ refl)) (gives_flag s R _ 0 _ (gives_this s R _ _ refl)) (gives_flag s R _ 2 _ (gives_this s R _ _ refl))
      (gives_flag s R _ 0 _ (gives_flag s R _ 2 _ (gives_this s R _ _ refl))) (gives_flag s R _ 3 _ (gives_this s R _ _ refl)) (gives_flag s R _ 1 _ (gives_this s R _ _ refl))
      (gives_flag s R _ 3 _ (gives_flag s R _ 4 _ (gives_this s R _ _ refl))) (gives_flag s R _ 2 _ (gives_flag s R _ 3 _ (gives_flag s R _ 4 _ (gives_this s R _ _ refl))))

  -- whether a condition holds
  pub condition_gives : (c : ℕ) → c < 16 → Gives s R (λ b. b ≡ holds c (flags_of s)) (machine.condition c)
  unfolding machine.condition holds
  condition_gives c lt =
      gives_bind s R (λ f. even_condition (c / 2) f ≡ even_condition (c / 2) (flags_of s)) _ (condition_flags (c / 2)) _ (flags_told (c / 2) (omega (arith, lt)))
      (λ f e. gives_this s R _ (holds c f) (ap (λ b. cond (c % 2 == 1) (not b) b) e))

module _ (image : Image) (lane p : ℕ) (a : AbsState) (s : State) (d : Division) (known_ : IsKnown image lane a p s) (form : HasCanonical a) where
  abbrev val : Width → Operand → Values
  val width o = value_of (view_of a d p) width (Some o)

  flags_may : AreAllowed a.flags (flags_of s)
  flags_may =
      record {
        cf = known_.stands.flags 0 (lit< tt);
        pf = known_.stands.flags 1 (lit< tt);
        zf = known_.stands.flags 2 (lit< tt);
        sf = known_.stands.flags 3 (lit< tt);
        of = known_.stands.flags 4 (lit< tt);
      }

  -- -- Copies

  pub copied_goes : (i : Instr) (dst src : Option Operand) (imm : Option ℕ) → HasTwo (λ x y. IsTarget i.width x × IsValue i.width y × HasOneAddress x y) dst src imm → AreQuiet a p (of_operand true a i.width dst)
      → Gives s (IsAccessed lane s (of_operand false a i.width src))
      (Row image lane p a s d known_ form i (of_operand false a i.width src) (of_operand true a i.width dst) (steps.copied_over (view_of a d p) (with_operands i dst src imm)))
      (rows.copied_over (with_operands i dst src imm))
  copied_goes i (Some x) (Some y) None fits quiet =
      let R = IsAccessed lane s (of_operand false a i.width (Some y)) in
      let fy = spelt_value i.width y fits.1 in
      gives_bind s R (Has image lane p a s d known_ form i.width y) _ (machine.value_of i.width (Some y)) _ (read_gives image lane p a s d known_ form R i.width y fy (λ byte h. h)) (λ n hn.
      stored_goes image lane p a s d known_ form i R (of_operand false a i.width (Some y)) i.width x fits.0 quiet n (val i.width y) (value_canonical image lane p a s d known_ form i.width y fy)
      (cut_has lane (world_of s) i.width (val i.width y) n hn.0))
  copied_goes i None src imm fits quiet = absurd fits
  copied_goes i (Some x) None imm fits quiet = absurd fits
  copied_goes i (Some x) (Some y) (Some n) fits quiet = absurd fits

  -- -- Addresses

  address_fits : (width : Width) (m : Mem) → width ≡ D32 → IsAddress m → HasValue lane (world_of s) (address_in s m % 2 ^ bits width) (address a m)
  address_fits width m e is =
      subst (λ w. HasValue lane (world_of s) (address_in s m % 2 ^ bits w) (address a m)) (sym e)
      (let spelt = spelt_address m is in
      let below : address_in s m ≡ address_in s m % 4294967296 = omega arith in
      subst (λ k. HasValue lane (world_of s) k (address a m)) below (address_has lane (world_of s) a s (registers_hold image lane a p s d known_ form) m (omega (arith, spelt)) spelt.1))

  pub addressed_goes : (i : Instr) (dst src : Option Operand) (imm : Option ℕ) → i.width ≡ D32 → HasTwo (λ x y. IsRegister D32 x × IsMemory y) dst src imm → AreQuiet a p (of_operand true a i.width dst)
      → Gives s (IsAccessed lane s [])
      (Row image lane p a s d known_ form i [] (of_operand true a i.width dst) (steps.addressed (view_of a d p) (with_operands i dst src imm)))
      (rows.addressed (with_operands i dst src imm))
  unfolding machine.address_of views.address_of
  addressed_goes i (Some x) (Some (operand.Mem m)) None wide fits quiet =
      let spelt = spelt_address m fits.1 in
      gives_bind s (IsAccessed lane s []) (λ at. at ≡ address_in s m) _ (machine.address m) _ (address_gives s (IsAccessed lane s []) m) (λ at e.
      stored_goes image lane p a s d known_ form i (IsAccessed lane s []) [] i.width x (subst (λ w. IsTarget w x) (sym wide) (register_target D32 x fits.0)) quiet at (address a m)
      (address_form lane (world_of s) a s (registers_hold image lane a p s d known_ form) m (omega (arith, spelt)) spelt.1)
      (subst (λ k. HasValue lane (world_of s) (k % 2 ^ bits i.width) (address a m)) (sym e) (address_fits i.width m wide fits.1)))
  addressed_goes i (Some x) (Some (operand.Reg r)) None wide fits quiet = absurd fits.1
  addressed_goes i (Some x) (Some (operand.High r)) None wide fits quiet = absurd fits.1
  addressed_goes i (Some x) (Some (operand.Imm n)) None wide fits quiet = absurd fits.1
  addressed_goes i None src imm wide fits quiet = absurd fits
  addressed_goes i (Some x) None imm wide fits quiet = absurd fits
  addressed_goes i (Some x) (Some y) (Some n) wide fits quiet = absurd fits

  -- -- Exchanges

  pub exchanged_goes : (i : Instr) (dst src : Option Operand) (imm : Option ℕ) → HasTwo (λ x y. IsTarget i.width x × IsRegister i.width y) dst src imm
      → AreQuiet a p (of_operand true a i.width dst ++ of_operand true a i.width src)
      → Gives s (IsAccessed lane s (of_operand false a i.width dst ++ of_operand false a i.width src))
      (Row image lane p a s d known_ form i (of_operand false a i.width dst ++ of_operand false a i.width src) (of_operand true a i.width dst ++ of_operand true a i.width src)
      (steps.exchanged (view_of a d p) (with_operands i dst src imm)))
      (rows.exchanged (with_operands i dst src imm))
  exchanged_goes i (Some x) (Some y) None fits quiet =
      let reads = of_operand false a i.width (Some x) ++ of_operand false a i.width (Some y) in
      let R = IsAccessed lane s reads in
      let target = register_target i.width y fits.1 in
      let fx = spelt_target i.width x fits.0 in
      let fy = spelt_target i.width y target in
      gives_bind s R (Has image lane p a s d known_ form i.width x) _ (machine.value_of i.width (Some x)) _
      (read_gives image lane p a s d known_ form R i.width x fx (λ byte h. accessed_left lane s (of_operand false a i.width (Some x)) (of_operand false a i.width (Some y)) byte h)) (λ m hm.
      gives_bind s R (Has image lane p a s d known_ form i.width y) _ (machine.value_of i.width (Some y)) _
      (read_gives image lane p a s d known_ form R i.width y fy (λ byte h. accessed_right lane s (of_operand false a i.width (Some x)) (of_operand false a i.width (Some y)) byte h)) (λ n hn.
      gives_bind s R _ _ (machine.store_to i.width (Some x) n) _
      (stored_follows image lane p a s d known_ form i R reads i.width x fits.0 (quiet_left a p _ _ quiet) n (val i.width y) (value_canonical image lane p a s d known_ form i.width y fy) (cut_has lane (world_of s) i.width (val i.width y) n hn.0))
      (λ first f.
      gives_bind s R _ _ (machine.store_to i.width (Some y) m) _
      (stored_follows image lane p a s d known_ form i R reads i.width y target (quiet_right a p (of_operand true a i.width (Some x)) _ quiet) m (val i.width x) (value_canonical image lane p a s d known_ form i.width x fx) (cut_has lane (world_of s) i.width (val i.width x) m hm.0))
      (λ second g.
      gives_this s R _ (going (first ++ second) (next_place i))
      (goes_follow image lane p a s d known_ form (next_place i) reads (of_operand true a i.width (Some x) ++ of_operand true a i.width (Some y))
      (store_to (view_of a d p) i.width (Some x) (val i.width y) ++ store_to (view_of a d p) i.width (Some y) (val i.width x)) (first ++ second)
      (follows_append image lane p a s d (of_operand true a i.width (Some x)) (of_operand true a i.width (Some y)) _ _ first second f g))))))
  exchanged_goes i None src imm fits quiet = absurd fits
  exchanged_goes i (Some x) None imm fits quiet = absurd fits
  exchanged_goes i (Some x) (Some y) (Some n) fits quiet = absurd fits

  -- -- Extensions

  narrow_below : (from : Width) (n : ℕ) (v : Values) → IsNarrow from → IsRead lane (world_of s) from v n → n < 2 ^ bits from
  narrow_below B8 n v narrow is = by is.sure
    where
      by : (n < 256) ⊎ ((v ≡ Top) × (B8 ≡ D32)) → n < 256
      by (inl lt) = lt
      by (inr e) = cc
  narrow_below W16 n v narrow is = by is.sure
    where
      by : (n < 65536) ⊎ ((v ≡ Top) × (W16 ≡ D32)) → n < 65536
      by (inl lt) = lt
      by (inr e) = cc
  narrow_below D32 n v narrow is = absurd narrow

  pub widened_goes : (signed : Bool) (from : Width) (i : Instr) (dst src : Option Operand) (imm : Option ℕ) → IsWide i.width → IsNarrow from → HasTwo (λ x y. IsRegister i.width x × IsPlace from y) dst src imm
      → AreQuiet a p (of_operand true a i.width dst)
      → Gives s (IsAccessed lane s (of_operand false a from src))
      (Row image lane p a s d known_ form i (of_operand false a from src) (of_operand true a i.width dst) (steps.extended signed from (view_of a d p) (with_operands i dst src imm)))
      (rows.widened signed from (with_operands i dst src imm))
  widened_goes signed from i (Some x) (Some y) None wide narrow fits quiet =
      let R = IsAccessed lane s (of_operand false a from (Some y)) in
      let fy = spelt_place from y fits.1 in
      gives_bind s R (Has image lane p a s d known_ form from y) _ (machine.value_of from (Some y)) _ (read_gives image lane p a s d known_ form R from y fy (λ byte h. h)) (λ n hn.
      let lt = narrow_below from n (val from y) narrow hn.0 in
      stored_goes image lane p a s d known_ form i R (of_operand false a from (Some y)) i.width x (register_target i.width x fits.0) quiet (extended signed (bits from) (bits i.width) n) (widened signed from i.width (val from y))
      (widened_form signed from i.width (val from y) (value_canonical image lane p a s d known_ form from y fy))
      (subst (λ k. HasValue lane (world_of s) k (widened signed from i.width (val from y))) (cut_same i.width (extended signed (bits from) (bits i.width) n) (extended_below signed from i.width n narrow wide lt))
      (widened_has lane (world_of s) (val from y) n hn.0.has (value_canonical image lane p a s d known_ form from y fy) signed from i.width narrow wide lt)))
  widened_goes signed from i None src imm wide narrow fits quiet = absurd fits
  widened_goes signed from i (Some x) None imm wide narrow fits quiet = absurd fits
  widened_goes signed from i (Some x) (Some y) (Some n) wide narrow fits quiet = absurd fits

  word_sized : (n : ℕ) → s.registers n < 4294967296
  word_sized n = known_.whole.laid_out.sized.registers n

  pub ax_goes : (i : Instr) → Gives s (IsAccessed lane s []) (Row image lane p a s d known_ form i [] [] (steps.sign_of_ax (view_of a d p))) (rows.sign_of_ax i)
  unfolding machine.whole_register value_of operand_value
  ax_goes i =
      let n = s.registers 0 in
      let low : n % 65536 < 65536 = omega arith in
      let v = value_of (view_of a d p) W16 (Some (operand.Reg Eax)) in
      let has = low_has lane (world_of s) (a.registers 0) (form.registers 0) n (word_sized 0) (known_.stands.registers 0 (lit< tt)) W16 in
      let fv = value_canonical image lane p a s d known_ form W16 (operand.Reg Eax) tt in
      gives_register s (IsAccessed lane s []) _ 0 _
      (gives_this s (IsAccessed lane s []) _ (going (sets Whole 0 (extended true 16 32 (n % 65536)) ∷ []) (next_place i))
      (goes_follow image lane p a s d known_ form (next_place i) [] [] (steps.sign_of_ax (view_of a d p)) (sets Whole 0 (extended true 16 32 (n % 65536)) ∷ [])
      (sets_follow image lane p a s d known_ form D32 0 (extended true 16 32 (n % 65536)) (widened true W16 D32 v) (lit< tt) (widened_form true W16 D32 v fv)
      (subst (λ k. HasValue lane (world_of s) k (widened true W16 D32 v)) (cut_same D32 (extended true 16 32 (n % 65536)) (extended_below true W16 D32 (n % 65536) tt tt low))
      (widened_has lane (world_of s) v (n % 65536) has fv true W16 D32 tt tt low)))))

  pub eax_goes : (i : Instr) → Gives s (IsAccessed lane s []) (Row image lane p a s d known_ form i [] [] (steps.sign_of_eax (view_of a d p))) (rows.sign_of_eax i)
  unfolding machine.whole_register
  eax_goes i =
      let n = s.registers 0 in
      let small : cond (sign 32 n) 4294967295 0 < 4294967296 = cond_both (sign 32 n) 4294967295 0 (λ (k : ℕ). k < 4294967296) (λ _. lit< tt) (λ _. lit< tt) in
      gives_register s (IsAccessed lane s []) _ 0 _
      (gives_this s (IsAccessed lane s []) _ (going (sets Whole 2 (cond (sign 32 n) 4294967295 0) ∷ []) (next_place i))
      (goes_follow image lane p a s d known_ form (next_place i) [] [] (steps.sign_of_eax (view_of a d p)) (sets Whole 2 (cond (sign 32 n) 4294967295 0) ∷ [])
      (sets_follow image lane p a s d known_ form D32 2 (cond (sign 32 n) 4294967295 0) (sign_of (a.registers 0)) (lit< tt) (sign_form (a.registers 0))
      (subst (λ k. HasValue lane (world_of s) k (sign_of (a.registers 0))) (cut_same D32 (cond (sign 32 n) 4294967295 0) small)
      (sign_has lane (world_of s) (a.registers 0) n (known_.stands.registers 0 (lit< tt)) (word_sized 0))))))

  -- -- Conditions

  pub tested_goes : (c : ℕ) → c < 16 → (i : Instr) (dst src : Option Operand) (imm : Option ℕ) → i.width ≡ B8 → HasOne (IsTarget B8) dst src imm → AreQuiet a p (of_operand true a i.width dst)
      → Gives s (IsAccessed lane s [])
      (Row image lane p a s d known_ form i [] (of_operand true a i.width dst) (steps.tested c (view_of a d p) (with_operands i dst src imm)))
      (rows.tested c (with_operands i dst src imm))
  tested_goes c lt i (Some x) None None narrow fits quiet =
      let R = IsAccessed lane s [] in
      gives_bind s R (λ b. b ≡ holds c (flags_of s)) _ (machine.condition c) _ (condition_gives s R c lt) (λ b e.
      stored_goes image lane p a s d known_ form i R [] i.width x (subst (λ w. IsTarget w x) (sym narrow) fits) quiet (cond b 1 0) (truth_of c a.flags) (truth_form c a.flags)
      (subst (λ w. HasValue lane (world_of s) (cond b 1 0 % 2 ^ bits w) (truth_of c a.flags)) (sym narrow)
      (subst (λ t. HasValue lane (world_of s) (cond t 1 0 % 256) (truth_of c a.flags)) (sym e)
      (subst (λ k. HasValue lane (world_of s) k (truth_of c a.flags)) (one_bit (holds c (flags_of s))) (truth_has a.flags (flags_of s) flags_may lane (world_of s) c)))))
    where
      one_bit : (t : Bool) → cond t 1 0 ≡ cond t 1 0 % 256
      one_bit true = refl
      one_bit false = refl
  tested_goes c lt i None src imm narrow fits quiet = absurd fits
  tested_goes c lt i (Some x) (Some y) imm narrow fits quiet = absurd fits
  tested_goes c lt i (Some x) None (Some n) narrow fits quiet = absurd fits

  -- a part of a register takes one of two numbers
  module _ (c : ℕ) (i : Instr) (r : Reg) (new old : Values) (fn : CanonicalValues new) (fo : CanonicalValues old) (v w : ℕ)
      (hv : HasValue lane (world_of s) (v % 2 ^ bits i.width) new) (hw : HasValue lane (world_of s) (w % 2 ^ bits i.width) old) where
    abbrev n : ℕ
    n = reg_number r

    abbrev chosen_value : Values
    chosen_value = chosen_by c a.flags (with_part_value (part_of i.width) (a.registers n) new) (with_part_value (part_of i.width) (a.registers n) old)

    part_value : (u : Values) (k : ℕ) → HasValue lane (world_of s) (k % 2 ^ bits i.width) u → HasValue lane (world_of s) (with_part (part_of i.width) (s.registers n) k) (with_part_value (part_of i.width) (a.registers n) u)
    part_value u k h =
        subst (λ j. HasValue lane (world_of s) j (with_part_value (part_of i.width) (a.registers n) u)) (cut_part i.width (s.registers n) k)
        (part_has lane (world_of s) (a.registers n) u (form.registers n) (s.registers n) (k % 2 ^ bits i.width) (word_sized n) (fits_word i.width _ (cut_below i.width k)) (known_.stands.registers n (reg_number_below r)) h
        (part_of i.width) (fits_part i.width _ (cut_below i.width k)))

    chosen_part : (b : Bool) → b ≡ holds c (flags_of s) → HasValue lane (world_of s) (with_part (part_of i.width) (s.registers n) (cond b v w)) chosen_value
    chosen_part b e =
        subst (λ t. HasValue lane (world_of s) (with_part (part_of i.width) (s.registers n) (cond t v w)) chosen_value) (sym e)
        (subst (λ k. HasValue lane (world_of s) k chosen_value) (spread (holds c (flags_of s)))
        (chosen_has a.flags (flags_of s) flags_may lane (world_of s) c _ _ (part_form (a.registers n) new fn (part_of i.width)) (part_form (a.registers n) old fo (part_of i.width))
        (with_part (part_of i.width) (s.registers n) v) (with_part (part_of i.width) (s.registers n) w) (part_value new v hv) (part_value old w hw)))
      where
        spread : (t : Bool) → cond t (with_part (part_of i.width) (s.registers n) v) (with_part (part_of i.width) (s.registers n) w) ≡ with_part (part_of i.width) (s.registers n) (cond t v w)
        spread true = refl
        spread false = refl

    word_part : (k : ℕ) → with_part (part_of i.width) (s.registers n) k < 4294967296
    word_part k = by i.width
      where
        by : (width : Width) → with_part (part_of width) (s.registers n) k < 4294967296
        by width = part_below width (s.registers n) k (word_sized n)

    pub chosen_leads : (b : Bool) → b ≡ holds c (flags_of s) → Leads image lane p a s d [] (puts Whole n chosen_value ∷ []) (sets (part_of i.width) n (cond b v w) ∷ [])
    chosen_leads b e =
        record {
          since = λ fits.
              subst (λ k. Since image lane p a s (done d image p (puts Whole n chosen_value) a) (record s { registers = put s.registers n k })) (whole_is (with_part (part_of i.width) (s.registers n) (cond b v w)) (s.registers n) (word_part (cond b v w)))
              (since_puts image lane p a s a s d (since_itself image lane p a s known_ form) Whole n (with_part (part_of i.width) (s.registers n) (cond b v w)) chosen_value (reg_number_below r) (word_part (cond b v w)) (word_part (cond b v w))
              (choice_form c a.flags _ _ (part_form (a.registers n) new fn (part_of i.width)) (part_form (a.registers n) old fo (part_of i.width))) (chosen_part b e));
          written = λ byte fits f. absurd (false≢true f);
          filled = λ fits. tt;
        }

  chosen_bytes : (width : Width) (r k byte : ℕ) → effects_take (sets (part_of width) r k ∷ []) (AtByte byte) ≡ false
  chosen_bytes B8 r k byte = refl
  chosen_bytes W16 r k byte = refl
  chosen_bytes D32 r k byte = refl

  pub chosen_goes : (c : ℕ) → c < 16 → (i : Instr) (dst src : Option Operand) (imm : Option ℕ) → IsWide i.width → HasTwo (λ x y. IsRegister i.width x × IsPlace i.width y) dst src imm
      → Gives s (IsAccessed lane s (of_operand false a i.width dst ++ of_operand false a i.width src))
      (Row image lane p a s d known_ form i (of_operand false a i.width dst ++ of_operand false a i.width src) [] (steps.chosen c (view_of a d p) (with_operands i dst src imm)))
      (rows.chosen c (with_operands i dst src imm))
  unfolding machine.store_to machine.store
  chosen_goes c lt i (Some (operand.Reg r)) (Some y) None wide fits =
      let reads = of_operand false a i.width (Some y) in
      let R = IsAccessed lane s reads in
      let fy = spelt_place i.width y fits.1 in
      gives_bind s R (λ b. b ≡ holds c (flags_of s)) _ (machine.condition c) _ (condition_gives s R c lt) (λ b e.
      gives_bind s R (Has image lane p a s d known_ form i.width y) _ (machine.value_of i.width (Some y)) _ (read_gives image lane p a s d known_ form R i.width y fy (λ byte h. h)) (λ v hv.
      gives_bind s R (Has image lane p a s d known_ form i.width (operand.Reg r)) _ (machine.value_of i.width (Some (operand.Reg r))) _
      (read_gives image lane p a s d known_ form R i.width (operand.Reg r) tt (λ byte h. absurd h)) (λ w hw.
      gives_this s R _ (going (sets (part_of i.width) (reg_number r) (cond b v w) ∷ []) (next_place i))
      (goes_leads image lane p a s d known_ form (next_place i) reads [] (steps.chosen c (view_of a d p) (with_operands i (Some (operand.Reg r)) (Some y) None)) (sets (part_of i.width) (reg_number r) (cond b v w) ∷ [])
      (λ byte f. absurd (false≢true (sym (chosen_bytes i.width (reg_number r) (cond b v w) byte) ∙ f)))
      (chosen_leads c i r (val i.width y) (val i.width (operand.Reg r)) (value_canonical image lane p a s d known_ form i.width y fy) (value_canonical image lane p a s d known_ form i.width (operand.Reg r) tt) v w
      (cut_has lane (world_of s) i.width (val i.width y) v hv.0) (cut_has lane (world_of s) i.width (val i.width (operand.Reg r)) w hw.0) b e)))))
  chosen_goes c lt i (Some (operand.High r)) (Some y) None wide fits = absurd (none_high i.width r wide fits.0)
    where
      none_high : (width : Width) (r : Reg) → IsWide width → IsRegister width (operand.High r) → ⊥
      none_high B8 r w h = absurd w
      none_high W16 r w h = absurd h
      none_high D32 r w h = absurd h
  chosen_goes c lt i (Some (operand.Imm n)) (Some y) None wide fits = absurd (register_none i.width n fits.0)
    where
      register_none : (width : Width) (n : ℕ) → IsRegister width (operand.Imm n) → ⊥
      register_none B8 n h = h
      register_none W16 n h = h
      register_none D32 n h = h
  chosen_goes c lt i (Some (operand.Mem m)) (Some y) None wide fits = absurd (register_none i.width m fits.0)
    where
      register_none : (width : Width) (m : Mem) → IsRegister width (operand.Mem m) → ⊥
      register_none B8 n h = h
      register_none W16 n h = h
      register_none D32 n h = h
  chosen_goes c lt i None src imm wide fits = absurd fits
  chosen_goes c lt i (Some x) None imm wide fits = absurd fits
  chosen_goes c lt i (Some x) (Some y) (Some n) wide fits = absurd fits

  -- -- DF, and nothing

  pub idle_goes : (i : Instr) → Gives s (IsAccessed lane s []) (Row image lane p a s d known_ form i [] [] []) (goes_on i [])
  idle_goes i =
      gives_this s (IsAccessed lane s []) _ (going [] (next_place i))
      (goes_follow image lane p a s d known_ form (next_place i) [] [] [] []
      (record { since = λ b t h fits. h; written = λ byte fits f. absurd (false≢true f); taken = λ byte. refl; filled = λ fits. tt }))

  pub steered_goes : (i : Instr) (set : Bool) → Gives s (IsAccessed lane s []) (Row image lane p a s d known_ form i [] [] (steers set ∷ [])) (goes_on i (turns_flag 5 set ∷ []))
  steered_goes i set =
      gives_this s (IsAccessed lane s []) _ (going (turns_flag 5 set ∷ []) (next_place i))
      (record {
        is = refl;
        taken = λ byte fits f. absurd (false≢true f);
        ends = λ fits. record {
          stands = steers_stand lane d image p a s known_.stands set;
          slots = known_.whole.activations;
          written = λ byte f. absurd (false≢true f);
          filled = tt;
        };
      })
