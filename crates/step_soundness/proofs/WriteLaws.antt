-- What a row stores keeps what was known before, and the bytes that it writes are accessed.
use Rattle.std.proofs.Common.{◌≡◌, inl, ℕ, zero, suc, ◌+◌, ◌-◌, ◌/◌, ◌%◌, ◌^◌, ◌<◌, ◌≤◌, ◌==◌, ◌||◌, Bool, true, false, cond, List, [], ◌∷◌, Option, Some, None, refl, sym, subst, arith, eqb-true, eq-eqb}
use Rattle.std.specs.List.{list_any}
use Rattle.std.proofs.lemmas.Bool.{false≢true, and_parts, or_left, or_right}
use Rattle.image_map.specs.declared.image.Image.{Image}
use Rattle.ia32_types.specs.declared.Mem.{Mem}
use Rattle.ia32_types.specs.declared.Width.{Width}
use Rattle.ia32_types.specs.declared.Width.TheVariants.{B8, W16, D32}
use Rattle.ia32_types.specs.declared.Operand.{Operand}
use Rattle.ia32_types.specs.declared.Operand.TheVariants as operand
use Rattle.ia32_types.specs.Numbers.{reg_number, size}
use Rattle.ia32_types.specs.Operands.{IsTarget}
use Rattle.ia32_types.proofs.NumberLemmas.{reg_number_below}
use Rattle.ia32_semantics.specs.Effects.{Part, Whole, Word, Low, High, Effect, sets, stores, changed, all_changed, effect_fits, effects_fit, effects_write, effects_take, is_of_bytes, with_part}
use Rattle.ia32_semantics.specs.Operands.{bits, part_of, number_bytes, store as store_reading, address as address_reading}
use Rattle.ia32_semantics.specs.Reading.{gives, faults, ◌>>=◌}
use Rattle.ia32_semantics.specs.State.{State, AtByte, put}
use Rattle.ia32_semantics.proofs.EffectLemmas.{or_true}
use Rattle.alocs.specs.Cells.{Division}
use Rattle.vset.specs.Values.{Values, CanonicalValues}
use Rattle.vset.specs.Members.{HasValue}
use Rattle.abs_semantics.specs.States.{AbsState, HasCanonical}
use Rattle.abs_semantics.specs.StandsFor.{world_of}
use Rattle.abs_semantics.specs.Ownership.{IsKnown}
use Rattle.abs_semantics.specs.Operands.{address}
use Rattle.abs_semantics.specs.Resolve.{resolve}
use Rattle.abs_semantics.specs.Touching.{touches_slot}
use Rattle.abs_steps.specs.declared.accesses.Access.{Access}
use Rattle.abs_steps.specs.Accesses.{access, of_operand}
use Rattle.abs_steps.specs.Effects.{AbsEffect, puts, saves, done, all_done}
use Rattle.abs_steps.specs.Rows.{view_of}
use Rattle.abs_steps.specs.Views.{store}
use Rattle.step_soundness.specs.Accessed.{IsNear, IsAccessed, IsFilled, AreFilled}
use Rattle.step_soundness.specs.Terms.{IsOperand, address_in}
use Rattle.step_soundness.proofs.GivenLaws.{Gives, gives_bind, gives_this, gives_none}
use Rattle.step_soundness.proofs.OperandLaws.{registers_hold}
use Rattle.step_soundness.proofs.PointerLaws.{address_has, address_form}
use Rattle.step_soundness.proofs.ReadLaws.{address_gives}
use Rattle.step_soundness.proofs.SinceLaws.{Since, since_puts, since_saves}
use Rattle.step_soundness.proofs.StoreLaws.{saved_range}
use Rattle.step_soundness.proofs.WidthLaws.{fits_part, fits_word}

-- no warning stands at the accesses that write
abbrev pub IsQuiet : AbsState → ℕ → Values → Option ℕ → Type 0
IsQuiet a p v None = ⊥
IsQuiet a p v (Some len) = ((resolve a p v len).reasons ≡ []) × (list_any (touches_slot len) (resolve a p v len).entries ≡ false)

abbrev pub AreQuiet : AbsState → ℕ → List Access → Type 0
AreQuiet a p [] = Unit {0}
AreQuiet a p (x ∷ xs) = IsQuiet a p x.addr x.len × AreQuiet a p xs

-- some effects follow abstract ones from whatever came of the state by changes of registers and memory, and write what is accessed
pub record Follows (image : Image) (lane p : ℕ) (a : AbsState) (s : State) (d : Division) (xs : List Access) (given : List AbsEffect) (es : List Effect) : Type 0 where
  pub since : (b : AbsState) (t : State) → Since image lane p a s b t → effects_fit image t.memory es ≡ true → Since image lane p a s (all_done d image p given b) (all_changed es t)
  pub written : (byte : ℕ) → effects_fit image s.memory es ≡ true → effects_write es (AtByte byte) ≡ true → IsAccessed lane s xs byte
  pub taken : (byte : ℕ) → effects_take es (AtByte byte) ≡ false
  pub filled : effects_fit image s.memory es ≡ true → AreFilled lane s (λ byte. effects_write es (AtByte byte)) xs

-- one of two tests alone may pass
pub or_end : (b : Bool) → (b || false) ≡ true → b ≡ true
or_end true e = refl
or_end false e = e

-- -- Numbers cut to their widths

cut_bytes : (width : Width) (n : ℕ) → number_bytes (size width) (n % 2 ^ bits width) ≡ number_bytes (size width) n
cut_bytes B8 n = let first : n % 256 % 256 ≡ n % 256 = omega arith in λ i. first i ∷ []
cut_bytes W16 n =
    let first : n % 65536 % 256 ≡ n % 256 = omega arith in
    let second : n % 65536 / 256 % 256 ≡ n / 256 % 256 = omega arith in
    λ i. first i ∷ second i ∷ []
cut_bytes D32 n =
    let first : n % 4294967296 % 256 ≡ n % 256 = omega arith in
    let second : n % 4294967296 / 256 % 256 ≡ n / 256 % 256 = omega arith in
    let third : n % 4294967296 / 256 / 256 % 256 ≡ n / 256 / 256 % 256 = omega arith in
    let last : n % 4294967296 / 256 / 256 / 256 % 256 ≡ n / 256 / 256 / 256 % 256 = omega arith in
    λ i. first i ∷ second i ∷ third i ∷ last i ∷ []

pub cut_part : (width : Width) (old n : ℕ) → with_part (part_of width) old (n % 2 ^ bits width) ≡ with_part (part_of width) old n
unfolding with_part
cut_part B8 old n = omega arith
cut_part W16 old n = omega arith
cut_part D32 old n = omega arith

cut_high : (old n : ℕ) → with_part High old (n % 256) ≡ with_part High old n
unfolding with_part
cut_high old n = omega arith

pub cut_below : (width : Width) (n : ℕ) → n % 2 ^ bits width < 2 ^ bits width
cut_below B8 n = omega arith
cut_below W16 n = omega arith
cut_below D32 n = omega arith

-- a byte among those of a number that is stored
pub stored_within : (k at v y : ℕ) → is_of_bytes at (number_bytes k v) y ≡ true → (at ≤ y) × (y < at + k)
stored_within zero at v y e = absurd (false≢true e)
stored_within (suc k) at v y e =
    or_true (at == y) _ e
    (λ f. let same : at ≡ y = eqb-true at y f in (omega (arith, same), omega (arith, same)))
    (λ f. let rest : (at + 1 ≤ y) × (y < at + 1 + k) = stored_within k (at + 1) (v / 256) y f in (omega (arith, rest), omega (arith, rest)))

-- each byte of a number that is stored is among those
pub number_within : (k at v j : ℕ) → j < k → is_of_bytes at (number_bytes k v) (at + j) ≡ true
number_within zero at v j lt = absurd (omega (arith, lt))
number_within (suc k) at v zero lt = or_left (at == at + 0) _ (eq-eqb at (at + 0) (omega arith))
number_within (suc k) at v (suc j) lt =
    or_right (at == at + suc j) _
    (subst (λ x. is_of_bytes (at + 1) (number_bytes k (v / 256)) x ≡ true) (let e : at + 1 + j ≡ at + suc j = omega arith in e) (number_within k (at + 1) (v / 256) j (omega (arith, lt))))

module _ (image : Image) (lane p : ℕ) (a : AbsState) (s : State) (d : Division) (known_ : IsKnown image lane a p s) (form : HasCanonical a) where
  -- -- A register

  -- a part of a register takes the low bits of a number
  pub sets_since : (width : Width) (r n : ℕ) (w : Values) → r < 8 → CanonicalValues w → HasValue lane (world_of s) (n % 2 ^ bits width) w
      → (b : AbsState) (t : State) → Since image lane p a s b t → Since image lane p a s (done d image p (puts (part_of width) r w) b) (changed (sets (part_of width) r n) t)
  sets_since width r n w few fw has b t h =
      subst (λ x. Since image lane p a s (done d image p (puts (part_of width) r w) b) (record t { registers = put t.registers r x })) (cut_part width (t.registers r) n)
      (since_puts image lane p a s b t d h (part_of width) r (n % 2 ^ bits width) w few (fits_part width (n % 2 ^ bits width) (cut_below width n)) (fits_word width (n % 2 ^ bits width) (cut_below width n)) fw has)

  pub high_since : (r n : ℕ) (w : Values) → r < 8 → CanonicalValues w → HasValue lane (world_of s) (n % 256) w
      → (b : AbsState) (t : State) → Since image lane p a s b t → Since image lane p a s (done d image p (puts High r w) b) (changed (sets High r n) t)
  high_since r n w few fw has b t h =
      let below : n % 256 < 256 = omega arith in
      subst (λ x. Since image lane p a s (done d image p (puts High r w) b) (record t { registers = put t.registers r x })) (cut_high (t.registers r) n)
      (since_puts image lane p a s b t d h High r (n % 256) w few below (omega (arith, below)) fw has)

  -- one register
  pub sets_follow : (width : Width) (r n : ℕ) (w : Values) → r < 8 → CanonicalValues w → HasValue lane (world_of s) (n % 2 ^ bits width) w
      → Follows image lane p a s d [] (puts (part_of width) r w ∷ []) (sets (part_of width) r n ∷ [])
  sets_follow width r n w few fw has =
      record { since = λ b t h fits. sets_since width r n w few fw has b t h; written = λ byte fits e. absurd (false≢true e); taken = λ byte. no_byte (part_of width) byte; filled = λ fits. tt }
    where
      no_byte : (part : Part) (byte : ℕ) → effects_take (sets part r n ∷ []) (AtByte byte) ≡ false
      no_byte Whole byte = refl
      no_byte Word byte = refl
      no_byte Low byte = refl
      no_byte High byte = refl

  -- -- Memory

  module _ (width : Width) (at n : ℕ) (v w : Values) (fv : CanonicalValues v) (fw : CanonicalValues w) (word : at < 4294967296) (has : HasValue lane (world_of s) at v)
      (held : HasValue lane (world_of s) (n % 2 ^ bits width) w) (quiet : IsQuiet a p v (Some (size width))) where
    pub saves_since : (b : AbsState) (t : State) → Since image lane p a s b t → effect_fits image t.memory (stores at (number_bytes (size width) n)) ≡ true
        → Since image lane p a s (done d image p (saves v (size width) w) b) (changed (stores at (number_bytes (size width) n)) t)
    saves_since b t h fits =
        subst (λ bytes. Since image lane p a s (done d image p (saves v (size width) w) b) (changed (stores at bytes) t)) (cut_bytes width n)
        (since_saves image lane p a s b t d h width at (n % 2 ^ bits width) v w fv fw word (cut_below width n) has held quiet.0 quiet.1
        (subst (λ bytes. effect_fits image t.memory (stores at bytes) ≡ true) (sym (cut_bytes width n)) fits))

    pub saves_near : (byte : ℕ) → effect_fits image s.memory (stores at (number_bytes (size width) n)) ≡ true → is_of_bytes at (number_bytes (size width) n) byte ≡ true → IsNear lane s v (size width) byte
    saves_near byte fits e =
        let bounds : (at ≤ byte) × (byte < at + size width) = stored_within (size width) at n byte e in
        record {
          at = at;
          count = size width;
          range = saved_range image lane s width at n v word has fits;
          distance = byte - at;
          near = omega (arith, bounds);
          is = omega (arith, bounds);
        }

    -- it is written as a whole
    pub saves_filled : effect_fits image s.memory (stores at (number_bytes (size width) n)) ≡ true → (test : ℕ → Bool) → ((byte : ℕ) → is_of_bytes at (number_bytes (size width) n) byte ≡ true → test byte ≡ true)
        → IsFilled lane s test v (size width)
    saves_filled fits test passes =
        record { at = at; range = saved_range image lane s width at n v word has fits; filled = λ k lt. passes (at + k) (number_within (size width) at n k lt) }

    pub saves_follow : Follows image lane p a s d (access true v (Some (size width)) ∷ []) (saves v (size width) w ∷ []) (stores at (number_bytes (size width) n) ∷ [])
    saves_follow =
        record {
          since = λ b t h fits. saves_since b t h (and_parts _ _ fits).0;
          written = λ byte fits e. inl (saves_near byte (and_parts _ _ fits).0 (or_end _ e));
          taken = λ byte. refl;
          filled = λ fits. (saves_filled (and_parts _ _ fits).0 (λ byte. effects_write (stores at (number_bytes (size width) n) ∷ []) (AtByte byte)) (λ byte e. or_left _ _ e), tt);
        }

  -- -- Operands

  memory_follows : (width : Width) (m : Mem) (gs : Bool) → gs ≡ false → IsOperand (operand.Mem m) → (n : ℕ) (w : Values) → CanonicalValues w → HasValue lane (world_of s) (n % 2 ^ bits width) w
      → AreQuiet a p (cond gs [] (access true (address a m) (Some (size width)) ∷ []))
      → Gives s (λ byte. ⊥) (Follows image lane p a s d (cond gs [] (access true (address a m) (Some (size width)) ∷ [])) (cond gs [] (saves (address a m) (size width) w ∷ [])))
      (cond gs faults (address_reading m >>= (λ at. gives (stores at (number_bytes (size width) n) ∷ []))))
  memory_follows width m true is spelt n w fw has quiet = gives_none s (λ byte. ⊥) _
  memory_follows width m false is spelt n w fw has quiet =
      gives_bind s (λ byte. ⊥) (λ at. at ≡ address_in s m) _ (address_reading m) (λ at. gives (stores at (number_bytes (size width) n) ∷ [])) (address_gives s (λ byte. ⊥) m)
      (λ at same. gives_this s (λ byte. ⊥) _ (stores at (number_bytes (size width) n) ∷ [])
      (saves_follow width at n (address a m) w (address_form lane (world_of s) a s (registers_hold image lane a p s d known_ form) m (omega (arith, spelt)) spelt.1) fw
      (subst (λ x. x < 4294967296) (sym same) (omega arith))
      (subst (λ x. HasValue lane (world_of s) x (address a m)) (sym same) (address_has lane (world_of s) a s (registers_hold image lane a p s d known_ form) m (omega (arith, spelt)) spelt.1)) has quiet.0))

  -- a number is stored into an operand
  pub store_follows : (width : Width) (o : Operand) → IsTarget width o → IsOperand o → (n : ℕ) (w : Values) → CanonicalValues w → HasValue lane (world_of s) (n % 2 ^ bits width) w
      → AreQuiet a p (of_operand true a width (Some o))
      → Gives s (λ byte. ⊥) (Follows image lane p a s d (of_operand true a width (Some o)) (store (view_of a d p) width o w)) (store_reading width o n)
  unfolding store store_reading
  store_follows width (operand.Reg r) target spelt n w fw has quiet =
      gives_this s (λ byte. ⊥) _ (sets (part_of width) (reg_number r) n ∷ []) (sets_follow width (reg_number r) n w (reg_number_below r) fw has)
  store_follows B8 (operand.High r) target spelt n w fw has quiet =
      gives_this s (λ byte. ⊥) _ (sets High (reg_number r) n ∷ [])
      (record { since = λ b t h fits. high_since (reg_number r) n w (reg_number_below r) fw has b t h; written = λ byte fits e. absurd (false≢true e); taken = λ byte. refl; filled = λ fits. tt })
  store_follows W16 (operand.High r) target spelt n w fw has quiet = absurd target
  store_follows D32 (operand.High r) target spelt n w fw has quiet = absurd target
  store_follows width (operand.Imm k) target spelt n w fw has quiet = absurd target
  store_follows width (operand.Mem m) target spelt n w fw has quiet = memory_follows width m m.gs target.1 spelt n w fw has quiet
