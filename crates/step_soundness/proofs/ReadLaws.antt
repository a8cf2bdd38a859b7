-- What a row reads of its operands is among their values, and the bytes that it asks for are accessed.
use Rattle.std.proofs.Common.{◌≡◌, ◌⊎◌, inl, inr, ℕ, zero, suc, ◌+◌, ◌-◌, ◌*◌, ◌/◌, ◌%◌, ◌^◌, ◌<◌, ◌≤◌, ◌==◌, ◌||◌, Bool, true, false, cond, List, [], ◌∷◌, Option, Some, None, refl, sym, ◌∙◌, ap, subst, arith, eqb-true}
use Rattle.std.specs.Prelude.{is_some}
use Rattle.std.specs.Option.{option_map}
use Rattle.std.proofs.lemmas.Bool.{false≢true, true≢false}
use Rattle.std.proofs.lemmas.Option.{none-some}
use Rattle.image_map.specs.declared.image.Image.{Image}
use Rattle.ia32_types.specs.declared.Mem.{Mem}
use Rattle.ia32_types.specs.declared.Reg.{Reg}
use Rattle.ia32_types.specs.declared.Width.{Width}
use Rattle.ia32_types.specs.declared.Width.TheVariants.{B8, W16, D32}
use Rattle.ia32_types.specs.declared.Operand.{Operand}
use Rattle.ia32_types.specs.declared.Operand.TheVariants as operand
use Rattle.ia32_types.specs.Numbers.{reg_number, size}
use Rattle.ia32_semantics.specs.Operands.{bits, low_part, stored_number, register_or_zero as register_reading, address as address_reading, memory_value as memory_reading, value as value_reading, any_word}
use Rattle.ia32_semantics.specs.Reading.{gives, outcome, asks, with_byte, ◌>>=◌}
use Rattle.ia32_semantics.specs.State.{State, AtByte, bytes_at, little_endian}
use Rattle.ia32_semantics.proofs.EffectLemmas.{or_true}
use Rattle.ia32_semantics.proofs.ReadingLemmas.{asks_bind, then_asks}
use Rattle.ia32_semantics.proofs.OperandLemmas.{byte_fits}
use Rattle.alocs.specs.Cells.{Division}
use Rattle.vset.specs.Values.{Values, Top}
use Rattle.vset.specs.World.{World}
use Rattle.vset.specs.Members.{HasValue}
use Rattle.abs_semantics.specs.States.{AbsState, HasCanonical}
use Rattle.abs_semantics.specs.StandsFor.{world_of}
use Rattle.abs_semantics.specs.Ownership.{IsKnown}
use Rattle.abs_semantics.specs.Accesses.{read}
use Rattle.abs_semantics.specs.Operands.{address, any_of, read_as, operand_value}
use Rattle.abs_semantics.proofs.FirstLemmas.{bytes_mapped}
use Rattle.step_soundness.specs.Accessed.{IsNear}
use Rattle.step_soundness.specs.Terms.{IsOperand, address_in, register_or_zero}
use Rattle.step_soundness.proofs.GivenLaws.{Gives, gives_bind, gives_this, gives_register}
use Rattle.step_soundness.proofs.OperandLaws.{operand_has, number_outcome, registers_hold, number_below, address_outcome}
use Rattle.step_soundness.proofs.PointerLaws.{address_has}
use Rattle.step_soundness.proofs.StoreLaws.{some_size}

-- a number that a row has read: it is among the values, and lies below the bound of its width unless it may be any
pub record IsRead (lane : ℕ) (w : World) (width : Width) (v : Values) (n : ℕ) : Type 0 where
  pub has : HasValue lane w n v
  pub sure : (n < 2 ^ bits width) ⊎ ((v ≡ Top) × (width ≡ D32))

cut_is : (width : Width) (n : ℕ) → n < 2 ^ bits width → n % 2 ^ bits width ≡ n
cut_is B8 n lt = omega (arith, lt)
cut_is W16 n lt = omega (arith, lt)
cut_is D32 n lt = omega (arith, lt)

-- its low bits are among the values too
pub cut_has : (lane : ℕ) (w : World) (width : Width) (v : Values) (n : ℕ) → IsRead lane w width v n → HasValue lane w (n % 2 ^ bits width) v
cut_has lane w width v n is = by is.sure
  where
    by : (n < 2 ^ bits width) ⊎ ((v ≡ Top) × (width ≡ D32)) → HasValue lane w (n % 2 ^ bits width) v
    by (inl lt) = subst (λ k. HasValue lane w k v) (sym (cut_is width n lt)) is.has
    by (inr e) = subst (HasValue lane w (n % 2 ^ bits width)) (sym e.0) tt

-- what is read of a register is the register, of a number the number, and of memory what stands there
abbrev pub IsSelf : State → Width → Operand → ℕ → Type 0
IsSelf s width (operand.Reg r) n = n ≡ low_part width (s.registers (reg_number r))
IsSelf s width (operand.High r) n = Unit {0}
IsSelf s width (operand.Imm k) n = n ≡ low_part width k
IsSelf s width (operand.Mem m) n = m.gs ≡ false → option_map little_endian (bytes_at s.memory (address_in s m) (size width)) ≡ Some n

-- -- Bytes that are asked for

-- a number of n bytes is made of these
stored_asks : (s : State) (n a : ℕ) (words : List ℕ) (at : ℕ) → asks (stored_number n a) s words (AtByte at) ≡ true → (a ≤ at) × (at < a + n)
unfolding stored_number
stored_asks s zero a words at f = absurd (false≢true f)
stored_asks s (suc n) a words at f =
    or_true (a == at) _ f
    (λ e. let same : a ≡ at = eqb-true a at e in (omega (arith, same), omega (arith, same)))
    (λ e. let rest : (a + 1 ≤ at) × (at < a + 1 + n) = stored_asks s n (a + 1) words at (later (s.memory a) e) in (omega (arith, rest), omega (arith, rest)))
  where
    end : (o : Option (ℕ × List ℕ)) (low : ℕ) → then_asks o (λ x left. asks (gives (low + 256 * x)) s left (AtByte at)) ≡ false
    end None low = refl
    end (Some x) low = refl

    or_none : (b c : Bool) → c ≡ false → (b || c) ≡ true → b ≡ true
    or_none true c e g = refl
    or_none false c e g = absurd (false≢true (sym e ∙ g))

    later : (o : Option ℕ) → with_byte o false (λ low. asks (stored_number n (a + 1) >>= (λ rest. gives (low + 256 * rest))) s words (AtByte at)) ≡ true
        → asks (stored_number n (a + 1)) s words (AtByte at) ≡ true
    later None e = absurd (false≢true e)
    later (Some low) e =
        or_none (asks (stored_number n (a + 1)) s words (AtByte at)) _ (end (outcome (stored_number n (a + 1)) s words) low)
        (sym (asks_bind (stored_number n (a + 1)) (λ rest. gives (low + 256 * rest)) s words (AtByte at)) ∙ e)

-- the bytes of the number are there
stored_there : (s : State) (n a : ℕ) (words rest : List ℕ) (x : ℕ) → outcome (stored_number n a) s words ≡ Some (x, rest) → (k : ℕ) → k < n → is_some (s.memory (a + k)) ≡ true
stored_there s n a words rest x e = by (bytes_at s.memory a n) refl (sym (number_outcome n a s words) ∙ e)
  where
    by : (o : Option (List ℕ)) → bytes_at s.memory a n ≡ o → option_map {U = ℕ × List ℕ} (λ bytes. (little_endian bytes, words)) o ≡ Some (x, rest)
        → (k : ℕ) → k < n → is_some (s.memory (a + k)) ≡ true
    by None f g = absurd (none-some _ g)
    by (Some bytes) f g = bytes_mapped s.memory a n bytes f

-- a number at an address that a value has
pub stored_near : (lane : ℕ) (s : State) (n a : ℕ) (v : Values) → a < 4294967296 → 1 ≤ n → HasValue lane (world_of s) a v
    → (words rest : List ℕ) (x : ℕ) → outcome (stored_number n a) s words ≡ Some (x, rest) → (at : ℕ) → asks (stored_number n a) s words (AtByte at) ≡ true → IsNear lane s v n at
stored_near lane s n a v word some has words rest x e at f =
    let bounds : (a ≤ at) × (at < a + n) = stored_asks s n a words at f in
    record {
      at = a;
      count = n;
      range = record { word = word; member = has; some = some; within = omega arith; mapped = stored_there s n a words rest x e };
      distance = at - a;
      near = omega (arith, bounds);
      is = omega (arith, bounds);
    }

one_register : (s : State) (R : ℕ → Type 0) (o : Option Reg) → Gives s R (λ n. n ≡ register_or_zero s o) (register_reading o)
unfolding register_reading
one_register s R None = gives_this s R (λ n. n ≡ 0) 0 refl
one_register s R (Some r) =
    gives_register s R (λ n. n ≡ s.registers (reg_number r)) (reg_number r) (λ v. gives v) (gives_this s R (λ n. n ≡ s.registers (reg_number r)) (s.registers (reg_number r)) refl)

pub address_gives : (s : State) (R : ℕ → Type 0) (m : Mem) → Gives s R (λ at. at ≡ address_in s m) (address_reading m)
unfolding address_reading
address_gives s R m =
    gives_bind s R (λ base. base ≡ register_or_zero s m.base) (λ at. at ≡ address_in s m) (register_reading m.base) _ (one_register s R m.base) (λ base e.
    gives_bind s R (λ index. index ≡ register_or_zero s m.index) (λ at. at ≡ address_in s m) (register_reading m.index) _ (one_register s R m.index) (λ index f.
    gives_this s R (λ at. at ≡ address_in s m) ((base + index * m.scale + m.disp) % 4294967296)
    (ap (λ b. (b + index * m.scale + m.disp) % 4294967296) e ∙ ap (λ j. (register_or_zero s m.base + j * m.scale + m.disp) % 4294967296) f)))

-- -- Operands

pub low_below : (width : Width) (n : ℕ) → n < 4294967296 → low_part width n < 2 ^ bits width
low_below B8 n lt = omega arith
low_below W16 n lt = omega arith
low_below D32 n lt = lt

number_in : Option (ℕ × List ℕ) → ℕ
number_in None = 0
number_in (Some given) = given.0

module _ (image : Image) (lane : ℕ) (a : AbsState) (p : ℕ) (s : State) (d : Division) (known_ : IsKnown image lane a p s) (form : HasCanonical a) where
  -- memory from the base of GS may hold anything
  any_sure : (width : Width) (v word : ℕ) → v ≡ low_part width word → (v < 2 ^ bits width) ⊎ ((any_of width ≡ Top) × (width ≡ D32))
  any_sure B8 v word e = inl (subst (λ n. n < 256) (sym e) (omega arith))
  any_sure W16 v word e = inl (subst (λ n. n < 65536) (sym e) (omega arith))
  any_sure D32 v word e = inr (refl, refl)

  memory_sure : (width : Width) (gs : Bool) (at : ℕ) (v : Values) (words rest : List ℕ) (n : ℕ) → outcome (memory_reading width gs at) s words ≡ Some (n, rest)
      → (n < 2 ^ bits width) ⊎ ((cond gs (any_of width) v ≡ Top) × (width ≡ D32))
  unfolding memory_reading any_word number_in little_endian
  memory_sure width true at v [] rest n e = absurd (none-some _ e)
  memory_sure width true at v (word ∷ words) rest n e = any_sure width n word (sym (ap number_in e))
  memory_sure width false at v words rest n e = by (bytes_at s.memory at (size width)) refl (sym (number_outcome (size width) at s words) ∙ e)
    where
      by : (o : Option (List ℕ)) → bytes_at s.memory at (size width) ≡ o → option_map {U = ℕ × List ℕ} (λ bytes. (little_endian bytes, words)) o ≡ Some (n, rest) → (n < 2 ^ bits width) ⊎ ((v ≡ Top) × (width ≡ D32))
      by None f g = absurd (none-some _ g)
      by (Some bytes) f g = inl (subst (λ k. k < 2 ^ bits width) (ap number_in g) (number_below image lane a p s d known_ form width at bytes f))

  memory_word : (width : Width) (gs : Bool) (at : ℕ) (words rest : List ℕ) (n : ℕ) → outcome (memory_reading width gs at) s words ≡ Some (n, rest) → gs ≡ false
      → option_map little_endian (bytes_at s.memory at (size width)) ≡ Some n
  unfolding memory_reading number_in
  memory_word width true at words rest n e f = absurd (true≢false f)
  memory_word width false at words rest n e f = by (bytes_at s.memory at (size width)) (sym (number_outcome (size width) at s words) ∙ e)
    where
      by : (o : Option (List ℕ)) → option_map {U = ℕ × List ℕ} (λ bytes. (little_endian bytes, words)) o ≡ Some (n, rest) → option_map little_endian o ≡ Some n
      by None g = absurd (none-some _ g)
      by (Some bytes) g = ap (λ k. Some k) (ap number_in g)

  memory_asks : (width : Width) (gs : Bool) (at : ℕ) (v : Values) → at < 4294967296 → HasValue lane (world_of s) at v → (words rest : List ℕ) (n : ℕ) → outcome (memory_reading width gs at) s words ≡ Some (n, rest)
      → (byte : ℕ) → asks (memory_reading width gs at) s words (AtByte byte) ≡ true → (gs ≡ false) × IsNear lane s v (size width) byte
  unfolding memory_reading any_word
  memory_asks width true at v word has [] rest n e byte f = absurd (none-some _ e)
  memory_asks width true at v word has (first ∷ words) rest n e byte f = absurd (false≢true f)
  memory_asks width false at v word has words rest n e byte f = (refl, stored_near lane s (size width) at v word (some_size width) has words rest n e byte f)

  -- which of its bytes an operand in memory is asked for
  abbrev pub IsAsked : Width → Operand → ℕ → Type 0
  IsAsked width (operand.Reg r) byte = ⊥
  IsAsked width (operand.High r) byte = ⊥
  IsAsked width (operand.Imm n) byte = ⊥
  IsAsked width (operand.Mem m) byte = (m.gs ≡ false) × IsNear lane s (address a m) (size width) byte

  abbrev pub IsValueOf : Width → Operand → ℕ → Type 0
  IsValueOf width o n = IsRead lane (world_of s) width (operand_value a d p width o) n × IsSelf s width o n

  value_sure : (width : Width) (o : Operand) → IsOperand o → (words rest : List ℕ) (n : ℕ) → outcome (value_reading width o) s words ≡ Some (n, rest)
      → ((n < 2 ^ bits width) ⊎ ((operand_value a d p width o ≡ Top) × (width ≡ D32))) × IsSelf s width o n
  unfolding value_reading operand_value number_in
  value_sure width (operand.Reg r) spelt words rest n e =
      let same : low_part width (s.registers (reg_number r)) ≡ n = ap number_in e in
      (inl (subst (λ k. k < 2 ^ bits width) same (low_below width (s.registers (reg_number r)) (known_.whole.laid_out.sized.registers (reg_number r)))), sym same)
  value_sure width (operand.High r) spelt words rest n e =
      let same : s.registers (reg_number r) / 256 % 256 ≡ n = ap number_in e in
      let below : s.registers (reg_number r) / 256 % 256 < 256 = omega arith in
      (inl (subst (λ k. k < 2 ^ bits width) same (byte_fits width (s.registers (reg_number r) / 256 % 256) below)), tt)
  value_sure width (operand.Imm k) spelt words rest n e =
      let same : low_part width k ≡ n = ap number_in e in (inl (subst (λ j. j < 2 ^ bits width) same (low_below width k spelt)), sym same)
  value_sure width (operand.Mem m) spelt words rest n e = (
    memory_sure width m.gs (address_in s m) (read_as width (read a d p (address a m) (size width))) words rest n (sym (address_outcome m (λ at. memory_reading width m.gs at) s words) ∙ e),
    memory_word width m.gs (address_in s m) words rest n (sym (address_outcome m (λ at. memory_reading width m.gs at) s words) ∙ e),
  )

  value_asks : (width : Width) (o : Operand) → IsOperand o → (words rest : List ℕ) (n : ℕ) → outcome (value_reading width o) s words ≡ Some (n, rest)
      → (byte : ℕ) → asks (value_reading width o) s words (AtByte byte) ≡ true → IsAsked width o byte
  unfolding value_reading
  value_asks width (operand.Reg r) spelt words rest n e byte f = absurd (false≢true f)
  value_asks width (operand.High r) spelt words rest n e byte f = absurd (false≢true f)
  value_asks width (operand.Imm k) spelt words rest n e byte f = absurd (false≢true f)
  value_asks width (operand.Mem m) spelt words rest n e byte f =
      (gives_bind s (IsAsked width (operand.Mem m)) (λ at. at ≡ address_in s m) (λ k. Unit {0}) (address_reading m) (λ at. memory_reading width m.gs at)
      (address_gives s (IsAsked width (operand.Mem m)) m)
      (λ at same. record {
        given = λ ws left k g. tt;
        asked = λ ws left k g. memory_asks width m.gs at (address a m) (subst (λ x. x < 4294967296) (sym same) (omega arith))
            (subst (λ x. HasValue lane (world_of s) x (address a m)) (sym same) (address_has lane (world_of s) a s (registers_hold image lane a p s d known_ form) m (omega (arith, spelt)) spelt.1)) ws left k g;
      })).asked words rest n e byte f

  -- what a row reads of an operand
  pub value_gives : (width : Width) (o : Operand) → IsOperand o → Gives s (IsAsked width o) (IsValueOf width o) (value_reading width o)
  value_gives width o spelt =
      record {
        given = λ words rest n e. let both = value_sure width o spelt words rest n e in
            (record { has = operand_has image lane a p s d known_ form width o spelt words rest n e; sure = both.0 }, both.1);
        asked = value_asks width o spelt;
      }
