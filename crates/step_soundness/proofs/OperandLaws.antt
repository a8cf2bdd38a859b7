-- The values of operands hold what the machine reads.
use Rattle.std.proofs.Common.{◌≡◌, ℕ, zero, suc, ◌+◌, ◌*◌, ◌%◌, ◌^◌, ◌<◌, ◌≤◌, Bool, true, false, cond, List, [], ◌∷◌, Option, Some, None, refl, sym, ◌∙◌, ap, subst, arith}
use Rattle.std.specs.Option.{option_map}
use Rattle.image_map.specs.declared.image.Image.{Image}
use Rattle.ia32_types.specs.declared.Mem.{Mem}
use Rattle.ia32_types.specs.declared.Reg.{Reg}
use Rattle.ia32_types.specs.declared.Width.{Width}
use Rattle.ia32_types.specs.declared.Width.TheVariants.{B8, W16, D32}
use Rattle.ia32_types.specs.declared.Operand.{Operand}
use Rattle.ia32_types.specs.declared.Operand.TheVariants as operand
use Rattle.ia32_types.specs.Numbers.{reg_number, size}
use Rattle.ia32_types.proofs.NumberLemmas.{reg_number_below}
use Rattle.ia32_semantics.specs.Operands.{bits, low_part, stored_number, register_or_zero as register_reading, address as address_reading, memory_value as memory_reading, value, any_word}
use Rattle.ia32_semantics.specs.Reading.{Reading, gives, outcome, with_byte, ◌>>=◌}
use Rattle.ia32_semantics.specs.State.{State, bytes_at, joined, little_endian}
use Rattle.ia32_semantics.proofs.ReadingLemmas.{outcome_bind, then_outcome}
use Rattle.alocs.specs.Cells.{Division}
use Rattle.vset.specs.Values.{Values, only_number}
use Rattle.vset.specs.World.{World}
use Rattle.vset.specs.Members.{HasValue}
use Rattle.strided.specs.Interval.{Interval}
use Rattle.abs_alu.proofs.WordLemmas.{numbers_has, only_has}
use Rattle.abs_semantics.specs.States.{AbsState, HasCanonical}
use Rattle.abs_semantics.specs.StandsFor.{world_of}
use Rattle.abs_semantics.specs.Ownership.{IsKnown}
use Rattle.abs_semantics.specs.Accesses.{read}
use Rattle.abs_semantics.specs.Operands.{address, any_of, numbers_or_any, read_as, operand_value}
use Rattle.abs_semantics.proofs.ReadLemmas.{reads_are_members}
use Rattle.abs_semantics.proofs.FirstLemmas.{below_bytes, bytes_mapped}
use Rattle.abs_semantics.proofs.RangeLemmas.{numbers_1, numbers_2, numbers_4}
use Rattle.step_soundness.specs.Terms.{RegistersHold, register_or_zero, address_in, IsOperand}
use Rattle.step_soundness.proofs.WordLaws.{word_has, any_has, low_has, high_has}
use Rattle.step_soundness.proofs.PointerLaws.{address_has}

-- -- What the machine reads

pub address_outcome : {A : Type 0} (m : Mem) (f : ℕ → Reading A) (s : State) (words : List ℕ) → outcome (address_reading m >>= f) s words ≡ outcome (f (address_in s m)) s words
unfolding address_reading register_reading
address_outcome m f s words =
    outcome_bind (address_reading m) f s words
    ∙ ap (λ o. then_outcome o (λ x rest. outcome (f x) s rest)) (given m.base m.index)
  where
    one_register : {B : Type 0} (o : Option Reg) (g : ℕ → Reading B) → outcome (register_reading o >>= g) s words ≡ outcome (g (register_or_zero s o)) s words
    one_register None g = refl
    one_register (Some r) g = refl

    given : (o p : Option Reg) → outcome (register_reading o >>= (λ base. register_reading p >>= (λ index. gives ((base + index * m.scale + m.disp) % 4294967296)))) s words
        ≡ Some ((register_or_zero s o + register_or_zero s p * m.scale + m.disp) % 4294967296, words)
    given o p = one_register o _ ∙ one_register p _

pub number_outcome : (n a : ℕ) (s : State) (words : List ℕ) → outcome (stored_number n a) s words ≡ option_map (λ bytes. (little_endian bytes, words)) (bytes_at s.memory a n)
unfolding stored_number bytes_at little_endian
number_outcome zero a s words = refl
number_outcome (suc n) a s words = by (s.memory a) (bytes_at s.memory (a + 1) n) (number_outcome n (a + 1) s words)
  where
    by : (m : Option ℕ) (o : Option (List ℕ)) → outcome (stored_number n (a + 1)) s words ≡ option_map (λ bytes. (little_endian bytes, words)) o
        → with_byte m None (λ low. outcome (stored_number n (a + 1) >>= (λ rest. gives (low + 256 * rest))) s words) ≡ option_map (λ bytes. (little_endian bytes, words)) (joined m o)
    by None o e = refl
    by (Some low) None e = outcome_bind (stored_number n (a + 1)) (λ rest. gives (low + 256 * rest)) s words ∙ ap (λ r. then_outcome r (λ x rest. outcome (gives (low + 256 * x)) s rest)) e
    by (Some low) (Some bytes) e = outcome_bind (stored_number n (a + 1)) (λ rest. gives (low + 256 * rest)) s words ∙ ap (λ r. then_outcome r (λ x rest. outcome (gives (low + 256 * x)) s rest)) e

-- -- Bytes of memory

-- what is read at a width
read_as_has : (lane : ℕ) (w : World) (width : Width) (v : Values) (n : ℕ) → n < 2 ^ bits width → HasValue lane w n v → HasValue lane w n (read_as width v)
read_as_has lane w B8 v n lt has = by (only_number v) refl
  where
    by : (o : Option Interval) → only_number v ≡ o → HasValue lane w n (numbers_or_any B8 o)
    by None e = any_has lane w B8 n lt
    by (Some x) e = numbers_has lane w n (omega (arith, lt)) x (only_has lane w n (omega (arith, lt)) v x e has)
read_as_has lane w W16 v n lt has = by (only_number v) refl
  where
    by : (o : Option Interval) → only_number v ≡ o → HasValue lane w n (numbers_or_any W16 o)
    by None e = any_has lane w W16 n lt
    by (Some x) e = numbers_has lane w n (omega (arith, lt)) x (only_has lane w n (omega (arith, lt)) v x e has)
read_as_has lane w D32 v n lt has = has

module _ (image : Image) (lane : ℕ) (a : AbsState) (p : ℕ) (s : State) (d : Division) (known_ : IsKnown image lane a p s) (form : HasCanonical a) where
  pub registers_hold : RegistersHold lane (world_of s) a s
  registers_hold = record { held = known_.stands.registers; form = form.registers; sized = known_.whole.laid_out.sized.registers }

  pub number_below : (width : Width) (at : ℕ) (bytes : List ℕ) → bytes_at s.memory at (size width) ≡ Some bytes → little_endian bytes < 2 ^ bits width
  number_below B8 at bytes e = let b = below_bytes s.memory known_.whole.laid_out.sized.memory at 1 bytes e in omega (arith, b, numbers_1)
  number_below W16 at bytes e = let b = below_bytes s.memory known_.whole.laid_out.sized.memory at 2 bytes e in omega (arith, b, numbers_2)
  number_below D32 at bytes e = let b = below_bytes s.memory known_.whole.laid_out.sized.memory at 4 bytes e in omega (arith, b, numbers_4)

  some_bytes : (width : Width) → 1 ≤ size width
  some_bytes B8 = omega arith
  some_bytes W16 = omega arith
  some_bytes D32 = omega arith

  -- so many bytes at an address that a value has
  pub stored_has : (width : Width) (at : ℕ) (v : Values) (bytes : List ℕ) → at < 4294967296 → HasValue lane (world_of s) at v → bytes_at s.memory at (size width) ≡ Some bytes
      → HasValue lane (world_of s) (little_endian bytes) (read_as width (read a d p v (size width)))
  stored_has width at v bytes word has e =
      read_as_has lane (world_of s) width (read a d p v (size width)) (little_endian bytes) (number_below width at bytes e)
      (reads_are_members image lane a p s d v at (size width) bytes known_ form
      (record { word = word; member = has; some = some_bytes width; within = omega arith; mapped = bytes_mapped s.memory at (size width) bytes e }) e)

  -- -- Operands

  number_in : Option (ℕ × List ℕ) → ℕ
  number_in None = 0
  number_in (Some given) = given.0

  immediate_below : (width : Width) (k : ℕ) → k < 4294967296 → low_part width k < 4294967296
  immediate_below B8 k lt = omega (arith, lt)
  immediate_below W16 k lt = omega (arith, lt)
  immediate_below D32 k lt = lt

  any_low_has : (width : Width) (word : ℕ) → HasValue lane (world_of s) (low_part width word) (any_of width)
  any_low_has B8 word = any_has lane (world_of s) B8 (word % 256) (omega arith)
  any_low_has W16 word = any_has lane (world_of s) W16 (word % 65536) (omega arith)
  any_low_has D32 word = tt

  memory_has : (width : Width) (at : ℕ) (v : Values) → at < 4294967296 → HasValue lane (world_of s) at v → (gs : Bool) (words rest : List ℕ) (n : ℕ)
      → outcome (memory_reading width gs at) s words ≡ Some (n, rest)
      → HasValue lane (world_of s) n (cond gs (any_of width) (read_as width (read a d p v (size width))))
  unfolding memory_reading any_word number_in
  memory_has width at v word has true [] rest n e = cc
  memory_has width at v word has true (first ∷ words) rest n e = subst (λ k. HasValue lane (world_of s) k (any_of width)) (ap number_in e) (any_low_has width first)
  memory_has width at v word has false words rest n e = by (bytes_at s.memory at (size width)) refl (sym (number_outcome (size width) at s words) ∙ e)
    where
      by : (o : Option (List ℕ)) → bytes_at s.memory at (size width) ≡ o → option_map {U = ℕ × List ℕ} (λ bytes. (little_endian bytes, words)) o ≡ Some (n, rest)
          → HasValue lane (world_of s) n (read_as width (read a d p v (size width)))
      by None f g = cc
      by (Some bytes) f g = subst (λ k. HasValue lane (world_of s) k (read_as width (read a d p v (size width)))) (ap number_in g) (stored_has width at v bytes word has f)

  -- what the machine reads of an operand is among its values
  pub operand_has : (width : Width) (o : Operand) → IsOperand o → (words rest : List ℕ) (n : ℕ) → outcome (value width o) s words ≡ Some (n, rest)
      → HasValue lane (world_of s) n (operand_value a d p width o)
  unfolding value operand_value number_in
  operand_has width (operand.Reg r) fits words rest n e =
      subst (λ k. HasValue lane (world_of s) k (operand_value a d p width (operand.Reg r))) (ap number_in e)
      (low_has lane (world_of s) (a.registers (reg_number r)) (form.registers (reg_number r)) (s.registers (reg_number r)) (registers_hold.sized (reg_number r)) (registers_hold.held (reg_number r) (reg_number_below r)) width)
  operand_has width (operand.High r) fits words rest n e =
      subst (λ k. HasValue lane (world_of s) k (operand_value a d p width (operand.High r))) (ap number_in e)
      (high_has lane (world_of s) (a.registers (reg_number r)) (form.registers (reg_number r)) (s.registers (reg_number r)) (registers_hold.sized (reg_number r)) (registers_hold.held (reg_number r) (reg_number_below r)))
  operand_has width (operand.Imm k) fits words rest n e =
      subst (λ m. HasValue lane (world_of s) m (operand_value a d p width (operand.Imm k))) (ap number_in e) (word_has lane (world_of s) (low_part width k) (immediate_below width k fits))
  operand_has width (operand.Mem m) fits words rest n e =
      memory_has width (address_in s m) (address a m) (omega arith) (address_has lane (world_of s) a s registers_hold m (omega (arith, fits)) fits.1) m.gs words rest n
      (sym (address_outcome m (λ at. memory_reading width m.gs at) s words) ∙ e)
