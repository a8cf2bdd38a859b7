-- The example is an image, and a run of it has a start.
use Rattle.std.proofs.Common.{◌≡◌, ℕ, zero, suc, ◌-◌, ◌<◌, ◌≤◌, ◌^◌, ◌==◌, ◌||◌, Bool, true, false, cond, List, [], ◌∷◌, Option, Some, None, refl, ap, subst, ◌∙◌, arith}
use Rattle.std.specs.Prelude.{slice_get, slice_index, nat_lt, option_and_then}
use Rattle.std.specs.List.{list_all}
use Rattle.std.proofs.lemmas.Bool.{and_parts, ltb-true}
use Rattle.std.proofs.lemmas.Bool.Decides.{nat_tests}
use Rattle.std.proofs.lemmas.Option.{none-some, same_Some}
use Rattle.image_map.specs.declared.image.Segment.{Segment}
use Rattle.image_map.specs.Memory.{holds}
use Rattle.image_map.specs.Queries.{byte_at, is_in_segment}
use Rattle.image_map.specs.Whole.{IsImage}
use Rattle.image_map.proofs.SegmentLaws.{known_there}
use Rattle.ia32_semantics.specs.State.{State, bytes_at, little_endian}
use Rattle.ia32_semantics.specs.Effects.{byte_or_zero, is_of_bytes}
use Rattle.ia32_semantics.specs.Outcome.{is_in_stack}
use Rattle.ia32_semantics.specs.CallModel.{IsEntrySlot, IsStart}
use Rattle.ia32_semantics.proofs.EffectLemmas.{HasSizes}
use Rattle.ia32_memory.specs.Start.{start_bytes}
use Rattle.ia32_memory.proofs.StartLemmas.{start_small}
use Rattle.ia32_memory.proofs.StartLaws.{start_mapped, start_known, start_apart, segment_low}
use Rattle.ia32_memory.proofs.WrittenLaws.{with_bytes_maps, with_bytes_other, with_bytes_small}
use Rattle.ia32_machine.specs.Machines.{entry_slot, start_registers, start_state}
use Rattle.run_examples.specs.Example.{code, segment, image, settings}

pub example_is : IsImage image
example_is = record { segments = (record { low = omega arith; high = omega arith; flags = refl }, tt, tt); externs = omega arith }

-- -- Its bytes

abbrev is_byte : ℕ → Bool
is_byte b = nat_lt b 256

byte_small : (xs : List ℕ) (k b : ℕ) → list_all is_byte xs ≡ true → slice_get xs k ≡ Some b → b < 256
byte_small [] k b all e = absurd (none-some b e)
byte_small (x ∷ xs) zero b all e = subst (λ y. y < 256) (same_Some x b e) (ltb-true x 256 (and_parts (is_byte x) (list_all is_byte xs) all).0)
byte_small (x ∷ xs) (suc k) b all e = byte_small xs k b (and_parts (is_byte x) (list_all is_byte xs) all).1 e

code_small : list_all is_byte code ≡ true
code_small = refl

found_small : (a : ℕ) (t : Bool) (b : ℕ) → option_and_then (λ (s : Segment). slice_get s.bytes (a - s.start)) (cond t (Some segment) None) ≡ Some b → b < 256
found_small a true b e = byte_small code (a - segment.start) b code_small e
found_small a false b e = absurd (none-some b e)

pub example_bytes : (a b : ℕ) → byte_at image a ≡ Some b → b < 256
example_bytes a b e = found_small a (holds a segment) b e

-- -- The memory at the start

zero_small : (o : Option ℕ) → ((b : ℕ) → o ≡ Some b → b < 256) → byte_or_zero o < 256
zero_small None small = omega arith
zero_small (Some b) small = small b refl

first_small : (a b : ℕ) → start_bytes image entry_slot a ≡ Some b → b < 256
first_small a b e = start_small (is_in_stack entry_slot a) (is_in_segment image a) (byte_or_zero (byte_at image a)) b (zero_small (byte_at image a) (example_bytes a)) e

abbrev halt_bytes : List ℕ
halt_bytes = 0 ∷ 0 ∷ 255 ∷ 255 ∷ []

none_of : (p q r t : Bool) → p ≡ false → q ≡ false → r ≡ false → t ≡ false → (p || (q || (r || (t || false)))) ≡ false
none_of true q r t a b c d = a
none_of false true r t a b c d = b
none_of false false true t a b c d = c
none_of false false false t a b c d = ap (λ x. x || false) d

other : (a x : ℕ) → x < 0x7FFFFFFF → 0xBFF0000C ≤ a → (a == x) ≡ false
other a x low high = grind (arith, nat_tests)

not_halt : (x : ℕ) → x < 0x7FFFFFFF → is_of_bytes 0xBFF0000C halt_bytes x ≡ false
not_halt x low = none_of _ _ _ _ (other 0xBFF0000C x low (omega arith)) (other 0xBFF0000D x low (omega arith)) (other 0xBFF0000E x low (omega arith)) (other 0xBFF0000F x low (omega arith))

-- -- The start

slot_lies : IsEntrySlot entry_slot
slot_lies = record { aligned = refl; above = omega arith; below = omega arith }

abbrev AreSmall : List ℕ → Type 0
AreSmall [] = Unit {0}
AreSmall (x ∷ xs) = (x < 2 ^ 32) × AreSmall xs

small_at : (xs : List ℕ) (n : ℕ) → AreSmall xs → slice_index xs n < 2 ^ 32
small_at [] n all = omega arith
small_at (x ∷ xs) zero all = all.0
small_at (x ∷ xs) (suc n) all = small_at xs n all.1

registers_small : AreSmall (start_registers [])
registers_small = (omega arith, (omega arith, (omega arith, (omega arith, (omega arith, (omega arith, (omega arith, (omega arith, tt))))))))

abbrev pub start : State
start = start_state image settings []

pub start_is : IsStart image settings start
unfolding bytes_at little_endian
start_is =
    record {
      sized = record { registers = λ n. small_at (start_registers []) n registers_small; eip = omega arith; memory = λ a b e. with_bytes_small (start_bytes image entry_slot) entry_slot halt_bytes first_small a b e };
      eip = refl;
      df = refl;
      slot = slot_lies;
      esp_is = refl;
      halt = refl;
      mapped = λ a. with_bytes_maps (start_bytes image entry_slot) entry_slot halt_bytes a ∙ start_mapped image entry_slot a;
      known = λ a b e.
          with_bytes_other (start_bytes image entry_slot) entry_slot halt_bytes a (not_halt a (segment_low image a example_is (known_there image a b e))) ∙ start_known image entry_slot a b example_is slot_lies e;
      apart = λ a there. start_apart image entry_slot a example_is slot_lies there;
      activations = refl;
      blocks = refl;
      allocs = refl;
    }

pub start_sizes : HasSizes start
start_sizes = record { registers = start_is.sized.registers; memory = start_is.sized.memory }
