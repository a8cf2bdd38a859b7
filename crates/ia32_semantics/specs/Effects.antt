-- What a step does to registers, flags and memory, as a list of small changes made one after another. Values are cut to their
-- widths where they are stored. The project's own.
use Rattle.std.specs.Prelude.{ℕ, zero, suc, ◌+◌, ◌*◌, ◌/◌, ◌%◌, ◌^◌, ◌==◌, ◌&&◌, ◌||◌, not, Bool, false, true, List, [], ◌∷◌, Option, Some, None, is_some}
use Rattle.image_map.specs.declared.image.Image.{Image}
use Rattle.image_map.specs.Queries.{is_in_segment, is_writable}
use Rattle.ia32_semantics.specs.State.{State, Bytes, Location, AtByte, put}
use Rattle.ia32_semantics.specs.Reading.{is_register, is_flag}

-- the part of a register that is changed: all 32 bits, the low 16, the low 8, or the 8 above these
pub data Part : Type 0 where
  Whole Word Low High : Part

pub data Effect : Type 0 where
  -- a part of a register takes a value
  sets : Part → ℕ → ℕ → Effect
  turns : ℕ → Bool → Effect
  -- the bytes from an address on
  stores : ℕ → List ℕ → Effect
  -- to an address, from another, so many bytes
  copies : ℕ → ℕ → ℕ → Effect

-- -- Doing them

-- a register of which a part takes a value
unfoldable pub with_part : Part → ℕ → ℕ → ℕ
with_part Whole old value = value % 2 ^ 32
with_part Word old value = old / 65536 * 65536 + value % 65536
with_part Low old value = old / 256 * 256 + value % 256
with_part High old value = old / 65536 * 65536 + value % 256 * 256 + old % 256

-- memory with the bytes from an address on replaced
abbrev pub overwritten : Bytes → ℕ → List ℕ → Bytes
overwritten memory a [] = memory
overwritten memory a (byte ∷ rest) = put (overwritten memory (a + 1) rest) a (Some (byte % 256))

abbrev pub byte_or_zero : Option ℕ → ℕ
byte_or_zero None = 0
byte_or_zero (Some byte) = byte

-- n bytes, with 0 for those that aren't mapped
abbrev pub bytes_from : Bytes → ℕ → ℕ → List ℕ
bytes_from memory a zero = []
bytes_from memory a (suc n) = byte_or_zero (memory a) ∷ bytes_from memory (a + 1) n

abbrev pub changed : Effect → State → State
changed (sets part n value) s = record s { registers = put s.registers n (with_part part (s.registers n) value) }
changed (turns n value) s = record s { flags = put s.flags n value }
changed (stores a bytes) s = record s { memory = overwritten s.memory a bytes }
changed (copies to from n) s = record s { memory = overwritten s.memory to (bytes_from s.memory from n) }

-- the state after some effects, the first of the list done first
abbrev pub all_changed : List Effect → State → State
all_changed [] s = s
all_changed (effect ∷ rest) s = all_changed rest (changed effect s)

-- -- The locations that they take and change

-- an address is one of the n from a on
abbrev pub is_among : ℕ → ℕ → ℕ → Bool
is_among a zero x = false
is_among a (suc n) x = a == x || is_among (a + 1) n x

-- it is that of one of these bytes, which stand from a on
abbrev pub is_of_bytes : ℕ → List ℕ → ℕ → Bool
is_of_bytes a [] x = false
is_of_bytes a (byte ∷ rest) x = a == x || is_of_bytes (a + 1) rest x

abbrev pub at_byte : (ℕ → Bool) → Location → Bool
at_byte holds (AtByte x) = holds x
at_byte holds other = false

abbrev pub is_whole : Part → Bool
is_whole Whole = true
is_whole _ = false

abbrev pub effect_writes : Effect → Location → Bool
effect_writes (sets part n value) l = is_register n l
effect_writes (turns n value) l = is_flag n l
effect_writes (stores a bytes) l = at_byte (is_of_bytes a bytes) l
effect_writes (copies to from n) l = at_byte (is_among to n) l

abbrev pub effects_write : List Effect → Location → Bool
effects_write [] l = false
effects_write (effect ∷ rest) l = effect_writes effect l || effects_write rest l

-- what an effect takes over: a register of which a part changes, and the bytes that it copies
abbrev pub effect_takes : Effect → Location → Bool
effect_takes (sets part n value) l = not (is_whole part) && is_register n l
effect_takes (turns n value) l = false
effect_takes (stores a bytes) l = false
effect_takes (copies to from n) l = at_byte (is_among from n) l

abbrev pub effects_take : List Effect → Location → Bool
effects_take [] l = false
effects_take (effect ∷ rest) l = effect_takes effect l || effects_take rest l

-- -- Where they can be done

-- a byte that may be written: it is mapped, and in no segment that may not be written
abbrev pub is_open : Image → Bytes → ℕ → Bool
is_open image memory a = is_some (memory a) && (not (is_in_segment image a) || is_writable image a)

-- each of the n addresses from a on passes a test
abbrev pub all_among : (ℕ → Bool) → ℕ → ℕ → Bool
all_among test a zero = true
all_among test a (suc n) = test a && all_among test (a + 1) n

abbrev pub all_of_bytes : (ℕ → Bool) → ℕ → List ℕ → Bool
all_of_bytes test a [] = true
all_of_bytes test a (byte ∷ rest) = test a && all_of_bytes test (a + 1) rest

abbrev pub is_mapped : Bytes → ℕ → Bool
is_mapped memory a = is_some (memory a)

-- No effect changes which bytes are mapped, so all are looked at in the state before.
abbrev pub effect_fits : Image → Bytes → Effect → Bool
effect_fits image memory (sets part n value) = true
effect_fits image memory (turns n value) = true
effect_fits image memory (stores a bytes) = all_of_bytes (is_open image memory) a bytes
effect_fits image memory (copies to from n) = all_among (is_mapped memory) from n && all_among (is_open image memory) to n

abbrev pub effects_fit : Image → Bytes → List Effect → Bool
effects_fit image memory [] = true
effects_fit image memory (effect ∷ rest) = effect_fits image memory effect && effects_fit image memory rest
