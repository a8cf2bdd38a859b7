-- What is done to bytes, where they are mapped; nothing is done where they aren't. The project's own.
use Rattle.std.specs.Prelude.{ℕ, zero, suc, ◌+◌, ◌%◌, ◌==◌, ◌&&◌, Bool, true, if◌then◌else◌, List, [], ◌∷◌, Some, None, is_some}
use Rattle.ia32_semantics.specs.State.{Bytes}
use Rattle.ia32_semantics.specs.Effects.{bytes_from, all_among}
use Rattle.ia32_semantics.specs.Operands.{number_bytes}
use Rattle.ia32_semantics.specs.Strings.{stepped}
use Rattle.item_list.specs.Ranges.{within}

-- the byte at an address replaced
abbrev pub with_byte : Bytes → ℕ → ℕ → Bytes
with_byte memory a byte x = if a == x && is_some (memory x) then Some byte else memory x

-- the bytes from an address on replaced
abbrev pub with_bytes : Bytes → ℕ → List ℕ → Bytes
with_bytes memory a [] = memory
with_bytes memory a (byte ∷ rest) = with_byte (with_bytes memory (a + 1) rest) a (byte % 256)

-- 0 at each of these addresses
abbrev pub cleared : (ℕ → Bool) → Bytes → Bytes
cleared test memory x = if test x && is_some (memory x) then Some 0 else memory x

-- 0 at so many addresses from one on, where no byte is mapped before
abbrev pub with_zeros : Bytes → ℕ → ℕ → Bytes
with_zeros memory start size x = if is_some (memory x) then memory x else (if within start (start + size) x then Some 0 else None)

-- a value in each of n elements of z bytes, from the one at an address on, downwards or upwards
unfoldable pub filled_over : Bool → ℕ → ℕ → ℕ → ℕ → Bytes → Bytes
filled_over down z value zero to memory = memory
filled_over down z value (suc n) to memory = filled_over down z value n (stepped down z 1 to) (with_bytes memory to (number_bytes z value))

-- n elements of z bytes copied from one address on to another, one after the other
unfoldable pub copied_over : Bool → ℕ → ℕ → ℕ → ℕ → Bytes → Bytes
copied_over down z zero from to memory = memory
copied_over down z (suc n) from to memory =
    copied_over down z n (stepped down z 1 from) (stepped down z 1 to) (with_bytes memory to (bytes_from memory from z))

-- each byte of n elements of z bytes passes a test, those of the one at an address first
unfoldable pub all_in_elements : (ℕ → Bool) → Bool → ℕ → ℕ → ℕ → Bool
all_in_elements test down z zero a = true
all_in_elements test down z (suc n) a = all_among test a z && all_in_elements test down z n (stepped down z 1 a)

-- n numbers from an index on are 0
abbrev pub zeroed : ℕ → ℕ → List ℕ → List ℕ
zeroed from zero xs = xs
zeroed zero (suc n) [] = []
zeroed zero (suc n) (x ∷ xs) = 0 ∷ zeroed zero n xs
zeroed (suc from) (suc n) [] = []
zeroed (suc from) (suc n) (x ∷ xs) = x ∷ zeroed from (suc n) xs
