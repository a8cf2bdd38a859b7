-- What a machine's write does to memory, in the words of the laws on abstract writes. The project's own.
use Rattle.std.specs.Prelude.{◌≡◌, ◌⊎◌, ℕ, ◌+◌, ◌<◌, ◌≤◌, ◌^◌, true, List, Some, is_some}
use Rattle.image_map.specs.declared.image.Image.{Image}
use Rattle.ia32_semantics.specs.Effects.{is_open}
use Rattle.ia32_types.specs.Numbers.{size}
use Rattle.ia32_semantics.specs.State.{State, Bytes, bytes_at, little_endian}
use Rattle.vset.specs.Members.{HasValue}
use Rattle.vset.specs.Values.{Values}
use Rattle.abs_semantics.specs.declared.parts.RangeValue.{RangeValue}
use Rattle.abs_semantics.specs.declared.parts.RangeValue.TheVariants as range
use Rattle.abs_semantics.specs.StandsFor.{world_of}
use Rattle.abs_semantics.specs.Ranges.{repeated}

-- a state with another memory
abbrev pub with_memory : State → Bytes → State
with_memory s memory = record s { memory = memory }

-- so many bytes from an address on may be written, and no others change
pub record IsStored (image : Image) (s : State) (at count : ℕ) (memory : Bytes) : Type 0 where
  pub are_open : (k : ℕ) → k < count → is_open image s.memory (at + k) ≡ true
  pub others : (y : ℕ) → (y < at) ⊎ (at + count ≤ y) → memory y ≡ s.memory y

-- the number that the bytes then are is a value of a value-set
abbrev pub HoldsNumber : ℕ → State → ℕ → ℕ → Bytes → Values → Type 0
HoldsNumber lane s at len memory w =
    (bytes : List ℕ) → bytes_at memory at len ≡ Some bytes → HasValue lane (world_of s) (little_endian bytes) w

-- what is copied, from an address that a value-set has
pub record IsCopied (lane : ℕ) (s : State) (at len : ℕ) (memory : Bytes) (v : Values) : Type 0 where
  pub from : ℕ
  pub word : from < 2 ^ 32
  pub member : HasValue lane (world_of s) from v
  pub mapped : (k : ℕ) → k < len → is_some (s.memory (from + k)) ≡ true
  -- where neither range reaches into the other
  pub copied : (from + len ≤ at) ⊎ (at + len ≤ from) → (k : ℕ) → k < len → memory (at + k) ≡ s.memory (from + k)

-- What a range holds then, of which the first `count` bytes were written: all of them, unless they may be any.
abbrev pub HoldsRange : ℕ → State → ℕ → ℕ → ℕ → Bytes → RangeValue → Type 0
HoldsRange lane s at count len memory range.Any = Unit {0}
HoldsRange lane s at count len memory (range.Number n width) =
    (count ≡ len) × ((distance bytes : ℕ) → distance + bytes ≤ len → bytes_at memory (at + distance) bytes ≡ Some (repeated (size width) n distance bytes))
HoldsRange lane s at count len memory (range.Copy v) = (count ≡ len) × IsCopied lane s at len memory v
