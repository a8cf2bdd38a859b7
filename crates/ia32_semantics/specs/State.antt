-- The state of a machine that runs an image: registers, flags, memory, and what the run has called and allocated.
-- Registers and flags are those of the SDM, volume 1, "Basic Execution Environment". Activations, blocks and allocations are
-- the project's own.
--
-- Registers, flags and memory are functions, so that a change of one location is `put`, and all others stay by computation.
use Rattle.std.specs.Prelude.{◌≡◌, ℕ, zero, suc, ◌+◌, ◌*◌, ◌<◌, ◌^◌, ◌==◌, ◌&&◌, not, nat_lt, if◌then◌else◌, Bool, true, List, [], ◌∷◌, Option, Some, None, option_map}
use Rattle.image_map.specs.declared.region.Activation.{Activation}
use Rattle.image_map.specs.declared.region.Block.{Block}
use Rattle.ia32_semantics.specs.declared.state.Allocation.{Allocation}

-- the byte at each address, and none where the address isn't mapped
abbrev pub Bytes : Type 0
Bytes = ℕ → Option ℕ

pub record State : Type 0 where
  -- by their numbers: EAX, ECX, EDX, EBX, ESP, EBP, ESI, EDI
  pub registers : ℕ → ℕ
  -- by their numbers: CF, PF, ZF, SF, OF, DF
  pub flags : ℕ → Bool
  pub eip : ℕ
  pub memory : Bytes
  -- The newest first, the entry's last. A base is the address of a return slot; the entry's activation has site 0.
  pub activations : List Activation
  -- the oldest first
  pub blocks : List Block
  -- the oldest first
  pub allocs : List Allocation
  -- the address of the entry's return slot
  pub slot : ℕ

-- ESP's number among the registers
abbrev pub esp : ℕ
esp = 4

-- -- Locations

-- a register or a flag by its number, or a byte of memory by its address
pub data Location : Type 0 where
  InRegister : ℕ → Location
  InFlag : ℕ → Location
  AtByte : ℕ → Location

-- There are eight registers and six flags. With skip_sp ESP is no location.
abbrev pub is_location : Bool → Location → Bool
is_location skip_sp (InRegister n) = nat_lt n 8 && not (skip_sp && n == esp)
is_location skip_sp (InFlag n) = nat_lt n 6
is_location skip_sp (AtByte address) = true

-- two states have the same at a location
abbrev pub SameAt : Location → State → State → Type 0
SameAt (InRegister n) s t = s.registers n ≡ t.registers n
SameAt (InFlag n) s t = s.flags n ≡ t.flags n
SameAt (AtByte address) s t = s.memory address ≡ t.memory address

-- a function with its value at one place changed
abbrev pub put : {A : Type 0} → (ℕ → A) → ℕ → A → ℕ → A
put f place value n = if place == n then value else f n

-- -- Numbers in memory

-- the number of some bytes, the lowest first
unfoldable pub little_endian : List ℕ → ℕ
little_endian [] = 0
little_endian (byte ∷ rest) = byte + 256 * little_endian rest

-- a byte in front of others, where both are there
abbrev pub joined : Option ℕ → Option (List ℕ) → Option (List ℕ)
joined None rest = None
joined (Some byte) None = None
joined (Some byte) (Some rest) = Some (byte ∷ rest)

-- The n bytes from an address on, where all of them are mapped. A range that passes the end of the 32-bit addresses doesn't
-- wrap.
unfoldable pub bytes_at : Bytes → ℕ → ℕ → Option (List ℕ)
bytes_at memory a zero = Some []
bytes_at memory a (suc n) = joined (memory a) (bytes_at memory (a + 1) n)

-- the 32-bit word at an address
abbrev pub word_at : Bytes → ℕ → Option ℕ
word_at memory a = option_map little_endian (bytes_at memory a 4)

-- registers and eip are 32-bit words, and memory holds bytes
pub record IsSized (s : State) : Type 0 where
  pub registers : (n : ℕ) → s.registers n < 2 ^ 32
  pub eip : s.eip < 2 ^ 32
  pub memory : (a byte : ℕ) → s.memory a ≡ Some byte → byte < 256

-- -- Calls that haven't returned

-- Their sites and callees, the newest first. The oldest activation is the entry's, and no pending call.
unfoldable pub pending : List Activation → List (ℕ × ℕ)
pending [] = []
pending (oldest ∷ []) = []
pending (newest ∷ before ∷ others) = (newest.site, newest.callee) ∷ pending (before ∷ others)

-- the site of the newest, or 0 where none is pending
abbrev pub newest_site : List Activation → ℕ
newest_site [] = 0
newest_site (oldest ∷ []) = 0
newest_site (newest ∷ before ∷ others) = newest.site
