-- What a step does: its effects, where control goes, which calls begin and end, and what is allocated and forgotten. What is
-- kept of calls and blocks is the project's own.
use Rattle.std.specs.Prelude.{◌≡◌, ◌⊎◌, ℕ, ◌+◌, ◌-◌, ◌%◌, ◌^◌, ◌<◌, ◌≤◌, ◌==◌, ◌&&◌, not, nat_le, nat_lt, Bool, true, false, if◌then◌else◌, List, [], ◌∷◌, ◌++◌, Option, Some, None, is_some}
use Rattle.std.specs.List.{list_any}
use Rattle.image_map.specs.declared.image.Image.{Image}
use Rattle.image_map.specs.declared.region.Activation.{Activation}
use Rattle.image_map.specs.declared.region.Block.{Block}
use Rattle.ia32_semantics.specs.declared.state.Allocation.{Allocation}
use Rattle.ia32_semantics.specs.State.{State, Bytes, newest_site}
use Rattle.ia32_semantics.specs.Effects.{Effect, all_changed, effects_fit}

pub data Move : Type 0 where
  keeps : Move
  enters : Activation → Move
  -- the newest activation ends
  leaves : Move

-- what the extern at an address gives where it allocates: a block of this base and size, or none where the base is 0
pub record Given : Type 0 where
  pub extern_at : ℕ
  pub base : ℕ
  pub size : ℕ

pub record Outcome : Type 0 where
  pub effects : List Effect
  pub place : ℕ
  pub calls : Move
  pub given : Option Given
  -- each byte of the stack below this address is forgotten
  pub forgets : Option ℕ
  -- every mapped byte is read, and nothing is made of it
  pub reads_all : Bool

-- an outcome that only changes locations and goes on to a place
abbrev pub going : List Effect → ℕ → Outcome
going effects place = record { effects = effects; place = place; calls = keeps; given = None; forgets = None; reads_all = false }

-- -- The addresses of stack and blocks

-- the stack lies between these addresses
abbrev pub stack_low : ℕ
stack_low = 0xB0000000

abbrev pub stack_high : ℕ
stack_high = 0xC0000000

-- blocks lie from this address up to the addresses of the stack
abbrev pub heap_low : ℕ
heap_low = 0x90000000

-- how far the stack goes down and up from the entry's return slot, and how far all else keeps from it
abbrev pub below_entry : ℕ
below_entry = 2 ^ 20

abbrev pub above_entry : ℕ
above_entry = 2 ^ 16

abbrev pub stack_gap : ℕ
stack_gap = 2 ^ 24

-- the stack of a run whose entry's return slot has this address
abbrev pub is_in_stack : ℕ → ℕ → Bool
is_in_stack slot a = nat_le (slot - below_entry) a && nat_lt a (slot + above_entry)

-- an address that is further from that stack than the gap
abbrev pub IsFarFrom : ℕ → ℕ → Type 0
IsFarFrom slot a = (a + stack_gap + below_entry < slot) ⊎ (slot + above_entry + stack_gap ≤ a)

abbrev pub is_in_block : ℕ → Block → Bool
is_in_block a block = nat_le block.base a && nat_lt a (block.base + block.size)

-- a block lies in the heap's addresses, apart from some others and far from the stack
pub record IsBlock (slot : ℕ) (others : List Block) (block : Block) : Type 0 where
  pub aligned : block.base % 16 ≡ 0
  pub above : heap_low ≤ block.base
  pub below : block.base + block.size ≤ stack_low
  pub far : (a : ℕ) → is_in_block a block ≡ true → IsFarFrom slot a
  pub apart : (a : ℕ) → is_in_block a block ≡ true → list_any (is_in_block a) others ≡ false

-- -- The state after it

abbrev pub moved : Move → List Activation → List Activation
moved keeps activations = activations
moved (enters a) activations = a ∷ activations
moved leaves [] = []
moved leaves (newest ∷ others) = others

abbrev pub can_move : Move → List Activation → Bool
can_move keeps activations = true
can_move (enters a) activations = true
can_move leaves [] = false
can_move leaves (newest ∷ others) = true

abbrev pub block_given : ℕ → Given → Block
block_given site g = record { site = site; base = g.base; size = g.size }

abbrev pub allocation_of : ℕ → Given → Allocation
allocation_of site g = record { site = site; extern_at = g.extern_at; base = g.base; size = g.size }

abbrev pub with_allocation : ℕ → Option Given → List Allocation → List Allocation
with_allocation site None allocs = allocs
with_allocation site (Some g) allocs = allocs ++ (allocation_of site g ∷ [])

abbrev pub with_block : ℕ → Option Given → List Block → List Block
with_block site None blocks = blocks
with_block site (Some g) blocks = if g.base == 0 then blocks else blocks ++ (block_given site g ∷ [])

-- the state after the effects, with the new place, calls and blocks
abbrev pub made : Outcome → State → State
made o s =
    record (all_changed o.effects s) {
      eip = o.place % 2 ^ 32;
      activations = moved o.calls s.activations;
      blocks = with_block (newest_site s.activations) o.given s.blocks;
      allocs = with_allocation (newest_site s.activations) o.given s.allocs;
    }

-- what is given lies as it should
abbrev pub LiesWell : State → Option Given → Type 0
LiesWell s None = Unit {0}
LiesWell s (Some g) = (g.base ≡ 0) ⊎ IsBlock s.slot s.blocks (block_given (newest_site s.activations) g)

-- the outcome can be in this state
abbrev pub is_possible : Image → Outcome → State → Bool
is_possible image o s = effects_fit image s.memory o.effects && can_move o.calls s.activations

-- -- Bytes of any content

abbrev pub is_below : Option ℕ → ℕ → Bool
is_below None a = false
is_below (Some limit) a = nat_lt a limit

abbrev pub is_forgotten : Outcome → State → ℕ → Bool
is_forgotten o s a = is_in_stack s.slot a && is_below o.forgets a

abbrev pub is_given : Option Given → ℕ → Bool
is_given None a = false
is_given (Some g) a = not (g.base == 0) && is_in_block a (block_given 0 g)

-- a mapped byte that is forgotten, or one that is new
abbrev pub is_any : Outcome → State → ℕ → Bool
is_any o s a = if is_some (s.memory a) then is_forgotten o s a else is_given o.given a

-- the bytes that may be any are there, and the others are those that were made
pub record AgreesBut (is_free : ℕ → Bool) (made new : Bytes) : Type 0 where
  pub others : (a : ℕ) → is_free a ≡ false → new a ≡ made a
  pub free : (a : ℕ) → is_free a ≡ true → (byte : ℕ) × (byte < 256) × (new a ≡ Some byte)
