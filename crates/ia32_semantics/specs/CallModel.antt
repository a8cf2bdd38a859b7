-- The start of a run, and states in which all lies as it should. The project's own.
use Rattle.std.specs.Prelude.{◌≡◌, ℕ, ◌+◌, ◌%◌, ◌≤◌, ◌==◌, ◌||◌, not, Bool, true, false, List, [], ◌∷◌, filter, map, Some, is_some}
use Rattle.std.specs.List.{list_any}
use Rattle.image_map.specs.declared.image.Image.{Image}
use Rattle.image_map.specs.declared.region.Activation.{Activation}
use Rattle.image_map.specs.declared.region.Block.{Block}
use Rattle.image_map.specs.declared.region.Settings.{Settings}
use Rattle.image_map.specs.Queries.{byte_at, is_in_segment}
use Rattle.ia32_semantics.specs.declared.state.Allocation.{Allocation}
use Rattle.ia32_semantics.specs.State.{State, Bytes, IsSized, esp, word_at}
use Rattle.ia32_semantics.specs.Outcome.{stack_low, stack_high, below_entry, above_entry, is_in_stack, IsFarFrom, is_in_block, IsBlock}
use Rattle.ia32_semantics.specs.Step.{HALT, IsPlaceAfter}

-- where the entry's return slot may lie, so that its stack lies among the stack's addresses
pub record IsEntrySlot (slot : ℕ) : Type 0 where
  pub aligned : (slot + 4) % 16 ≡ 0
  pub above : stack_low + below_entry ≤ slot
  pub below : slot + above_entry ≤ stack_high

abbrev pub entry_activation : Settings → ℕ → Activation
entry_activation settings slot = record { site = 0; callee = settings.entry; base = slot }

-- A state in which a run starts: all that isn't said here may be any.
pub record IsStart (image : Image) (settings : Settings) (s : State) : Type 0 where
  pub sized : IsSized s
  pub eip : s.eip ≡ settings.entry
  pub df : s.flags 5 ≡ false
  pub slot : IsEntrySlot s.slot
  pub esp_is : s.registers esp ≡ s.slot
  pub halt : word_at s.memory s.slot ≡ Some HALT
  pub mapped : (a : ℕ) → is_some (s.memory a) ≡ (is_in_segment image a || is_in_stack s.slot a)
  pub known : (a byte : ℕ) → byte_at image a ≡ Some byte → s.memory a ≡ Some byte
  pub apart : (a : ℕ) → is_in_segment image a ≡ true → IsFarFrom s.slot a
  pub activations : s.activations ≡ entry_activation settings s.slot ∷ []
  pub blocks : s.blocks ≡ []
  pub allocs : s.allocs ≡ []

-- -- Whole states

abbrev pub gives_block : Allocation → Bool
gives_block allocation = not (allocation.base == 0)

abbrev pub block_of : Allocation → Block
block_of allocation = record { site = allocation.site; base = allocation.base; size = allocation.size }

-- the blocks that the allocations gave
abbrev pub blocks_given : List Allocation → List Block
blocks_given allocs = map block_of (filter gives_block allocs)

-- each block lies as it should, and apart from the later ones
abbrev pub AreBlocks : ℕ → List Block → Type 0
AreBlocks slot [] = Unit {0}
AreBlocks slot (block ∷ later) = IsBlock slot later block × AreBlocks slot later

-- segments, stack and blocks lie as they should, and the blocks are those that were given
pub record IsLaidOut (image : Image) (s : State) : Type 0 where
  pub slot : IsEntrySlot s.slot
  pub sized : IsSized s
  pub mapped : (a : ℕ) → is_some (s.memory a) ≡ (is_in_segment image a || is_in_stack s.slot a || list_any (is_in_block a) s.blocks)
  pub apart : (a : ℕ) → is_in_segment image a ≡ true → IsFarFrom s.slot a
  pub placed : AreBlocks s.slot s.blocks
  pub given : s.blocks ≡ blocks_given s.allocs

-- Return slots lie in the stack, the newest lowest and each at least 4 below the one before it; each holds the place after its
-- call, and the entry's, at slot, holds HALT.
abbrev pub AreActivations : Image → Bytes → ℕ → List Activation → Type 0
AreActivations image memory slot [] = ⊥
AreActivations image memory slot (oldest ∷ []) = (oldest.base ≡ slot) × (word_at memory slot ≡ Some HALT)
AreActivations image memory slot (newest ∷ before ∷ others) =
    (slot ≤ newest.base + below_entry) × (newest.base + 4 ≤ before.base)
    × ((place : ℕ) × IsPlaceAfter image newest.site place × (word_at memory newest.base ≡ Some place))
    × AreActivations image memory slot (before ∷ others)

pub record IsWhole (image : Image) (s : State) : Type 0 where
  pub laid_out : IsLaidOut image s
  pub activations : AreActivations image s.memory s.slot s.activations
