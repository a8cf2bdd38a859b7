-- What a call, a return and an allocation leave as it was and what they change, in the words of the laws on their abstract steps. The project's own.
use Rattle.std.specs.Prelude.{◌≡◌, ℕ, ◌+◌, ◌≤◌, ◌==◌, true, false, List, [], ◌∷◌, ◌++◌, Some}
use Rattle.image_map.specs.declared.region.Activation.{Activation}
use Rattle.ia32_semantics.specs.declared.state.Allocation.{Allocation}
use Rattle.ia32_semantics.specs.Outcome.{is_in_stack}
use Rattle.ia32_semantics.specs.State.{State, word_at}
use Rattle.vset.specs.World.{Thing, IsIn}
use Rattle.abs_semantics.specs.StandsFor.{world_of, Owns}

-- From state s a call begins an activation, whose return slot holds the place after the call; ESP points to the slot. Of the bytes of the
-- stack those below the end of the slot may be any but for the slot; nothing else changes.
pub record IsCalled (s t : State) (new newest : Activation) (others : List Activation) (next : ℕ) : Type 0 where
  pub before : s.activations ≡ newest ∷ others
  pub activations : t.activations ≡ new ∷ s.activations
  pub allocs : t.allocs ≡ s.allocs
  pub slot : t.slot ≡ s.slot
  pub flags : t.flags ≡ s.flags
  pub registers : (n : ℕ) → (4 == n) ≡ false → t.registers n ≡ s.registers n
  pub esp : t.registers 4 ≡ new.base
  pub word : word_at t.memory new.base ≡ Some next
  pub bytes : (y : ℕ) → (is_in_stack s.slot y ≡ true → new.base + 4 ≤ y) → t.memory y ≡ s.memory y

-- From state s the newest activation ends: ESP points behind its return slot and so many further bytes. Of the bytes of the stack those
-- below ESP may be any; nothing else changes.
pub record IsReturned (s t : State) (ending parent : Activation) (others : List Activation) (extra : ℕ) : Type 0 where
  pub before : s.activations ≡ ending ∷ parent ∷ others
  pub activations : t.activations ≡ parent ∷ others
  pub allocs : t.allocs ≡ s.allocs
  pub slot : t.slot ≡ s.slot
  pub flags : t.flags ≡ s.flags
  pub registers : (n : ℕ) → (4 == n) ≡ false → t.registers n ≡ s.registers n
  pub esp : t.registers 4 ≡ ending.base + 4 + extra
  pub bytes : (y : ℕ) → (is_in_stack s.slot y ≡ true → ending.base + 4 + extra ≤ y) → t.memory y ≡ s.memory y

-- From state s an allocation gives a block, or none where its base is 0. No byte changes that something owned before.
pub record IsAllocated (s t : State) (new : Allocation) : Type 0 where
  pub allocs : t.allocs ≡ s.allocs ++ (new ∷ [])
  pub activations : t.activations ≡ s.activations
  pub slot : t.slot ≡ s.slot
  pub flags : t.flags ≡ s.flags
  pub registers : t.registers ≡ s.registers
  pub bytes : (u : Thing) → IsIn (world_of s) u → (y : ℕ) → Owns s u y → t.memory y ≡ s.memory y
