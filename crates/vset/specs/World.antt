-- The things of a run that values point into: the image, activations of procedures, and blocks of the heap. They are the
-- project's own.

use Rattle.std.specs.Prelude.{◌≡◌, ℕ, ◌==◌, not, Bool, true, List, ◌∷◌, ◌++◌, if◌then◌else◌}
use Rattle.std.specs.List.{list_any}
use Rattle.image_map.specs.declared.region.Activation.{Activation}
use Rattle.image_map.specs.declared.region.RegionId.{RegionId}
use Rattle.image_map.specs.declared.region.RegionId.TheVariants.{Global, Frame, OldFrame, Heap, OldHeap}
use Rattle.ia32_semantics.specs.declared.state.Allocation.{Allocation}

pub record World : Type 0 where
  -- the newest first
  pub activations : List Activation
  -- the oldest first, also those that gave no block
  pub allocs : List Allocation

pub data Thing : Type 0 where
  TheImage : Thing
  -- an activation between the newer and the older ones
  ActivationAt : List Activation → Activation → List Activation → Thing
  -- a block between what was allocated before and later
  BlockAt : List Allocation → Allocation → List Allocation → Thing

-- whether an allocation gave a block
abbrev pub is_given : Allocation → Bool
is_given a = not (a.base == 0)

abbrev pub IsIn : World → Thing → Type 0
IsIn w TheImage = Unit {0}
IsIn w (ActivationAt newer a older) = w.activations ≡ newer ++ (a ∷ older)
IsIn w (BlockAt before a later) = (w.allocs ≡ before ++ (a ∷ later)) × (is_given a ≡ true)

abbrev pub base_of : Thing → ℕ
base_of TheImage = 0
base_of (ActivationAt newer a older) = a.base
base_of (BlockAt before a later) = a.base

-- The key of a block: the site of the call that allocated it, or the extern's address where call strings have no length.
abbrev pub key_of : ℕ → Allocation → ℕ
key_of lane a = (if lane == 0 then a.extern_at else a.site)

-- whether a procedure is called in some activation
abbrev pub is_called : ℕ → List Activation → Bool
is_called procedure activations = list_any (λ a. a.callee == procedure) activations

-- whether some allocation has a key
abbrev pub has_key : ℕ → ℕ → List Allocation → Bool
has_key lane key allocs = list_any (λ a. key_of lane a == key) allocs

-- the region that a thing belongs to: the newest activation of a procedure and the newest allocation of a key stand alone
abbrev pub region_of : ℕ → Thing → RegionId
region_of lane TheImage = Global
region_of lane (ActivationAt newer a older) = (if is_called a.callee newer then OldFrame a.callee else Frame a.callee)
region_of lane (BlockAt before a later) = (if has_key lane (key_of lane a) later then OldHeap (key_of lane a) else Heap (key_of lane a))
