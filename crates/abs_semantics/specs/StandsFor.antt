-- For which states of the machine an abstract state stands. The relation is the project's own.
use Rattle.std.specs.Prelude.{◌≡◌, ℕ, ◌+◌, ◌%◌, ◌^◌, ◌<◌, ◌≤◌, ◌⊎◌, Bool, true, ℤ, pos, ◌+ℤ◌, ◌-ℤ◌, List, [], ◌∷◌, ◌++◌, Option, Some, None}
use Rattle.image_map.specs.declared.region.Activation.{Activation}
use Rattle.image_map.specs.declared.region.Cell.{Cell}
use Rattle.ia32_types.specs.Numbers.{reg_number}
use Rattle.ia32_semantics.specs.declared.flags.Flags.{Flags}
use Rattle.ia32_semantics.specs.declared.state.Allocation.{Allocation}
use Rattle.ia32_semantics.specs.State.{State, bytes_at, little_endian, word_at}
use Rattle.ia32_semantics.specs.Outcome.{is_in_stack}
use Rattle.strided.specs.Interval.{IsMember}
use Rattle.vset.specs.declared.facts.CmpFact.{CmpFact}
use Rattle.vset.specs.declared.facts.CmpPlace.{CmpPlace}
use Rattle.vset.specs.declared.facts.CmpPlace.TheVariants as place
use Rattle.vset.specs.World.{World, Thing, TheImage, ActivationAt, BlockAt, IsIn, base_of, region_of, is_called}
use Rattle.vset.specs.Members.{HasValue}
use Rattle.abs_cmp.specs.Facts.{IsCompared}
use Rattle.abs_semantics.specs.declared.parts.Link.{Link}
use Rattle.abs_semantics.specs.States.{AbsState, value_at, has_procedure, known_of}

abbrev pub world_of : State → World
world_of s = record { activations = s.activations; allocs = s.allocs }

-- -- Who owns a byte

-- the byte lies at or above the end of each one's return slot
abbrev pub IsAboveAll : ℕ → List Activation → Type 0
IsAboveAll x [] = Unit {0}
IsAboveAll x (a ∷ others) = (a.base + 4 ≤ x) × IsAboveAll x others

-- the oldest activation owns all above, and any other one ends with its return slot
abbrev pub EndsAbove : ℕ → Activation → List Activation → Type 0
EndsAbove x a [] = Unit {0}
EndsAbove x a (parent ∷ older) = x < a.base + 4

-- The image owns the lower half of the addresses. An activation owns the stack's bytes up to the end of its return slot, from the end
-- of the slot of the next newer one on; the newest owns all below, and the oldest all above. A block owns its bytes.
abbrev pub Owns : State → Thing → ℕ → Type 0
Owns s TheImage x = x < 2 ^ 31
Owns s (ActivationAt newer a older) x = (is_in_stack s.slot x ≡ true) × IsAboveAll x newer × EndsAbove x a older
Owns s (BlockAt before a later) x = (a.base ≤ x) × (x < a.base + a.size)

-- -- Cells

-- a cell of a thing: so many bytes from an address on, all of them its own
pub record LiesAt (s : State) (t : Thing) (c : Cell) (at len : ℕ) : Type 0 where
  pub start : pos at ≡ pos (base_of t) +ℤ c.start
  pub end : c.end ≡ c.start +ℤ pos len
  pub owned : (k : ℕ) → k < len → Owns s t (at + k)

-- a cell of some thing that the cell's region names
pub record IsCellOf (lane : ℕ) (s : State) (t : Thing) (c : Cell) (at len : ℕ) : Type 0 where
  pub is_in : IsIn (world_of s) t
  pub region : region_of lane t ≡ c.region
  pub lies : LiesAt s t c at len

-- each cell, in each thing that its region names, holds a value that it may hold, where its bytes are mapped
abbrev pub HoldCells : ℕ → AbsState → State → Type 0
HoldCells lane a s =
    (t : Thing) (c : Cell) (at len : ℕ) (bytes : List ℕ) → IsCellOf lane s t c at len → bytes_at s.memory at len ≡ Some bytes
    → HasValue lane (world_of s) (little_endian bytes) (value_at a c)

-- -- Links

-- a link has these procedures and this age, and the distance among its offsets
abbrev pub IsLinked : List Link → ℕ → Bool → ℕ → ℤ → Type 0
IsLinked [] child aged parent distance = ⊥
IsLinked (l ∷ ls) child aged parent distance =
    ((l.child ≡ child) × (l.aged ≡ aged) × (l.parent ≡ parent) × IsMember distance l.off) ⊎ IsLinked ls child aged parent distance

-- each neighbouring pair of activations has a link; the child is aged where its procedure is called among the newer ones
abbrev pub HasLinks : AbsState → State → Type 0
HasLinks a s =
    (newer older : List Activation) (child parent : Activation) → s.activations ≡ newer ++ (child ∷ parent ∷ older)
    → IsLinked a.links child.callee (is_called child.callee newer) parent.callee (pos child.base -ℤ pos parent.base)

-- -- The last comparison

abbrev pub flags_of : State → Flags
flags_of s = record { cf = s.flags 0; pf = s.flags 1; zf = s.flags 2; sf = s.flags 3; of = s.flags 4 }

-- the fact is true of a cell's word, in some thing of its region
pub record IsComparedIn (lane : ℕ) (s : State) (c : Cell) (f : CmpFact) : Type 0 where
  pub thing : Thing
  pub at : ℕ
  pub of_thing : IsCellOf lane s thing c at 4
  pub word : ℕ
  pub is_word : word_at s.memory at ≡ Some word
  pub compared : IsCompared f.bound word (flags_of s)

abbrev pub IsTrueAt : ℕ → State → CmpFact → CmpPlace → Type 0
IsTrueAt lane s f (place.Reg r) = IsCompared f.bound (s.registers (reg_number r)) (flags_of s)
IsTrueAt lane s f (place.Cell c) = IsComparedIn lane s c f

abbrev pub HoldsFact : ℕ → State → Option CmpFact → Type 0
HoldsFact lane s None = Unit {0}
HoldsFact lane s (Some f) = IsTrueAt lane s f f.place

-- -- Whole

-- a region's size is known, and a block isn't smaller
pub record IsSized (size : Option ℕ) (given : ℕ) : Type 0 where
  pub least : ℕ
  pub known : size ≡ Some least
  pub below : least ≤ given

pub record StandsFor (lane : ℕ) (a : AbsState) (s : State) : Type 0 where
  pub registers : (n : ℕ) → n < 8 → HasValue lane (world_of s) (s.registers n) (a.registers n)
  pub flags : (n : ℕ) → n < 6 → a.flags n (s.flags n) ≡ true
  pub cells : HoldCells lane a s
  pub root : (newer : List Activation) (oldest : Activation) → s.activations ≡ newer ++ (oldest ∷ []) → oldest.callee ≡ a.root
  pub live : (newer older : List Activation) (x : Activation) → s.activations ≡ newer ++ (x ∷ older) → has_procedure x.callee a.live ≡ true
  pub older : (newer older : List Activation) (x : Activation) → s.activations ≡ newer ++ (x ∷ older) → is_called x.callee newer ≡ true
      → has_procedure x.callee a.older ≡ true
  pub links : HasLinks a s
  pub aligns : (t : Thing) (n : ℕ) → IsIn (world_of s) t → known_of (region_of lane t) a.aligns ≡ Some n → base_of t % 16 ≡ n
  pub blocks : (before later : List Allocation) (x : Allocation) → IsIn (world_of s) (BlockAt before x later)
      → IsSized (known_of (region_of lane (BlockAt before x later)) a.blocks) x.size
  pub fact : HoldsFact lane s a.fact
