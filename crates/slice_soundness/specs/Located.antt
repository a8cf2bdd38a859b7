-- Where bytes lie: the regions of memory that activations and blocks own, and the cells into which a graph divides them. With that
-- the premise on places follows from smaller ones: on the graph's sets, on the accesses of an occurrence, and on what calls and
-- returns do to the stack. The project's own.
use Rattle.std.specs.Prelude.{◌≡◌, ◌⊎◌, ℕ, ℤ, pos, ◌-ℤ◌, ◌+◌, ◌^◌, ◌<◌, ◌≤◌, ◌==◌, ◌&&◌, not, nat_le, nat_lt, Bool, true, false, if◌then◌else◌, List, [], ◌∷◌, ◌++◌, find, Option, Some, None}
use Rattle.std.specs.Option.{option_map}
use Rattle.image_map.specs.declared.region.Activation.{Activation}
use Rattle.image_map.specs.declared.region.RegionId.{RegionId}
use Rattle.image_map.specs.declared.region.RegionId.TheVariants.{Global, Frame, Heap}
use Rattle.flow_graph.specs.FlowGraph.{MayUse, MayDefine, MustDefine}
use Rattle.ia32_semantics.specs.declared.state.Allocation.{Allocation}
use Rattle.ia32_semantics.specs.State.{State, Location, InRegister, InFlag, AtByte}
use Rattle.ia32_semantics.specs.Outcome.{is_in_stack}
use Rattle.ia32_semantics.specs.Machine.{Machine}
use Rattle.ia32_semantics.specs.Runs.{OccurrenceOf}
use Rattle.call_strings.specs.declared.context.Node.{Node}
use Rattle.slice_soundness.specs.Maps.{Map, here}
use Rattle.slice_soundness.specs.Premises.{Comes, GoesOn, IsLocation}

-- -- Owners

-- a region, and the address of its offset 0
pub record Spot : Type 0 where
  pub region : RegionId
  pub base : ℕ

-- The activation that owns a byte of the stack: the newest whose return slot doesn't end below the byte, or else the oldest.
unfoldable pub owner_of : List Activation → ℕ → Option Activation
owner_of [] a = None
owner_of (oldest ∷ []) a = Some oldest
owner_of (newest ∷ before ∷ others) a = if nat_lt a (newest.base + 4) then Some newest else owner_of (before ∷ others) a

abbrev pub is_in_allocation : ℕ → Allocation → Bool
is_in_allocation a x = not (x.base == 0) && (nat_le x.base a && nat_lt a (x.base + x.size))

abbrev pub frame_spot : Activation → Spot
frame_spot x = record { region = Frame x.callee; base = x.base }

abbrev pub block_spot : (Allocation → ℕ) → Allocation → Spot
block_spot key x = record { region = Heap (key x); base = x.base }

-- numbers and addresses of the image lie in the lower half of the addresses
abbrev pub global_spot : Spot
global_spot = record { region = Global; base = 0 }

abbrev pub spot_by : Bool → Bool → Option Spot → Option Spot → Option Spot
spot_by low stack frame block = if low then Some global_spot else (if stack then frame else block)

-- Where a byte lies, with a key for each block. Older activations lie in the frame of their procedure, and older blocks in the
-- region of their key.
abbrev pub spot_of : (Allocation → ℕ) → State → ℕ → Option Spot
spot_of key s a = spot_by (nat_lt a (2 ^ 31)) (is_in_stack s.slot a) (option_map frame_spot (owner_of s.activations a)) (option_map (block_spot key) (find (is_in_allocation a) s.allocs))

-- -- Cells

pub record Division : Type 1 where
  pub key : Allocation → ℕ
  -- the graph has a cell for the offset of the region
  pub IsDivided : RegionId → ℤ → Type 0
  -- the offset of the region lies in the cell with this place
  pub IsInCell : RegionId → ℤ → ℕ → Type 0

-- Cells fill what is divided, and their places come after those of registers and flags. The cells deliver it.
pub record IsDivision (d : Division) : Type 0 where
  pub fills : (region : RegionId) (offset : ℤ) → d.IsDivided region offset → (place : ℕ) × d.IsInCell region offset place
  pub behind : (region : RegionId) (offset : ℤ) (place : ℕ) → d.IsInCell region offset place → 14 ≤ place

-- the byte at an address lies in the cell with this place
pub record LiesInCell (d : Division) (s : State) (a place : ℕ) : Type 0 where
  pub spot : Spot
  pub spot_is : spot_of d.key s a ≡ Some spot
  pub is_in : d.IsInCell spot.region (pos a -ℤ pos spot.base) place

-- -- Accesses

-- what an access may concern: a register or a flag by its place, of which there are 14, or a byte by region and offset
pub data Part : Type 0 where
  OfCore : ℕ → Part
  OfRegion : RegionId → ℤ → Part

-- what the accesses of a node may read and may write, and what they write always
pub record Accesses : Type 1 where
  pub Reads : Node → Part → Type 0
  pub Writes : Node → Part → Type 0
  pub Always : Node → Part → Type 0

-- the part that a location is in a state
abbrev pub IsPartAt : Division → State → Location → Part → Type 0
IsPartAt d s (InRegister n) part = part ≡ OfCore n
IsPartAt d s (InFlag n) part = part ≡ OfCore (n + 8)
IsPartAt d s (AtByte a) part = (spot : Spot) × (spot_of d.key s a ≡ Some spot) × (part ≡ OfRegion spot.region (pos a -ℤ pos spot.base))

abbrev pub IsThere : Division → Part → Type 0
IsThere d (OfCore n) = n < 14
IsThere d (OfRegion region offset) = d.IsDivided region offset

abbrev pub HasPlace : Division → Part → ℕ → Type 0
HasPlace d (OfCore n) place = (place ≡ n) × (n < 14)
HasPlace d (OfRegion region offset) place = d.IsInCell region offset place

-- The graph's sets by the accesses of its nodes: the places of whatever may be read and written, and no place that isn't written
-- as a whole among those that must be defined. It speaks of no run; access facts deliver it.
pub record HasSets (v : Map) (d : Division) (acc : Accesses) : Type 0 where
  pub used : (n : Node) (a : v.Abs) (part : Part) (place : ℕ) → v.value n ≡ Some a → acc.Reads n part → HasPlace d part place → MayUse v.graph place (v.number n)
  pub defined : (n : Node) (a : v.Abs) (part : Part) (place : ℕ) → v.value n ≡ Some a → acc.Writes n part → HasPlace d part place → MayDefine v.graph place (v.number n)
  pub always : (n : Node) (a : v.Abs) (part : Part) (place : ℕ) → v.value n ≡ Some a → MustDefine v.graph place (v.number n) → HasPlace d part place → acc.Always n part

-- What an occurrence reads and writes is among the accesses of its node, and what the node writes always it writes. It speaks of no
-- graph; abstract steps and access facts deliver it.
pub record AccessLaws (m : Machine) (v : Map) (d : Division) (acc : Accesses) : Type 0 where
  pub reads : (o : OccurrenceOf m) (l : Location) (part : Part) → Comes m v o → IsLocation l → m.reads o l ≡ true
      → IsPartAt d o.before l part → acc.Reads (here v o.before) part
  pub writes : (o : OccurrenceOf m) (l : Location) → GoesOn m v o → IsLocation l → m.writes o l ≡ true → m.forgets o l ≡ false
      → (part : Part) × IsPartAt d o.after l part × acc.Writes (here v o.before) part × IsThere d part
  pub always : (o : OccurrenceOf m) (l : Location) (part : Part) → GoesOn m v o → IsLocation l → m.forgets o l ≡ false
      → IsPartAt d o.after l part → acc.Always (here v o.before) part → m.writes o l ≡ true

-- -- What happens to the stack

-- A call takes the bytes below the end of its return slot: it writes or forgets each.
pub record Takes (m : Machine) (o : OccurrenceOf m) : Type 0 where
  pub new : Activation
  pub grown : o.after.activations ≡ new ∷ o.before.activations
  pub taken : (a : ℕ) → is_in_stack o.before.slot a ≡ true → a < new.base + 4 → m.writes o (AtByte a) ≡ false → m.forgets o (AtByte a) ≡ true

-- A return gives up the bytes of the activation that ends: it forgets each.
pub record GivesUp (m : Machine) (o : OccurrenceOf m) : Type 0 where
  pub ending : Activation
  pub parent : Activation
  pub older : List Activation
  pub were : o.before.activations ≡ ending ∷ parent ∷ older
  pub are : o.after.activations ≡ parent ∷ older
  pub given : (a : ℕ) → is_in_stack o.before.slot a ≡ true → a < ending.base + 4 → m.forgets o (AtByte a) ≡ true

-- The stack stays where it is, and what was allocated stays allocated. The machine and the stack pointer's values deliver it.
pub record MovesBytes (m : Machine) (o : OccurrenceOf m) : Type 0 where
  pub slot : o.after.slot ≡ o.before.slot
  pub more : List Allocation
  pub allocs : o.after.allocs ≡ o.before.allocs ++ more
  pub calls : (o.after.activations ≡ o.before.activations) ⊎ (Takes m o ⊎ GivesUp m o)

-- -- All

pub record IsLocated (m : Machine) (v : Map) (d : Division) (acc : Accesses) : Type 0 where
  -- the map's cells are those of the division
  pub cells : (s : State) (a place : ℕ) → v.HasCell s a place → LiesInCell d s a place
  pub cells_back : (s : State) (a place : ℕ) → LiesInCell d s a place → v.HasCell s a place
  pub division : IsDivision d
  pub sets : HasSets v d acc
  pub accesses : AccessLaws m v d acc
  pub moves : (o : OccurrenceOf m) → GoesOn m v o → MovesBytes m o
