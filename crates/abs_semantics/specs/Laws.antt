-- What follows from the definitions of abstract states. The project's own.
use Rattle.std.specs.Prelude.{◌≡◌, ℕ, ◌+◌, ◌^◌, ◌<◌, ◌≤◌, Bool, true, false, if◌then◌else◌, List, [], Option, Some, None}
use Rattle.std.specs.List.{list_any}
use Rattle.image_map.specs.declared.image.Image.{Image}
use Rattle.image_map.specs.declared.region.Cell.{Cell}
use Rattle.image_map.specs.declared.region.Settings.{Settings}
use Rattle.ia32_semantics.specs.CallModel.{IsStart, AreActivations}
use Rattle.ia32_types.specs.declared.Mem.{Mem}
use Rattle.ia32_types.specs.declared.Width.{Width}
use Rattle.ia32_semantics.specs.Operands.{memory_value as memory_read}
use Rattle.ia32_semantics.specs.Reading.{outcome}
use Rattle.ia32_semantics.specs.State.{State, Bytes, bytes_at, little_endian}
use Rattle.alocs.specs.Cells.{Division}
use Rattle.vset.specs.Members.{HasValue}
use Rattle.vset.specs.Values.{Values, Top, CanonicalValues}
use Rattle.abs_semantics.specs.declared.parts.RangeValue.{RangeValue}
use Rattle.abs_semantics.specs.States.{AbsState, HasCanonical, value_at, rebuilt}
use Rattle.abs_semantics.specs.Joins.{joined_state, widened_state}
use Rattle.abs_semantics.specs.Below.{state_below}
use Rattle.abs_semantics.specs.Start.{initial_state}
use Rattle.abs_semantics.specs.StandsFor.{StandsFor, world_of}
use Rattle.abs_semantics.specs.Resolve.{resolve}
use Rattle.abs_semantics.specs.Touching.{touches_slot}
use Rattle.abs_semantics.specs.Accesses.{read, write}
use Rattle.abs_semantics.specs.Ranges.{read_range, write_range}
use Rattle.abs_semantics.specs.Operands.{address, memory_value}
use Rattle.abs_semantics.specs.Ownership.{IsKnown, IsRange, IsOwnedAmong}
use Rattle.abs_semantics.specs.Stores.{with_memory, IsStored, HoldsNumber, HoldsRange}

-- what is below stands for no more
abbrev pub BelowStandsForNoMore : Type 0
BelowStandsForNoMore =
    (lane : ℕ) (a b : AbsState) (s : State) → state_below a b ≡ true → StandsFor lane a s → StandsFor lane b s

-- a state without what some cells hold
abbrev pub cleared : (Cell → Bool) → AbsState → AbsState
cleared is_lost a = record a { cells = rebuilt (λ c. if is_lost c then Top else value_at a c) a.cells }

-- a state in which some cells may hold every value stands for no less
abbrev pub ClearedCellsStandForMore : Type 0
ClearedCellsStandForMore =
    (lane : ℕ) (is_lost : Cell → Bool) (a : AbsState) (s : State) → StandsFor lane a s → StandsFor lane (cleared is_lost a) s

-- What two states are joined to stands for what each does, where runs start at the same procedure.
abbrev pub JoinedStandsForFirst : Type 0
JoinedStandsForFirst =
    (lane : ℕ) (a b : AbsState) (s : State) → HasCanonical a → HasCanonical b → StandsFor lane a s → StandsFor lane (joined_state a b) s

abbrev pub JoinedStandsForSecond : Type 0
JoinedStandsForSecond =
    (lane : ℕ) (a b : AbsState) (s : State) → HasCanonical a → HasCanonical b → a.root ≡ b.root → StandsFor lane b s → StandsFor lane (joined_state a b) s

-- what a new state widens an old one to stands for what the new one does
abbrev pub WidenedStandsForNew : Type 0
WidenedStandsForNew =
    (lane : ℕ) (old new : AbsState) (s : State) → HasCanonical old → HasCanonical new → StandsFor lane new s → StandsFor lane (widened_state old new) s

-- and for what the old one does, where that lies below the new one
abbrev pub WidenedStandsForOld : Type 0
WidenedStandsForOld =
    (lane : ℕ) (old new : AbsState) (s : State) → HasCanonical old → HasCanonical new → state_below old new ≡ true
    → StandsFor lane old s → StandsFor lane (widened_state old new) s

-- The initial state stands for each state in which a run starts.
abbrev pub StartsHaveStates : Type 0
StartsHaveStates =
    (image : Image) (settings : Settings) (lane : ℕ) (s : State) (d : Division) → IsStart image settings s → StandsFor lane (initial_state image d settings.entry) s

-- -- Where addresses lie

-- An address that is resolved without a reason means bytes of one of the places that are told.
abbrev pub ResolvedBytesAreOwned : Type 0
ResolvedBytesAreOwned =
    (image : Image) (lane : ℕ) (a : AbsState) (p : ℕ) (s : State) (v : Values) (at count len : ℕ) → IsKnown image lane a p s → IsRange lane s v at count len
    → (resolve a p v len).reasons ≡ [] → IsOwnedAmong lane s at count (resolve a p v len).entries

-- -- Reads and writes

-- What is read at an address is a value that a read in the abstract state gives.
abbrev pub ReadsAreMembers : Type 0
ReadsAreMembers =
    (image : Image) (lane : ℕ) (a : AbsState) (p : ℕ) (s : State) (d : Division) (v : Values) (at len : ℕ) (bytes : List ℕ)
    → IsKnown image lane a p s → HasCanonical a → IsRange lane s v at len len → bytes_at s.memory at len ≡ Some bytes
    → HasValue lane (world_of s) (little_endian bytes) (read a d p v len)

-- the same of some of the bytes of a range
abbrev pub RangeReadsAreMembers : Type 0
RangeReadsAreMembers =
    (image : Image) (lane : ℕ) (a : AbsState) (p : ℕ) (s : State) (d : Division) (v : Values) (at len distance count : ℕ) (bytes : List ℕ)
    → IsKnown image lane a p s → IsRange lane s v at len len → distance + count ≤ len → bytes_at s.memory (at + distance) count ≡ Some bytes
    → HasValue lane (world_of s) (little_endian bytes) (read_range a d p v len distance count)

-- After a write, also where it has a reason, the written state stands for the state of the machine.
abbrev pub WritesStandOn : Type 0
WritesStandOn =
    (image : Image) (lane : ℕ) (a : AbsState) (p : ℕ) (s : State) (d : Division) (v : Values) (at len : ℕ) (w : Values) (memory : Bytes)
    → IsKnown image lane a p s → HasCanonical a → CanonicalValues v → CanonicalValues w → IsRange lane s v at len len
    → IsStored image s at len memory → HoldsNumber lane s at len memory w → StandsFor lane (write a d image p v len w) (with_memory s memory)

-- the same of a write to a range, of which the first bytes were written
abbrev pub RangeWritesStandOn : Type 0
RangeWritesStandOn =
    (image : Image) (lane : ℕ) (a : AbsState) (p : ℕ) (s : State) (d : Division) (v : Values) (at count len : ℕ) (w : RangeValue) (memory : Bytes)
    → IsKnown image lane a p s → HasCanonical a → CanonicalValues v → (1 ≤ count → IsRange lane s v at count len) → 1 ≤ len → count ≤ len
    → IsStored image s at count memory → HoldsRange lane s at count len memory w → StandsFor lane (write_range a d image p v (Some len) w) (with_memory s memory)

-- and where it isn't known how many bytes are written
abbrev pub UnknownWritesStandOn : Type 0
UnknownWritesStandOn =
    (image : Image) (lane : ℕ) (a : AbsState) (p : ℕ) (s : State) (d : Division) (v : Values) (at count : ℕ) (w : RangeValue) (memory : Bytes)
    → IsKnown image lane a p s → IsStored image s at count memory → StandsFor lane (write_range a d image p v None w) (with_memory s memory)

-- A write to places none of which reaches into a return slot leaves the return slots of all activations.
abbrev pub SlotsAreLeft : Type 0
SlotsAreLeft =
    (image : Image) (lane : ℕ) (a : AbsState) (p : ℕ) (s : State) (v : Values) (at count len : ℕ) (memory : Bytes)
    → IsKnown image lane a p s → HasCanonical a → CanonicalValues v → IsRange lane s v at count len → (resolve a p v len).reasons ≡ []
    → list_any (touches_slot len) (resolve a p v len).entries ≡ false → IsStored image s at count memory
    → AreActivations image memory s.slot s.activations

-- -- The form that the analysis keeps

abbrev pub ReadsHaveForm : Type 0
ReadsHaveForm = (a : AbsState) (d : Division) (p : ℕ) (v : Values) (len : ℕ) → HasCanonical a → CanonicalValues (read a d p v len)

abbrev pub WritesKeepForm : Type 0
WritesKeepForm =
    (image : Image) (a : AbsState) (d : Division) (p : ℕ) (v : Values) (len : ℕ) (w : Values) → HasCanonical a → CanonicalValues w → HasCanonical (write a d image p v len w)

abbrev pub RangeWritesKeepForm : Type 0
RangeWritesKeepForm =
    (image : Image) (a : AbsState) (d : Division) (p : ℕ) (v : Values) (len : Option ℕ) (w : RangeValue) → HasCanonical a → HasCanonical (write_range a d image p v len w)

-- -- Operands in memory

-- What memory gives at an address of an operand is a value of the operand in the abstract state.
abbrev pub MemoryOperandsAreMembers : Type 0
MemoryOperandsAreMembers =
    (image : Image) (lane : ℕ) (a : AbsState) (p : ℕ) (s : State) (d : Division) (width : Width) (m : Mem) (at : ℕ) (words rest : List ℕ) (n : ℕ)
    → IsKnown image lane a p s → HasCanonical a → at < 2 ^ 32 → HasValue lane (world_of s) at (address a m) → outcome (memory_read width m.gs at) s words ≡ Some (n, rest)
    → HasValue lane (world_of s) n (memory_value a d p width m)
