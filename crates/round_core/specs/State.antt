-- What the protocol keeps: for each lane a word, at most one claimer, slots, and what each seat has loaded. A slot is
-- empty, taken by a seat, or filled with a round and read by a set of seats. The protocol is this project's own.
use Rattle.std.specs.Prelude.{ℕ, ◌==◌, ◌&&◌, Bool, true, false, Option, None, Some, List, [], slice_index_or}
use Rattle.std.specs.FinSet as set
use Rattle.round_core.specs.declared.word.Word.{Word}
use Rattle.round_core.specs.declared.lane.Slot.{Slot}
use Rattle.round_core.specs.declared.lane.Slot.TheVariants.{Empty, Taken, Filled}

-- a lane: slots and seats are known by their places in the lists
pub record LaneState : Type 0 where
  pub word : Word
  pub claimer : Option ℕ  -- the seat that is making the next round
  pub slots : List Slot
  pub loaded : List (Option Word)  -- the word that each seat loaded last

-- the word at the start
abbrev pub first_word : Word
first_word = record { round = 0; claimed = false; slot = 0 }

-- what stands for a lane that there is not: it has no slot and no seat
abbrev pub no_lane : LaneState
no_lane = record { word = first_word; claimer = None; slots = []; loaded = [] }

-- the lane of this number
abbrev pub lane_at : List LaneState → ℕ → LaneState
lane_at s lane = slice_index_or s lane no_lane

-- the slot of this number; one that there is not is empty
abbrev pub slot_at : LaneState → ℕ → Slot
slot_at l slot = slice_index_or l.slots slot Empty

-- the word that the seat loaded last, if it has loaded one
abbrev pub loaded_by : LaneState → ℕ → Option Word
loaded_by l seat = slice_index_or l.loaded seat None

-- nobody has taken the slot, and nobody reads it
abbrev pub is_free : Slot → Bool
is_free Empty = true
is_free (Taken seat) = false
is_free (Filled round readers) = set.len readers == 0

-- the seat has taken the slot
abbrev pub is_taken_by : Slot → ℕ → Bool
is_taken_by Empty seat = false
is_taken_by (Taken taker) seat = taker == seat
is_taken_by (Filled round readers) seat = false

-- the slot is filled, with whatever round
abbrev pub is_filled : Slot → Bool
is_filled Empty = false
is_filled (Taken seat) = false
is_filled (Filled round readers) = true

-- the slot is filled with this round
abbrev pub is_filled_with : Slot → ℕ → Bool
is_filled_with Empty round = false
is_filled_with (Taken seat) round = false
is_filled_with (Filled held readers) round = held == round

-- the seat reads the slot
abbrev pub is_read_by : Slot → ℕ → Bool
is_read_by Empty seat = false
is_read_by (Taken taker) seat = false
is_read_by (Filled round readers) seat = set.contains readers seat

-- whether this is the seat, as that of the claimer
abbrev pub is_seat : Option ℕ → ℕ → Bool
is_seat None seat = false
is_seat (Some claimer) seat = claimer == seat

-- both words are claimed, or neither is
abbrev pub same_mark : Bool → Bool → Bool
same_mark true b = b
same_mark false true = false
same_mark false false = true

-- the two words are one
abbrev pub same_word : Word → Word → Bool
same_word v w = (v.round == w.round) && same_mark v.claimed w.claimed && (v.slot == w.slot)

-- what was loaded is this word
abbrev pub is_word : Option Word → Word → Bool
is_word None w = false
is_word (Some v) w = same_word v w

-- what was loaded is a word that names this slot
abbrev pub names_slot : Option Word → ℕ → Bool
names_slot None slot = false
names_slot (Some w) slot = w.slot == slot
