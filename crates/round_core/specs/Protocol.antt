-- The protocol: where each event is allowed, what it changes and nothing else, and runs of events. This project's own.
use Rattle.std.specs.Prelude.{ℕ, ◌+◌, ◌==◌, ◌&&◌, not, nat_lt, Bool, true, false, Option, None, Some, List, [], ◌∷◌, length, replicate, slice_set, if◌then◌else◌}
use Rattle.std.specs.List.{list_any}
use Rattle.std.specs.FinSet as set
use Rattle.round_core.specs.declared.word.Word.{Word}
use Rattle.round_core.specs.declared.lane.Slot.{Slot}
use Rattle.round_core.specs.declared.lane.Slot.TheVariants.{Empty, Taken, Filled}
use Rattle.round_core.specs.declared.event.Event.{Event}
use Rattle.round_core.specs.declared.event.Event.TheVariants.{Load, Claim, GiveUp, Publish, Enter, Leave, Take, Put}
use Rattle.round_core.specs.Event.{lane_of, seat_of, slot_of}
use Rattle.round_core.specs.State.{LaneState, first_word, lane_at, slot_at, loaded_by, is_free, is_taken_by, is_filled, is_filled_with, is_read_by, is_seat, is_word, names_slot}

-- a lane as it is at the start: slot 0 is filled with round 0 and named by the word, and nothing is loaded
abbrev pub first_lane : ℕ → LaneState
first_lane seats = record { word = first_word; claimer = None; slots = Filled 0 set.empty ∷ replicate (seats + 1) Empty; loaded = replicate seats None }

-- every lane as it is at the start
abbrev pub start : ℕ → ℕ → List LaneState
start lanes seats = replicate lanes (first_lane seats)

-- some slot of the lane is taken by the seat
abbrev pub has_taken : LaneState → ℕ → Bool
has_taken l seat = list_any (λ slot. is_taken_by slot seat) l.slots

-- some slot of the lane holds the round after the word's
abbrev pub holds_next : LaneState → Bool
holds_next l = list_any (λ slot. is_filled_with slot (l.word.round + 1)) l.slots

-- the seat reads some slot of the lane
abbrev pub reads_in : ℕ → LaneState → Bool
reads_in seat l = list_any (λ slot. is_read_by slot seat) l.slots

-- the lane has the slot, where the event speaks of one
abbrev pub has_slot : LaneState → Option ℕ → Bool
has_slot l None = true
has_slot l (Some slot) = nat_lt slot (length l.slots)

-- the event's lane, seat and slot exist
abbrev pub has_place : List LaneState → Event → Bool
has_place s e = nat_lt (lane_of e) (length s) && nat_lt (seat_of e) (length (lane_at s (lane_of e)).loaded) && has_slot (lane_at s (lane_of e)) (slot_of e)

-- what the event asks for beside its place, in a state s, of its lane l
abbrev pub allows : List LaneState → LaneState → Event → Bool
-- a load: nothing
allows s l (Load _ seat) = true
-- a claim: the word is not claimed, its round is below 2 ^ 32 - 1, and it is what the seat has loaded
allows s l (Claim _ seat) = not l.word.claimed && nat_lt l.word.round 4294967295 && is_word (loaded_by l seat) l.word
-- a giving up: the seat is the claimer, has no slot taken in the lane, and no slot of the lane holds the next round
allows s l (GiveUp _ seat) = is_seat l.claimer seat && not (has_taken l seat) && not (holds_next l)
-- a publishing: the seat is the claimer, and the slot is filled with the next round
allows s l (Publish _ seat slot) = is_seat l.claimer seat && is_filled_with (slot_at l slot) (l.word.round + 1)
-- an entering: the seat reads no slot of any lane, the word that it has loaded names the slot, and the slot is filled
allows s l (Enter _ seat slot) = not (list_any (reads_in seat) s) && names_slot (loaded_by l seat) slot && is_filled (slot_at l slot)
-- a leaving: the seat reads the slot
allows s l (Leave _ seat slot) = is_read_by (slot_at l slot) seat
-- a taking: the seat may give up, and the slot is not the word's, is not taken and has no reader
allows s l (Take _ seat slot) = is_seat l.claimer seat && not (has_taken l seat) && not (holds_next l) && not (slot == l.word.slot) && is_free (slot_at l slot)
-- a filling: the slot is taken by the seat, and the round is the next one
allows s l (Put _ seat slot round) = is_taken_by (slot_at l slot) seat && round == l.word.round + 1

-- the event's place exists, and what it asks for holds
abbrev pub is_allowed : List LaneState → Event → Bool
is_allowed s e = has_place s e && allows s (lane_at s (lane_of e)) e

-- the seat changes the word and the claimer, and has loaded the new word
abbrev pub with_word : LaneState → ℕ → Word → Option ℕ → LaneState
with_word l seat word claimer = record l { word = word; claimer = claimer; loaded = slice_set l.loaded seat (Some word) }

-- one slot changes
abbrev pub with_slot : LaneState → ℕ → Slot → LaneState
with_slot l slot content = record l { slots = slice_set l.slots slot content }

-- a slot that one more seat reads
abbrev pub entered : Slot → ℕ → Slot
entered Empty seat = Empty
entered (Taken taker) seat = Taken taker
entered (Filled round readers) seat = Filled round (set.insert readers seat)

-- a slot that one seat fewer reads
abbrev pub left : Slot → ℕ → Slot
left Empty seat = Empty
left (Taken taker) seat = Taken taker
left (Filled round readers) seat = Filled round (set.remove readers seat)

-- the lane after the event, where it is allowed
abbrev pub after : LaneState → Event → LaneState
-- the seat has loaded the word
after l (Load _ seat) = record l { loaded = slice_set l.loaded seat (Some l.word) }
-- the word is claimed by the seat, which has loaded it so
after l (Claim _ seat) = with_word l seat (record l.word { claimed = true }) (Some seat)
-- the word is not claimed, there is no claimer, and the seat has loaded it so
after l (GiveUp _ seat) = with_word l seat (record l.word { claimed = false }) None
-- the word is of the next round, not claimed, and names the slot; there is no claimer, and the seat has loaded it so
after l (Publish _ seat slot) = with_word l seat (record { round = l.word.round + 1; claimed = false; slot = slot }) None
-- the seat is a reader of the slot
after l (Enter _ seat slot) = with_slot l slot (entered (slot_at l slot) seat)
-- the seat is no reader of the slot
after l (Leave _ seat slot) = with_slot l slot (left (slot_at l slot) seat)
-- the slot is taken by the seat
after l (Take _ seat slot) = with_slot l slot (Taken seat)
-- the slot is filled with the round, and has no reader
after l (Put _ seat slot round) = with_slot l slot (Filled round set.empty)

-- the state after the event, where it is allowed: the other lanes stay
abbrev pub change : List LaneState → Event → List LaneState
change s e = slice_set s (lane_of e) (after (lane_at s (lane_of e)) e)

-- the state after the event: one that is not allowed changes nothing
abbrev pub happens : List LaneState → Event → List LaneState
happens s e = if is_allowed s e then change s e else s

-- the state after a whole list of events
abbrev pub run : List Event → List LaneState → List LaneState
run [] s = s
run (e ∷ es) s = run es (happens s e)
