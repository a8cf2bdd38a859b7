-- Where an event happens, and who does it.
use Rattle.std.specs.Prelude.{ℕ, Option, None, Some}
use Rattle.round_core.specs.declared.event.Event.{Event}
use Rattle.round_core.specs.declared.event.Event.TheVariants.{Load, Claim, GiveUp, Publish, Enter, Leave, Take, Put}

-- the lane
abbrev pub lane_of : Event → ℕ
lane_of (Load lane seat) = lane
lane_of (Claim lane seat) = lane
lane_of (GiveUp lane seat) = lane
lane_of (Publish lane seat slot) = lane
lane_of (Enter lane seat slot) = lane
lane_of (Leave lane seat slot) = lane
lane_of (Take lane seat slot) = lane
lane_of (Put lane seat slot round) = lane

-- the seat
abbrev pub seat_of : Event → ℕ
seat_of (Load lane seat) = seat
seat_of (Claim lane seat) = seat
seat_of (GiveUp lane seat) = seat
seat_of (Publish lane seat slot) = seat
seat_of (Enter lane seat slot) = seat
seat_of (Leave lane seat slot) = seat
seat_of (Take lane seat slot) = seat
seat_of (Put lane seat slot round) = seat

-- the slot, where the event speaks of one
abbrev pub slot_of : Event → Option ℕ
slot_of (Load lane seat) = None
slot_of (Claim lane seat) = None
slot_of (GiveUp lane seat) = None
slot_of (Publish lane seat slot) = Some slot
slot_of (Enter lane seat slot) = Some slot
slot_of (Leave lane seat slot) = Some slot
slot_of (Take lane seat slot) = Some slot
slot_of (Put lane seat slot round) = Some slot
