-- What holds over every list of events from the start, whether or not each event is allowed. The project's own.
use Rattle.std.specs.Prelude.{◌≡◌, ◌≢◌, ℕ, ◌+◌, ◌<◌, ◌≤◌, ◌==◌, ◌&&◌, Bool, false, IsTrue, IsSome, Option, None, Some, List, [], ◌∷◌, is_some, if◌then◌else◌}
use Rattle.std.specs.List.{list_any, AllByRecursion}
use Rattle.round_core.specs.declared.word.Word.{Word}
use Rattle.round_core.specs.declared.lane.Slot.{Slot}
use Rattle.round_core.specs.declared.lane.Slot.TheVariants.{Empty, Taken, Filled}
use Rattle.round_core.specs.declared.event.Event.{Event}
use Rattle.round_core.specs.declared.event.Event.TheVariants.{Load, Claim, GiveUp, Publish, Enter, Leave, Take, Put}
use Rattle.round_core.specs.State.{LaneState, lane_at, slot_at, loaded_by, is_read_by, is_seat}
use Rattle.round_core.specs.Protocol.{start, has_taken, holds_next, reads_in, is_allowed, happens, run}

-- the state that a list of events leads to
abbrev pub reached : ℕ → ℕ → List Event → List LaneState
reached lanes seats events = run events (start lanes seats)

-- the word of a lane
abbrev pub word_at : List LaneState → ℕ → Word
word_at s lane = (lane_at s lane).word

-- the seat is the lane's claimer
abbrev pub claims : List LaneState → ℕ → ℕ → Bool
claims s lane seat = is_seat (lane_at s lane).claimer seat

-- the seat reads the slot of the lane
abbrev pub reads : List LaneState → ℕ → ℕ → ℕ → Bool
reads s lane slot seat = is_read_by (slot_at (lane_at s lane) slot) seat

-- the round that a slot is filled with, if it is filled
abbrev pub round_of : Slot → Option ℕ
round_of Empty = None
round_of (Taken seat) = None
round_of (Filled round readers) = Some round

-- the round that the slot of the lane is filled with
abbrev pub round_in : List LaneState → ℕ → ℕ → Option ℕ
round_in s lane slot = round_of (slot_at (lane_at s lane) slot)

-- the seat reads a slot that is filled with the round of the word that it loaded last
pub record HasPinned (s : List LaneState) (lane seat round : ℕ) : Type 0 where
  pub slot : ℕ
  pub word : Word
  pub loaded : loaded_by (lane_at s lane) seat ≡ Some word
  pub round_is : word.round ≡ round
  pub reads_it : IsTrue (reads s lane slot seat)
  pub filled : round_in s lane slot ≡ Some round

-- A slot that a seat reads keeps its round until that seat leaves it.
abbrev pub ReadSlotKeepsRound : Type 0
ReadSlotKeepsRound =
    (lanes seats : ℕ) (events later : List Event) (lane slot seat : ℕ)
    → let s = reached lanes seats events in
    IsTrue (reads s lane slot seat)
    → AllByRecursion (λ e. e ≢ Leave lane seat slot) later
    → IsTrue (reads (run later s) lane slot seat) × IsSome (round_in s lane slot) × (round_in (run later s) lane slot ≡ round_in s lane slot)

-- The slot that a word names is filled with the word's round.
abbrev pub NamedSlotIsFilled : Type 0
NamedSlotIsFilled = (lanes seats : ℕ) (events : List Event) (lane : ℕ) → let s = reached lanes seats events in lane < lanes → round_in s lane (word_at s lane).slot ≡ Some (word_at s lane).round

-- A word can be packed: its round is below 2 ^ 32, and its slot is one of the lane's.
abbrev pub WordFits : Type 0
WordFits = (lanes seats : ℕ) (events : List Event) (lane : ℕ) → let s = reached lanes seats events in lane < lanes → ((word_at s lane).round < 4294967296) × ((word_at s lane).slot < seats + 2)

-- the event publishes in the lane, where it is allowed
abbrev pub publishes_in : ℕ → Event → Bool
publishes_in lane (Load _ seat) = false
publishes_in lane (Claim _ seat) = false
publishes_in lane (GiveUp _ seat) = false
publishes_in lane (Publish at seat slot) = at == lane
publishes_in lane (Enter _ seat slot) = false
publishes_in lane (Leave _ seat slot) = false
publishes_in lane (Take _ seat slot) = false
publishes_in lane (Put _ seat slot round) = false

-- A word's round rises by one where a publishing happens in its lane, and stays at every other event.
abbrev pub RoundRisesAtPublish : Type 0
RoundRisesAtPublish =
    (lanes seats : ℕ) (events : List Event) (e : Event) (lane : ℕ)
    → let s = reached lanes seats events in
    (word_at (happens s e) lane).round ≡ (word_at s lane).round + (if is_allowed s e && publishes_in lane e then 1 else 0)

-- A word's round never falls.
abbrev pub RoundNeverFalls : Type 0
RoundNeverFalls = (lanes seats : ℕ) (events later : List Event) (lane : ℕ) → let s = reached lanes seats events in (word_at s lane).round ≤ (word_at (run later s) lane).round

-- A lane has at most one claimer.
abbrev pub OneClaimer : Type 0
OneClaimer =
    (lanes seats : ℕ) (events : List Event) (lane a b : ℕ)
    → let s = reached lanes seats events in
    IsTrue (claims s lane a)
    → IsTrue (claims s lane b)
    → a ≡ b

-- A lane's word is claimed exactly where it has a claimer.
abbrev pub ClaimerIsMarked : Type 0
ClaimerIsMarked = (lanes seats : ℕ) (events : List Event) (lane : ℕ) → let s = reached lanes seats events in (word_at s lane).claimed ≡ is_some (lane_at s lane).claimer

-- the event is the seat's giving up or publishing in the lane
abbrev pub ends_claim : ℕ → ℕ → Event → Bool
ends_claim lane seat (Load _ _) = false
ends_claim lane seat (Claim _ _) = false
ends_claim lane seat (GiveUp at by) = (at == lane) && (by == seat)
ends_claim lane seat (Publish at by _) = (at == lane) && (by == seat)
ends_claim lane seat (Enter _ _ _) = false
ends_claim lane seat (Leave _ _ _) = false
ends_claim lane seat (Take _ _ _) = false
ends_claim lane seat (Put _ _ _ _) = false

-- no event of the list ends the claim where it is allowed: a giving up or publishing that is refused ends nothing
abbrev pub ClaimLasts : ℕ → ℕ → List Event → List LaneState → Type 0
ClaimLasts lane seat [] s = Unit {0}
ClaimLasts lane seat (e ∷ later) s = ((is_allowed s e && ends_claim lane seat e) ≡ false) × ClaimLasts lane seat later (happens s e)

-- Until the claimer publishes or gives up, it stays the claimer, and the word stays as it is.
abbrev pub ClaimerAloneChangesWord : Type 0
ClaimerAloneChangesWord =
    (lanes seats : ℕ) (events later : List Event) (lane seat : ℕ)
    → let s = reached lanes seats events in
    IsTrue (claims s lane seat)
    → ClaimLasts lane seat later s
    → IsTrue (claims (run later s) lane seat) × (word_at (run later s) lane ≡ word_at s lane)

-- the round is at most the word's, and where it is the word's, so is the slot
pub record IsNoNewer (old word : Word) : Type 0 where
  pub round : old.round ≤ word.round
  pub slot : old.round ≡ word.round → old.slot ≡ word.slot

-- A loaded word is no newer than the lane's word.
abbrev pub LoadedWordIsNoNewer : Type 0
LoadedWordIsNoNewer =
    (lanes seats : ℕ) (events : List Event) (lane seat : ℕ) (w : Word)
    → let s = reached lanes seats events in
    loaded_by (lane_at s lane) seat ≡ Some w
    → IsNoNewer w (word_at s lane)

-- While a claimer has taken no slot, and no slot holds the next round, the claimer can take one of the `seats + 2` slots.
abbrev pub FreeSlotForClaimer : Type 0
FreeSlotForClaimer =
    (lanes seats : ℕ) (events : List Event) (lane seat : ℕ)
    → let s = reached lanes seats events in
    IsTrue (claims s lane seat)
    → has_taken (lane_at s lane) seat ≡ false
    → holds_next (lane_at s lane) ≡ false
    → (slot : ℕ) × (slot < seats + 2) × IsTrue (is_allowed s (Take lane seat slot))

-- A seat that enters a slot that is filled with the round of its loaded word has pinned that round.
abbrev pub EnteredSlotIsPinned : Type 0
EnteredSlotIsPinned =
    (lanes seats : ℕ) (events : List Event) (lane seat slot : ℕ) (w : Word)
    → let s = reached lanes seats events in
    IsTrue (is_allowed s (Enter lane seat slot))
    → loaded_by (lane_at s lane) seat ≡ Some w
    → round_in s lane slot ≡ Some w.round
    → HasPinned (happens s (Enter lane seat slot)) lane seat w.round

-- A seat that reads nothing, loads, and at once enters the slot of the word has pinned the word's round.
abbrev pub LoadedSlotIsPinned : Type 0
LoadedSlotIsPinned =
    (lanes seats : ℕ) (events : List Event) (lane seat : ℕ)
    → let s = reached lanes seats events in
    lane < lanes
    → seat < seats
    → list_any (reads_in seat) s ≡ false
    → HasPinned (run (Load lane seat ∷ Enter lane seat (word_at s lane).slot ∷ []) s) lane seat (word_at s lane).round
