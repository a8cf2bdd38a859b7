-- A seat of a store, and what each call on a lane tells of it: the project's own.
use Rattle.std.specs.Prelude.{◌≡◌, ℕ, ◌<◌, ◌≤◌, Option, Some, None, List, [], ◌∷◌, ◌++◌, length}
use Rattle.std.specs.List.{AllByRecursion}
use Rattle.atomic_table.specs.Seated.{TableId}
use Rattle.atomic_table.specs.declared.shared.Seat.{Seat}
use Rattle.round_core.specs.declared.word.Word.{Word}
use Rattle.round_slots.specs.declared.view.LaneView.{LaneView}
use Rattle.round_slots.specs.declared.view.Known.{Known}
use Rattle.round_slots.specs.declared.view.Key.{Key}
use Rattle.round_slots.specs.View.{lane_of, with_lane, saw}
use Rattle.round_slots.specs.Rule.{AgreesWith}

-- the seat's token at the table of words
abbrev pub Place : Type 0 → Type 0
Place G = Seat (Unit {0}) (Option (Known G))

-- the rounds of the words never fall
abbrev pub IsRising : List Word → Type 0
IsRising [] = Unit {0}
IsRising (w ∷ ws) = AllByRecursion (λ x. w.round ≤ x.round) ws × IsRising ws

-- the rounds of the words that the seat saw in the lane never fall, and each is possible there
pub record HasSeen {G : Type 0} (possible : G → ℕ → ℕ → Type 0) (tag : G) (lane : ℕ) (a : LaneView) : Type 0 where
  pub rising : IsRising a.seen
  pub rounds : AllByRecursion (λ w. possible tag lane w.round) a.seen

-- the seat is one of the store: it has the store's tag and numbers of seats and lanes
pub record Sits {G : Type 0} (possible : G → ℕ → ℕ → Type 0) (id : TableId) (key : Key G) (p : Place G) : Type 0 where
  pub table : p.table_id ≡ id
  pub empty : p.me.1 ≡ []
  pub view : Known G
  pub is_view : p.me.0 ≡ Some view
  pub tag : view.tag ≡ key.tag.value
  pub seats : view.seats ≡ key.seats
  pub lanes : length view.lanes ≡ key.lanes
  pub seen : (lane : ℕ) → lane < key.lanes → HasSeen possible key.tag.value lane (lane_of p.me.0 lane)

module _ {G : Type 0} where
  -- what the seat says of the lane
  abbrev pub view_in : Place G → ℕ → LaneView
  view_in p lane = lane_of p.me.0 lane

  -- it is the same seat, and its view has changed in the lane to this and nowhere else
  abbrev pub Becomes : Place G → Place G → ℕ → LaneView → Type 0
  Becomes old new lane a = (new.table_id ≡ old.table_id) × (new.id ≡ old.id) × (new.me.0 ≡ with_lane old.me.0 lane a)

  -- the seat has no turn in any lane
  abbrev pub HasNoTurn : Key G → Place G → Type 0
  HasNoTurn key p = (lane : ℕ) → lane < key.lanes → (view_in p lane).turn ≡ None

  -- one load, which found this word
  pub record Loads (key : Key G) (old new : Place G) (lane : ℕ) (w : Word) : Type 0 where
    pub agrees : AgreesWith key.seats w (view_in old lane)
    pub view : Becomes old new lane (saw (view_in old lane) (w ∷ []))

  -- One or more loads, of which the last found a word of this round.
  pub record Pins (key : Key G) (old new : Place G) (lane round : ℕ) : Type 0 where
    pub before : List Word
    pub last : Word
    pub agrees : AgreesWith key.seats last (saw (view_in old lane) before)
    pub view : Becomes old new lane (saw (view_in old lane) (before ++ (last ∷ [])))
    pub round_is : last.round ≡ round
