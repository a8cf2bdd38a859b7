-- A seat of a shop's store between two calls. The project's own.
use Rattle.std.specs.Prelude.{◌≡◌, ◌≤◌, ℕ, Bool, false, Option, Some, None, slice_index_or}
use Rattle.std.specs.List.{AllByRecursion}
use Rattle.round_slots.specs.declared.view.Key.{Key}
use Rattle.round_slots.specs.Seats.{Place, Sits, HasNoTurn, Pins, view_in}
use Rattle.rounds.specs.declared.round.Round.{Round}
use Rattle.rounds.specs.declared.numbered.RoundTag.{RoundTag}
use Rattle.rounds.specs.Rounds.{IsRound}
use Rattle.rounds.specs.Tags.{HasNumber}
use Rattle.service.specs.declared.shop.Shop.{Shop}

abbrev pub key_of : Shop → Key RoundTag
key_of shop = shop.store.words.shared.key

-- the store's lane of the rounds whose nodes keep so many call sites, where it has one
abbrev pub store_lane : Shop → ℕ → Option ℕ
store_lane shop sites = slice_index_or shop.lanes sites None

-- the store has such a lane
abbrev pub HasLane : Shop → ℕ → Type 0
HasLane shop sites = (lane : ℕ) × (store_lane shop sites ≡ Some lane)

-- the seat is one of the store
abbrev pub SitsIn : Shop → Place RoundTag → Type 0
SitsIn shop place = Sits HasNumber shop.store.words.shared.table_id (key_of shop) place

-- the seat is one of the store, and holds neither a pin nor a turn
pub record IsReady (shop : Shop) (place : Place RoundTag) (pinned : Bool) : Type 0 where
  pub sits : SitsIn shop place
  pub no_turn : HasNoTurn (key_of shop) place
  pub no_pin : pinned ≡ false

-- A round of the program and of so many call sites: the seat pinned it in the store, and has seen its word last.
pub record IsPinned (shop : Shop) (sites : ℕ) (old new : Place RoundTag) (r : Round) : Type 0 where
  pub lane : ℕ
  pub is_lane : store_lane shop sites ≡ Some lane
  pub is_round : IsRound shop.image shop.settings r
  pub of_sites : r.lane ≡ sites
  pub pins : Pins (key_of shop) old new lane r.number

-- the number is no less than that of any round that the seat has seen or published in the lane
pub record IsNoOlder (shop : Shop) (sites : ℕ) (place : Place RoundTag) (number : ℕ) : Type 0 where
  pub seen : (lane : ℕ) → store_lane shop sites ≡ Some lane → AllByRecursion (λ w. w.round ≤ number) (view_in place lane).seen
  pub made : (lane : ℕ) → store_lane shop sites ≡ Some lane → AllByRecursion (λ n. n ≤ number) (view_in place lane).made
