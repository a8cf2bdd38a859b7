-- How a seat of a shop's store publishes rounds. The project's own.
use Rattle.std.specs.Prelude.{◌≡◌, ◌⊎◌, ℕ, ◌<◌, ◌≤◌, None, Some, List, [], ◌∷◌, ◌++◌, IsTrue}
use Rattle.std.specs.List.{AllByRecursion}
use Rattle.round_core.specs.declared.word.Word.{Word}
use Rattle.round_slots.specs.declared.view.LaneView.{LaneView}
use Rattle.round_slots.specs.Seats.{Place, Becomes, view_in}
use Rattle.rounds.specs.declared.round.Round.{Round}
use Rattle.rounds.specs.declared.numbered.RoundTag.{RoundTag}
use Rattle.requests.specs.Texts.{stepped_text, settled_text}
use Rattle.rounds.specs.Rounds.{IsRound}
use Rattle.service.specs.declared.shop.Shop.{Shop}
use Rattle.service.specs.Seats.{store_lane}

-- the seat has seen these words more and published these numbers more in the lane, and has no turn there
abbrev pub grown : LaneView → List Word → List ℕ → LaneView
grown a words numbers = record { seen = a.seen ++ words; made = a.made ++ numbers; turn = None }

-- nothing else has changed of what the seat says
abbrev pub Grows : Place RoundTag → Place RoundTag → ℕ → List Word → List ℕ → Type 0
Grows old new lane words numbers = Becomes old new lane (grown (view_in old lane) words numbers)

-- the seat has published nothing, and has seen words of this lane alone
abbrev pub LooksOn : Place RoundTag → Place RoundTag → ℕ → Type 0
LooksOn old new lane = (words : List Word) × Grows old new lane words []

-- the number is above that of each round that the seat has seen or published in the lane
pub record IsAbove (place : Place RoundTag) (lane number : ℕ) : Type 0 where
  pub seen : AllByRecursion (λ w. w.round < number) (view_in place lane).seen
  pub made : AllByRecursion (λ n. n < number) (view_in place lane).made

-- The seat has published this number and no other, and saw the word of it last.
pub record Publishes (old new : Place RoundTag) (lane number : ℕ) : Type 0 where
  pub before : List Word
  pub last : Word
  pub grows : Grows old new lane (before ++ last ∷ []) (number ∷ [])
  pub last_is : last.round ≡ number
  pub above : IsAbove old lane number

-- The seat has published nothing, it has seen the word of this round last, and the number is no less than that of any round
-- that it had seen or published.
pub record Looks (old new : Place RoundTag) (lane number : ℕ) : Type 0 where
  pub before : List Word
  pub last : Word
  pub grows : Grows old new lane (before ++ last ∷ []) []
  pub last_is : last.round ≡ number
  pub seen : AllByRecursion (λ w. w.round ≤ number) (view_in old lane).seen
  pub made : AllByRecursion (λ n. n ≤ number) (view_in old lane).made

-- the seat has published nothing, and has seen words of the rounds of so many call sites alone
pub record Watches (shop : Shop) (sites : ℕ) (old new : Place RoundTag) : Type 0 where
  pub lane : ℕ
  pub is_lane : store_lane shop sites ≡ Some lane
  pub looks : LooksOn old new lane

-- a round of so many call sites was published, and no other
pub record Stepped (shop : Shop) (sites : ℕ) (old new : Place RoundTag) (number : ℕ) : Type 0 where
  pub lane : ℕ
  pub is_lane : store_lane shop sites ≡ Some lane
  pub publishes : Publishes old new lane number

-- no round was published, and the one of this number and of so many call sites is the last
pub record Settled (shop : Shop) (sites : ℕ) (old new : Place RoundTag) (number : ℕ) : Type 0 where
  pub lane : ℕ
  pub is_lane : store_lane shop sites ≡ Some lane
  pub looks : Looks old new lane number
  pub pinned : Round
  pub is_round : IsRound shop.image shop.settings pinned
  pub of_sites : pinned.lane ≡ sites
  pub number_is : pinned.number ≡ number
  pub is_last : IsTrue pinned.last

-- the reply to a step
abbrev pub IsStepReply : Shop → ℕ → Place RoundTag → Place RoundTag → ℕ → List ℕ → Type 0
IsStepReply shop sites old new number text =
    (Stepped shop sites old new number × (text ≡ stepped_text number sites))
    ⊎ (Settled shop sites old new number × (text ≡ settled_text number sites))
