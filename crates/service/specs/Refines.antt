-- How a refiner's seat grows over all lanes. The project's own.
use Rattle.std.specs.Prelude.{◌≡◌, ℕ, zero, suc, ◌+◌, ◌<◌, ◌≤◌, true, false, IsTrue, List, ◌∷◌, ◌++◌, length, slice_index_or}
use Rattle.std.specs.List.{AllByRecursion}
use Rattle.round_core.specs.declared.word.Word.{Word}
use Rattle.round_slots.specs.declared.view.LaneView.{LaneView}
use Rattle.round_slots.specs.Seats.{Place, view_in}
use Rattle.rounds.specs.declared.round.Round.{Round}
use Rattle.rounds.specs.declared.numbered.RoundTag.{RoundTag}
use Rattle.rounds.specs.Tags.{BelongsTo}
use Rattle.service.specs.declared.advance.Advance.{Advance}
use Rattle.service.specs.declared.advance.Advance.TheVariants as came
use Rattle.service.specs.declared.refining.Refining.{Refining}
use Rattle.service.specs.declared.shop.Shop.{Shop}
use Rattle.service.specs.Lanes.{tag_of}
use Rattle.service.specs.Seats.{key_of}
use Rattle.service.specs.Steps.{grown, LooksOn, Publishes, Looks}

-- how many rounds the seat has published in the lanes below this one
abbrev pub total_made : Place RoundTag → ℕ → ℕ
total_made p zero = 0
total_made p (suc lane) = total_made p lane + length (view_in p lane).made

-- What a seat says of a lane has grown by these words and numbers. The numbers are those of rounds, and rise.
pub record GrowsAt (old new : LaneView) : Type 0 where
  pub words : List Word
  pub numbers : List ℕ
  pub view_is : new ≡ grown old words numbers
  pub small : AllByRecursion (λ n. n < 9) numbers
  pub few : (m : ℕ) → AllByRecursion (λ n. n < m) numbers → length numbers ≤ m

-- the seat has seen the word of the lane's last round since
pub record SawLast (shop : Shop) (old new : Place RoundTag) (lane : ℕ) : Type 0 where
  pub last : Round
  pub belongs : BelongsTo (tag_of shop.image shop.settings shop.lanes) lane last
  pub is_last : IsTrue last.last
  pub before : List Word
  pub word : Word
  pub after : List Word
  pub seen_is : (view_in new lane).seen ≡ (view_in old lane).seen ++ (before ++ (word ∷ after))
  pub word_is : word.round ≡ last.number

-- how a refiner stands that began with its seat so
pub record Refined (shop : Shop) (old new : Place RoundTag) (r : Refining) : Type 0 where
  pub grows : (lane : ℕ) → lane < (key_of shop).lanes → GrowsAt (view_in old lane) (view_in new lane)
  pub counted : r.made + total_made old (key_of shop).lanes ≡ total_made new (key_of shop).lanes
  pub settled : (lane : ℕ) → lane < (key_of shop).lanes → slice_index_or r.settled lane false ≡ true → SawLast shop old new lane
  pub size : length r.settled ≡ 4

-- What a visit to a lane has done.
abbrev pub Visits : Shop → Place RoundTag → Place RoundTag → ℕ → Advance → Type 0
Visits shop old new lane (came.Published n) = (n < 9) × Publishes old new lane n
Visits shop old new lane (came.Settled n) = (r : Round) × BelongsTo (tag_of shop.image shop.settings shop.lanes) lane r × IsTrue r.last × (r.number ≡ n) × Looks old new lane n
Visits shop old new lane came.Refused = LooksOn old new lane
