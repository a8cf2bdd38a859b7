-- What a seat says of the lanes, and how its steps change that: the project's own.
use Rattle.std.specs.Prelude.{ℕ, ◌+◌, true, false, Option, Some, None, List, [], ◌∷◌, ◌++◌, replicate, slice_index_or, slice_set}
use Rattle.round_core.specs.declared.word.Word.{Word}
use Rattle.round_slots.specs.declared.view.LaneView.{LaneView}
use Rattle.round_slots.specs.declared.view.Known.{Known}
use Rattle.round_slots.specs.declared.view.Key.{Key}

-- the view of a lane that the seat has done nothing in
abbrev pub no_view : LaneView
no_view = record { seen = []; made = []; turn = None }

module _ {G : Type 0} where
  -- what the seat says of the lane; a seat that was joined to another says nothing
  abbrev pub lane_of : Option (Known G) → ℕ → LaneView
  lane_of None lane = no_view
  lane_of (Some v) lane = slice_index_or v.lanes lane no_view

  -- the same view but for one lane
  abbrev pub with_lane : Option (Known G) → ℕ → LaneView → Option (Known G)
  with_lane None lane a = None
  with_lane (Some v) lane a = Some (record v { lanes = slice_set v.lanes lane a })

  -- a seat that has done nothing
  abbrev pub first_view : Key G → Option (Known G)
  first_view key = Some (record { tag = key.tag.value; seats = key.seats; lanes = replicate key.lanes no_view })

-- the word with the mark
abbrev pub marked : Word → Word
marked w = record w { claimed = true }

-- the word without the mark
abbrev pub unmarked : Word → Word
unmarked w = record w { claimed = false }

-- the word of the next round, which this slot holds
abbrev pub next_word : Word → ℕ → Word
next_word w slot = record { round = w.round + 1; claimed = false; slot = slot }

-- the seat has seen more words
abbrev pub saw : LaneView → List Word → LaneView
saw a words = record a { seen = a.seen ++ words }

-- the seat found a word and claimed it
abbrev pub claimed : LaneView → Word → Word → LaneView
claimed a from to = record { seen = a.seen ++ (from ∷ to ∷ []); made = a.made; turn = Some to }

-- the seat took its claim back
abbrev pub gave_up : LaneView → Word → Word → LaneView
gave_up a from to = record { seen = a.seen ++ (from ∷ to ∷ []); made = a.made; turn = None }

-- the seat published the round of the word that it wrote
abbrev pub published : LaneView → Word → Word → LaneView
published a from to = record { seen = a.seen ++ (from ∷ to ∷ []); made = a.made ++ (to.round ∷ []); turn = None }
