-- How two seats become one, and how a new seat begins: the project's own.
use Rattle.std.specs.Prelude.{ℕ, ◌+◌, nat_lt, Option, Some, None, List, [], ◌∷◌, ◌++◌, length, replicate, if◌then◌else◌}
use Rattle.round_core.specs.declared.word.Word.{Word}
use Rattle.round_slots.specs.declared.view.LaneView.{LaneView}
use Rattle.round_slots.specs.declared.view.Known.{Known}
use Rattle.round_slots.specs.View.{no_view}

-- one more than the round of the last word, or this where there is none
abbrev pub newest_from : ℕ → List Word → ℕ
newest_from n [] = n
newest_from n (w ∷ ws) = newest_from (w.round + 1) ws

-- the list whose last round is greater; the first where neither is; an empty list counts as the least
abbrev pub later_seen : List Word → List Word → List Word
later_seen ws vs = if nat_lt (newest_from 0 ws) (newest_from 0 vs) then vs else ws

-- a seat's view of a lane after a join: its own turn, and what both published
abbrev pub joined_lane : LaneView → LaneView → LaneView
joined_lane a b = record { seen = later_seen a.seen b.seen; made = a.made ++ b.made; turn = a.turn }

-- the same with all that both saw
abbrev pub gathered_lane : LaneView → LaneView → LaneView
gathered_lane a b = record { seen = a.seen ++ b.seen; made = a.made ++ b.made; turn = a.turn }

-- the two lists made one, lane by lane
abbrev pub merged : (LaneView → LaneView → LaneView) → List LaneView → List LaneView → List LaneView
merged join [] ys = []
merged join (x ∷ xs) [] = x ∷ xs
merged join (x ∷ xs) (y ∷ ys) = join x y ∷ merged join xs ys

module _ {G : Type 0} where
  abbrev pub merged_views : (LaneView → LaneView → LaneView) → Option (Known G) → Option (Known G) → Option (Known G)
  merged_views join None w = None
  merged_views join (Some v) None = Some v
  merged_views join (Some v) (Some w) = Some (record v { lanes = merged join v.lanes w.lanes })

  abbrev pub joined : Option (Known G) → Option (Known G) → Option (Known G)
  joined = merged_views joined_lane

  abbrev pub gathered : Option (Known G) → Option (Known G) → Option (Known G)
  gathered = merged_views gathered_lane

  -- the view of a new seat beside this one
  abbrev pub fresh : Option (Known G) → Option (Known G)
  fresh None = None
  fresh (Some v) = Some (record v { lanes = replicate (length v.lanes) no_view })
