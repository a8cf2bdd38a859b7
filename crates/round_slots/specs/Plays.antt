-- What each step on a lane's word tells the seat that steps: the project's own.
use Rattle.std.specs.Prelude.{◌≡◌, ◌≢◌, ℕ, Option, Some, None, [], ◌∷◌}
use Rattle.atomic_table.specs.Table.{Me, Step}
use Rattle.round_core.specs.declared.word.Word.{Word}
use Rattle.round_core.specs.Word.{unpacked}
use Rattle.round_slots.specs.declared.view.LaneView.{LaneView}
use Rattle.round_slots.specs.declared.view.Known.{Known}
use Rattle.round_slots.specs.View.{lane_of, with_lane, saw}
use Rattle.round_slots.specs.Rule.{AgreesWith}

module _ {G : Type 0} (possible : G → ℕ → ℕ → Type 0) where
  -- what a seat learns of the word that it finds
  abbrev pub Told : Option (Known G) → ℕ → Word → Type 0
  Told None lane w = Unit {0}
  Told (Some v) lane w = AgreesWith v.seats w (lane_of (Some v) lane) × possible v.tag lane w.round

  -- a load: the word is the last that the seat saw
  abbrev pub looked : Step (Unit {0}) → Me (Unit {0}) (Option (Known G)) → ℕ → Me (Unit {0}) (Option (Known G)) → Type 0
  looked st m n m' = Told m.0 st.word (unpacked n) × (m' ≡ (with_lane m.0 st.word (saw (lane_of m.0 st.word) (unpacked n ∷ [])), m.1))

  -- An exchange: where it found the word that it expected, the view has changed for this word and the one that it wrote,
  -- and otherwise as at a load.
  abbrev pub exchanged : (LaneView → Word → Word → LaneView) → Step (Unit {0}) → Me (Unit {0}) (Option (Known G)) → ℕ → Me (Unit {0}) (Option (Known G)) → Type 0
  exchanged change st m n m' =
      Told m.0 st.word (unpacked n)
      × (n ≡ st.first → m' ≡ (with_lane m.0 st.word (change (lane_of m.0 st.word) (unpacked st.first) (unpacked st.second)), m.1))
      × (n ≢ st.first → m' ≡ (with_lane m.0 st.word (saw (lane_of m.0 st.word) (unpacked n ∷ [])), m.1))

-- the second seat of two is new: it has seen the same and published nothing
abbrev pub new_lane : LaneView → LaneView
new_lane a = record { seen = a.seen; made = []; turn = None }
