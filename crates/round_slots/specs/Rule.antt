-- The rule that the lanes' words and the seats' views keep between any two steps: the project's own.
use Rattle.std.specs.Prelude.{◌≡◌, ◌≢◌, ℕ, ◌<◌, ◌≤◌, IsTrue, Option, Some, List, [], ◌∷◌, length, slice_index}
use Rattle.std.specs.List.{AllByRecursion}
use mathlib.Core.Option.{some}
use lib.ListN.{get_elem?}
use Rattle.atomic_table.specs.Table.{State}
use Rattle.round_core.specs.declared.word.Word.{Word}
use Rattle.round_core.specs.Word.{unpacked}
use Rattle.round_core.specs.Laws.{IsNoNewer}
use Rattle.round_slots.specs.declared.view.LaneView.{LaneView}
use Rattle.round_slots.specs.declared.view.Known.{Known}
use Rattle.round_slots.specs.declared.view.Key.{Key}
use Rattle.round_slots.specs.View.{lane_of}

-- no number stands twice in the list
abbrev pub HasNoRepeat : List ℕ → Type 0
HasNoRepeat [] = Unit {0}
HasNoRepeat (n ∷ ns) = AllByRecursion (λ m. n ≢ m) ns × HasNoRepeat ns

-- no number stands in both lists
abbrev pub AreApart : List ℕ → List ℕ → Type 0
AreApart ms ns = AllByRecursion (λ m. AllByRecursion (λ n. m ≢ n) ns) ms

-- the last number of the list, or this one where there is none
abbrev pub last_from : ℕ → List ℕ → ℕ
last_from n [] = n
last_from n (m ∷ ms) = last_from m ms

-- What a seat says of a lane is true of the lane's word, in a store of so many seats: no word that it saw is newer; the
-- numbers that it published differ and lie from 1 to the word's round; where it has a turn, the word is the one that it
-- claimed; and where it is the store's only seat, it published the word's round last.
pub record AgreesWith (seats : ℕ) (w : Word) (a : LaneView) : Type 0 where
  pub seen : AllByRecursion (λ x. IsNoNewer x w) a.seen
  pub made : AllByRecursion (λ n. (1 ≤ n) × (n ≤ w.round)) a.made
  pub distinct : HasNoRepeat a.made
  pub turn : (x : Word) → a.turn ≡ Some x → (x ≡ w) × IsTrue w.claimed
  pub only : seats ≡ 1 → w.round ≡ last_from 0 a.made

-- two seats haven't both a turn in the lane, and haven't published one number
pub record IsApart (a b : LaneView) : Type 0 where
  pub turns : (x y : Word) → a.turn ≡ Some x → b.turn ≢ Some y
  pub made : AreApart a.made b.made

-- the word of the lane
abbrev pub word_of : List ℕ → ℕ → Word
word_of words lane = unpacked (slice_index words lane)

module _ {G : Type 0} (key : Key G) where
  -- a seat's view is one of this store, and it agrees with the words
  pub record Knows (words : List ℕ) (v : Known G) : Type 0 where
    pub tag : v.tag ≡ key.tag.value
    pub seats : v.seats ≡ key.seats
    pub lanes : length v.lanes ≡ key.lanes
    pub agrees : (lane : ℕ) → lane < key.lanes → AgreesWith key.seats (word_of words lane) (lane_of (Some v) lane)

  -- the table keeps the rule: it has a word for each lane, the words' rounds are possible, each seat's view agrees with
  -- the words, and two seats are apart in each lane, so that the store has more seats than one
  pub record Keeps (possible : G → ℕ → ℕ → Type 0) (s : State (Unit {0}) (Option (Known G))) : Type 0 where
    pub lanes : length s.words ≡ key.lanes
    pub rounds : (lane : ℕ) → lane < key.lanes → possible key.tag.value lane (word_of s.words lane).round
    pub knows : (i : ℕ) (v : Known G) → get_elem? s.views i ≡ some (Some v) → Knows s.words v
    pub apart :
        (i j : ℕ) (v w : Known G)
        → i ≢ j
        → get_elem? s.views i ≡ some (Some v)
        → get_elem? s.views j ≡ some (Some w)
        → (1 < key.seats) × ((lane : ℕ) → lane < key.lanes → IsApart (lane_of (Some v) lane) (lane_of (Some w) lane))
