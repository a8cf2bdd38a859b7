-- How a store begins and ends: the project's own.
use Rattle.std.specs.Prelude.{◌≡◌, ℕ, ◌+◌, ◌<◌, ◌≤◌, Option, Some, List, [], ◌∷◌, length, Vec}
use Rattle.std.specs.List.{All, AllByRecursion}
use Rattle.std.specs.declared.alloc.Global.{Global}
use Rattle.atomic_table.specs.Seated.{TableId}
use Rattle.round_slots.specs.declared.view.LaneView.{LaneView}
use Rattle.round_slots.specs.declared.view.LaneTag.{LaneTag}
use Rattle.round_slots.specs.declared.view.Known.{Known}
use Rattle.round_slots.specs.declared.view.Key.{Key}
use Rattle.round_slots.specs.View.{first_view}
use Rattle.round_slots.specs.Seats.{Place, view_in}
use Rattle.round_slots.specs.Rows.{Admits}
use Rattle.round_slots.specs.Claims.{front_of}
use Rattle.round_slots.specs.declared.store.Front.{Front}
use Rattle.round_core.specs.declared.word.Word.{Word}

-- the values are round 0 of the lanes from this one on, and belong to the tag
abbrev pub AreFirst : {G T : Type 0} → (G → ℕ → T → Type 0) → (T → ℕ) → G → ℕ → List T → Type 0
AreFirst belongs number tag lane [] = Unit {0}
AreFirst belongs number tag lane (x ∷ xs) = belongs tag lane x × (number x ≡ 0) × AreFirst belongs number tag (lane + 1) xs

-- the rows have a slot each, and admit the values in order
abbrev pub AreAdmitted : {G T : Type 0} → (G → ℕ → T → Type 0) → List T → List (Vec (LaneTag G) Global) → Type 0
AreAdmitted belongs [] rows = Unit {0}
AreAdmitted belongs (x ∷ xs) [] = ⊥
AreAdmitted belongs (x ∷ xs) (row ∷ rows) = Admits belongs x row.items × (0 < length row.items) × AreAdmitted belongs xs rows

-- all rounds that the view names are at most this
pub record IsBounded (n : ℕ) (a : LaneView) : Type 0 where
  pub seen : AllByRecursion (λ w. w.round ≤ n) a.seen
  pub made : AllByRecursion (λ m. m ≤ n) a.made

-- the lane ends with a word that the front shows, whose round is possible and bounds what each seat saw and published
pub record EndsAt {G X : Type 0} (possible : G → ℕ → ℕ → Type 0) (key : Key G) (place : X → Place G) (seats : List X) (lane : ℕ) (front : Option Front) : Type 0 where
  pub last : Word
  pub shows : front ≡ Some (front_of last)
  pub rounds : possible key.tag.value lane last.round
  pub bounds : All (λ x. IsBounded last.round (view_in (place x) lane)) seats

module _ {G : Type 0} where
  -- a seat of the store that has done nothing
  abbrev pub IsFresh : TableId → Key G → Place G → Type 0
  IsFresh id key p = (p.table_id ≡ id) × (p.me ≡ (first_view key, []))

  -- a seat of the store
  pub record IsSeat (id : TableId) (key : Key G) (p : Place G) : Type 0 where
    pub table : p.table_id ≡ id
    pub empty : p.me.1 ≡ []
    pub view : Known G
    pub is_view : p.me.0 ≡ Some view
    pub lanes : length view.lanes ≡ key.lanes

  -- what bounds the rounds of the one seat in the lane bounds those of the other
  abbrev pub IsCovered : Place G → Place G → ℕ → Type 0
  IsCovered by p lane = (n : ℕ) → IsBounded n (view_in by lane) → IsBounded n (view_in p lane)
