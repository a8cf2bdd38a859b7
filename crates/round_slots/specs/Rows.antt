-- The slots of the lanes, by the tags of what they hold: the project's own.
use Rattle.std.specs.Prelude.{◌≡◌, ℕ, ◌+◌, ◌==◌, Bool, false, Option, Some, None, List, [], ◌∷◌, length, Vec}
use Rattle.std.specs.List.{AllByRecursion, AllByRecursion-prop}
use Rattle.std.specs.Coded.{Coded-set, coded_ℕ, ×_prop, Unit-prop}
use Rattle.std.specs.declared.alloc.Global.{Global}
use Rattle.round_slots.specs.declared.view.LaneTag.{LaneTag}
use Rattle.round_slots.specs.declared.view.Key.{Key}
use Rattle.round_slots.specs.declared.slots.Held.{Held}

-- each slot of the row admits the value
abbrev pub Admits : {G T : Type 0} → (G → ℕ → T → Type 0) → T → List (LaneTag G) → Type 0
Admits belongs x row = AllByRecursion (λ tag. belongs tag.tag.value tag.lane x) row

-- the slots of one lane: as many as there are seats and two more, for values of the lane
abbrev pub IsRow : {G : Type 0} → Key G → ℕ → List (LaneTag G) → Type 0
IsRow key lane row = (length row ≡ key.seats + 2) × AllByRecursion (λ tag. (tag.tag.value ≡ key.tag.value) × (tag.lane ≡ lane)) row

-- the slots of the lanes from this one on
abbrev pub AreRows : {G : Type 0} → Key G → ℕ → List (Vec (LaneTag G) Global) → Type 0
AreRows key lane [] = Unit {0}
AreRows key lane (row ∷ rows) = IsRow key lane row.items × AreRows key (lane + 1) rows

-- it is a fact with one proof, so that a store may keep it
IsRow-prop : {G : Type 0} → ((x y : G) → IsProp (x ≡ y)) → (key : Key G) (lane : ℕ) (row : List (LaneTag G)) → IsProp (IsRow key lane row)
IsRow-prop set key lane row =
    ×_prop (Coded-set coded_ℕ (length row) (key.seats + 2))
    (AllByRecursion-prop (λ tag. (tag.tag.value ≡ key.tag.value) × (tag.lane ≡ lane)) (λ tag. ×_prop (set tag.tag.value key.tag.value) (Coded-set coded_ℕ tag.lane lane)) row)

pub AreRows-prop : {G : Type 0} → ((x y : G) → IsProp (x ≡ y)) → (key : Key G) (lane : ℕ) (rows : List (Vec (LaneTag G) Global)) → IsProp (AreRows key lane rows)
AreRows-prop set key lane [] = Unit-prop
AreRows-prop set key lane (row ∷ rows) = ×_prop (IsRow-prop set key lane row.items) (AreRows-prop set key (lane + 1) rows)

-- what a claim of a slot shows is the slot's value
abbrev pub Shows : {T : Type 0} → Option (Option (Held T)) → T → Type 0
Shows None x = ⊥
Shows (Some None) x = ⊥
Shows (Some (Some h)) x = h.0 ≡ x

pub Shows-prop : {T : Type 0} → ((x y : T) → IsProp (x ≡ y)) → (content : Option (Option (Held T))) (x : T) → IsProp (Shows content x)
Shows-prop set None x = λ p q. absurd p
Shows-prop set (Some None) x = λ p q. absurd p
Shows-prop set (Some (Some h)) x = set h.0 x

-- the slot's content is a value of this number
abbrev pub holds_number : {T : Type 0} → (T → ℕ) → Option (Held T) → ℕ → Bool
holds_number number None round = false
holds_number number (Some x) round = number x.0 == round
