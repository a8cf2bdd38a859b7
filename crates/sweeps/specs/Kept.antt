-- What the code keeps of a map between sweeps, and what each of its steps makes of it: the project's own.
use Rattle.std.specs.Prelude.{ℕ, suc, nat_lt, Bool, true, false, ◌||◌, if◌then◌else◌, List, [], ◌∷◌, map, Option, Some, None, option_map, is_none, take, length, ◌-◌}
use Rattle.std.specs.List.{filter, flat_map, fold, list_any, AllByRecursion}
use Rattle.std.specs.Prelude.{◌≡◌}
use Rattle.std.specs.Borrow.{Bor}
use Rattle.sweeps.specs.declared.row.Row.{Row}
use Rattle.sweeps.specs.declared.kept.Arrival.{Arrival}
use Rattle.sweeps.specs.declared.kept.Kept.{Kept}
use Rattle.sweeps.specs.declared.kept.Slot.{Slot}
use Rattle.sweeps.specs.declared.kept.Slot.TheVariants.{Idle, Due, Joined}
use Rattle.sweeps.specs.Meaning.{Meaning}
use Rattle.sweeps.specs.Sweeps.{entry_of, is_same_place, is_widening, raised, successors_of, with_arrival, states_to, lowered, AreRising}

-- -- Lists

-- how many at the head of a list pass a test
unfoldable pub rank_by : {X : Type 0} → (X → Bool) → List X → ℕ
rank_by test [] = 0
rank_by test (x ∷ xs) = if test x then suc (rank_by test xs) else 0

-- two lists, element by element
abbrev pub zip_with : {X Y Z : Type 0} → (X → Y → Z) → List X → List Y → List Z
zip_with f [] ys = []
zip_with f (x ∷ xs) [] = []
zip_with f (x ∷ xs) (y ∷ ys) = f x y ∷ zip_with f xs ys

-- -- Entries

module _ {P S : Type 0} where
  -- a row whose successors are to be made anew
  abbrev pub made_stale : Kept P S → Kept P S
  made_stale k = record k { stale = true }

  -- a row that just entered
  abbrev pub fresh : Row P S → Kept P S
  fresh r = record { row = r; changed = true; stale = false; arrivals = [] }

  -- the places and states of a lent table
  abbrev pub table_of : List (Bor P × Bor S) → List (P × S)
  table_of entries = map (λ e. (e.0.now, e.1.now)) entries

  -- an arrival without the number of its place
  abbrev pub pair_of : Arrival P S → P × S
  pair_of a = (a.place, a.state)

  -- an arrival that isn't looked up yet
  abbrev pub unaimed : P × S → Arrival P S
  unaimed e = record { place = e.0; state = e.1; target = None }

  abbrev pub place_in : Kept P S → P
  place_in k = k.row.place

  abbrev pub rows_of : List (Kept P S) → List (Row P S)
  rows_of ks = map (λ k. k.row) ks

  abbrev pub kept_table : List (Kept P S) → List (P × S)
  kept_table ks = map (λ k. entry_of k.row) ks

  abbrev pub all_arrivals : List (Kept P S) → List (Arrival P S)
  all_arrivals ks = flat_map (λ k. k.arrivals) ks

  -- the arrivals at places that have no row
  abbrev pub strangers : List (Arrival P S) → List (P × S)
  strangers arrivals = map pair_of (filter (λ a. is_none a.target) arrivals)

  -- the successors of a row as they are kept
  abbrev pub pairs : Kept P S → List (P × S)
  pairs k = map pair_of k.arrivals

  abbrev pub stored : List (Kept P S) → List (P × S)
  stored ks = flat_map pairs ks

  -- the places of rows that the last sweep changed
  abbrev pub moved : List (Kept P S) → List P
  moved ks = map place_in (filter (λ k. k.changed) ks)

  -- the places of the rows that are stale, and of their successors
  abbrev pub touched_by : Kept P S → List P
  touched_by k = if k.stale then k.row.place ∷ map (λ a. a.place) k.arrivals else []

  abbrev pub touched : List (Kept P S) → List P
  touched ks = flat_map touched_by ks

-- -- Steps

module _ {P S : Type 0} (m : Meaning P S) where
  -- the number of a place among others
  unfoldable pub number_of : List P → P → Option ℕ
  number_of [] p = None
  number_of (q ∷ qs) p = if is_same_place m q p then Some 0 else option_map suc (number_of qs p)

  -- a row's successors are to be made anew where it changed, or one that concerns it did
  abbrev pub with_stale : List P → Kept P S → Kept P S
  with_stale places k = record k { stale = k.changed || list_any (λ q. m.concerns k.row.place q) places }

  abbrev pub touch_at : List (Kept P S) → List (Slot S) → P → List (Slot S)
  touch_at ks slots p = zip_with (λ k slot. if is_same_place m k.row.place p then Due else slot) ks slots

  abbrev pub renewed : List (P × S) → Kept P S → Kept P S
  renewed table k = record k { arrivals = (if k.stale then map unaimed (successors_of m table (entry_of k.row)) else k.arrivals) }

  abbrev pub aimed_at : List P → Arrival P S → Arrival P S
  aimed_at places a = record a { target = number_of places a.place }

  abbrev pub aimed : List P → Kept P S → Kept P S
  aimed places k = record k { arrivals = map (aimed_at places) k.arrivals }

  -- the arrivals know the numbers of their places
  abbrev pub AreAimed : List P → List (Arrival P S) → Type 0
  AreAimed places list = AllByRecursion (λ a. a.target ≡ number_of places a.place) list

  -- a state comes to a slot of a row: to the row's own state at first, if that counts
  abbrev pub came : Bool → S → Slot S → S → Slot S
  came counts own Idle s = Idle
  came counts own Due s = Joined (if counts then m.join own s else s)
  came counts own (Joined t) s = Joined (m.join t s)

  abbrev pub add_at : Bool → List (Kept P S) → List (Slot S) → Arrival P S → List (Slot S)
  add_at counts ks slots a = zip_with (λ k slot. if is_same_place m k.row.place a.place then came counts k.row.state slot a.state else slot) ks slots

  -- a row by what came to it
  abbrev pub with_row_of : Kept P S → Row P S → Kept P S
  with_row_of k r = record k { row = r; changed = nat_lt k.row.changes r.changes }

  abbrev pub settled : Kept P S → Slot S → Kept P S
  settled k (Joined s) = with_row_of k (raised m (is_widening m k.row.place (map pair_of k.arrivals)) k.row s)
  settled k _ = record k { changed = false }

  -- a row takes what came to it, where that is below its state
  abbrev pub lowered_kept : Kept P S → Slot S → Kept P S
  lowered_kept k (Joined s) = record k { row = lowered m k.row (Some s) }
  lowered_kept k _ = k

  -- a row by what came to it, in a growing sweep or a shrinking one
  abbrev pub settled_by : Bool → Kept P S → Slot S → Kept P S
  settled_by true k slot = settled k slot
  settled_by false k slot = lowered_kept k slot

  -- a new row put at its place
  unfoldable pub with_kept : List (Kept P S) → Row P S → List (Kept P S)
  with_kept [] new = fresh new ∷ []
  with_kept (k ∷ ks) new = if m.before k.row.place new.place then k ∷ with_kept ks new else fresh new ∷ k ∷ ks

  abbrev pub entered : List (Kept P S) → List (Row P S) → List (Kept P S)
  entered ks [] = ks
  entered ks (new ∷ others) = with_kept (entered ks others) new

  -- -- A whole sweep

  abbrev pub staled : List (Kept P S) → List (Kept P S)
  staled ks = map (with_stale (moved ks)) ks

  abbrev pub renewed_all : List (Kept P S) → List (Kept P S)
  renewed_all ks = map (renewed (kept_table ks)) ks

  abbrev pub aimed_all : List (Kept P S) → List (Kept P S)
  aimed_all ks = map (aimed (map place_in ks)) ks

  -- the rows with their successors as they are now
  abbrev pub prepared : List (Kept P S) → List (Kept P S)
  prepared ks = aimed_all (renewed_all (staled ks))

  -- What comes to slots: the rows around stale ones are due, as it was and as it is, and all arrivals come to their places.
  abbrev pub filled_slots : List (Kept P S) → List (Slot S) → List (Slot S)
  filled_slots ks slots =
      let made = renewed_all ks in
      let ready = aimed_all made in
      fold (add_at true ready) (fold (touch_at made) (fold (touch_at ks) slots (touched ks)) (touched made)) (all_arrivals ready)

  abbrev pub gathered : List (Kept P S) → List (Slot S)
  gathered ks = filled_slots (staled ks) (map (λ k. Idle) ks)

  abbrev pub settled_all : List (Kept P S) → List (Kept P S)
  settled_all ks = zip_with settled (prepared ks) (gathered ks)

  abbrev pub met : List (Kept P S) → List (Row P S)
  met ks = fold (with_arrival m) [] (strangers (all_arrivals (prepared ks)))

  unfoldable pub stepped : ℕ → List (Kept P S) → List (Kept P S)
  stepped most ks = entered (settled_all ks) (take (most - length ks) (met ks))

  -- -- A shrinking sweep

  abbrev pub all_stale : List (Kept P S) → List (Kept P S)
  all_stale ks = map made_stale ks

  abbrev pub shrink_ready : List (Kept P S) → List (Kept P S)
  shrink_ready ks = aimed_all (renewed_all (all_stale ks))

  -- all that comes to the rows, the initial state last
  abbrev pub shrink_slots : P → S → List (Kept P S) → List (Slot S) → List (Slot S)
  shrink_slots entry initial ks slots = add_at false ks (fold (add_at false ks) slots (all_arrivals ks)) (unaimed (entry, initial))

  unfoldable pub shrunk_kept : P → S → List (Kept P S) → List (Kept P S)
  shrunk_kept entry initial ks = zip_with (settled_by false) (shrink_ready ks) (shrink_slots entry initial (shrink_ready ks) (map (λ k. Due) ks))

  -- -- What is kept between sweeps

  -- a row that isn't stale has the successors that it has by the map
  abbrev pub IsFresh : List (Kept P S) → Kept P S → Type 0
  IsFresh ks k = (with_stale (moved ks) k).stale ≡ false → pairs k ≡ successors_of m (kept_table ks) (entry_of k.row)

  -- a row that the last sweep didn't change, isn't changed by what was kept for it
  abbrev pub IsSettled : List (Kept P S) → Kept P S → Type 0
  IsSettled ks k = k.changed ≡ false → raised m (is_widening m k.row.place (pairs k)) k.row (fold m.join k.row.state (states_to m k.row.place (stored ks))) ≡ k.row

  pub record IsSound (ks : List (Kept P S)) : Type 0 where
    pub rising : AreRising m (map place_in ks)
    pub fresh : AllByRecursion (IsFresh ks) ks
    pub settled : AllByRecursion (IsSettled ks) ks
