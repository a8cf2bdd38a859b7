-- Sweeps over a map from places to states, each one simultaneous function of the whole map, and maps that are closed. The project's own.
use Rattle.std.specs.Prelude.{◌≡◌, ℕ, zero, suc, ◌-◌, nat_le, nat_lt, Bool, true, false, not, ◌&&◌, ◌||◌, if◌then◌else◌, List, [], ◌∷◌, ◌++◌, map, take, length, Option, Some, None}
use Rattle.std.specs.List.{filter, flat_map, fold, list_any, list_all, AllByRecursion}
use Rattle.sweeps.specs.declared.row.Row.{Row}
use Rattle.sweeps.specs.Meaning.{Meaning}

-- A map: a row for each of its places, in their order. It is full once more places were met than it may have.
pub record Sweep (P S : Type 0) : Type 0 where
  pub rows : List (Row P S)
  pub full : Bool

module _ {P S : Type 0} where
  -- a place with its state
  abbrev pub entry_of : Row P S → P × S
  entry_of r = (r.place, r.state)

module _ {P S : Type 0} (m : Meaning P S) where
  abbrev pub is_same_place : P → P → Bool
  is_same_place p q = not (m.before p q) && not (m.before q p)

  -- -- What comes to places

  -- the places that concern this one, with their states
  abbrev pub others_of : List (P × S) → P → List (P × S)
  others_of table p = filter (λ e. m.concerns p e.0) table

  -- where control goes from a place, with which states
  abbrev pub successors_of : List (P × S) → P × S → List (P × S)
  successors_of table e = m.successors e.0 e.1 (others_of table e.0)

  -- all successors of all places, in the order of the places and of their lists
  abbrev pub arrivals : List (P × S) → List (P × S)
  arrivals table = flat_map (successors_of table) table

  -- the states among them that come to a place
  abbrev pub states_to : P → List (P × S) → List S
  states_to p comes = map (λ e. e.1) (filter (λ e. is_same_place p e.0) comes)

  -- -- Growing sweeps

  -- a place widens if one of its successors doesn't stand behind it
  abbrev pub is_widening : P → List (P × S) → Bool
  is_widening p next = list_any (λ e. nat_le (m.address e.0) (m.address p)) next

  -- the joined state, widened from the fourth change on where the place widens
  abbrev pub widened_to : Bool → ℕ → S → S → S
  widened_to widening number old new = if widening && nat_le 4 number then m.widen old new else new

  -- The state after the change of this number, by the old state and the joined one: from the 48th change on whatever differs becomes
  -- everything.
  unfoldable pub changed_to : Bool → ℕ → S → S → S
  changed_to widening number old new =
      let state = widened_to widening number old new in
      if nat_le 48 number then m.topped old state else state

  -- a row with a new state: one more change, if it differs
  abbrev pub with_state : Row P S → S → Row P S
  with_state r s = if m.same r.state s then r else record r { state = s; changes = suc r.changes }

  -- a row after a sweep, by the join of its own state and those that came to it
  unfoldable pub raised : Bool → Row P S → S → Row P S
  raised widening r joined = if m.same r.state joined then r else with_state r (changed_to widening (suc r.changes) r.state joined)

  abbrev pub next_row : List (P × S) → Row P S → Row P S
  next_row table r = raised (is_widening r.place (successors_of table (entry_of r))) r (fold m.join r.state (states_to r.place (arrivals table)))

  -- What comes to a new place: its state is the join of all that comes to it, in their order. Its entering is its first change.
  unfoldable pub with_arrival : List (Row P S) → P × S → List (Row P S)
  with_arrival [] e = record { place = e.0; state = e.1; changes = 1 } ∷ []
  with_arrival (r ∷ rows) e =
      if m.before r.place e.0 then r ∷ with_arrival rows e
      else (if m.before e.0 r.place then record { place = e.0; state = e.1; changes = 1 } ∷ r ∷ rows
      else record r { state = m.join r.state e.1 } ∷ rows)

  abbrev pub has_place : List (P × S) → P → Bool
  has_place table p = list_any (λ e. is_same_place e.0 p) table

  -- the rows of the places that aren't there yet, rising
  abbrev pub new_rows : List (P × S) → List (Row P S)
  new_rows table = fold with_arrival [] (filter (λ e. not (has_place table e.0)) (arrivals table))

  -- a row put at its place
  unfoldable pub with_row : List (Row P S) → Row P S → List (Row P S)
  with_row [] new = new ∷ []
  with_row (r ∷ rows) new = if m.before r.place new.place then r ∷ with_row rows new else new ∷ r ∷ rows

  abbrev pub with_rows : List (Row P S) → List (Row P S) → List (Row P S)
  with_rows rows [] = rows
  with_rows rows (new ∷ others) = with_row (with_rows rows others) new

  -- A growing sweep, in a map that may have so many places: each place takes what comes to it, and new places enter while there is
  -- room, those that come first first.
  unfoldable pub grown : ℕ → Sweep P S → Sweep P S
  grown most v =
      let table = map entry_of v.rows in
      let room = most - length v.rows in
      record {
        rows = with_rows (map (next_row table) v.rows) (take room (new_rows table));
        full = v.full || nat_lt room (length (new_rows table));
      }

  unfoldable pub grown_times : ℕ → ℕ → Sweep P S → Sweep P S
  grown_times zero most v = v
  grown_times (suc n) most v = grown most (grown_times n most v)

  -- before the first sweep: the entry alone
  abbrev pub first_sweep : P → S → Sweep P S
  first_sweep entry initial = record { rows = record { place = entry; state = initial; changes = 1 } ∷ []; full = false }

  -- -- Shrinking sweeps

  -- the join of some states, if there are any
  abbrev pub joined_all : List S → Option S
  joined_all [] = None
  joined_all (s ∷ ss) = Some (fold m.join s ss)

  -- a row takes a state that is below its own
  abbrev pub lowered : Row P S → Option S → Row P S
  lowered r None = r
  lowered r (Some s) = if m.below s r.state then record r { state = s } else r

  -- what comes to a place; at the entry the initial state comes last
  abbrev pub comes_to : P → S → List (P × S) → P → List S
  comes_to entry initial table p = states_to p (arrivals table) ++ (if is_same_place p entry then initial ∷ [] else [])

  unfoldable pub shrunk : P → S → List (Row P S) → List (Row P S)
  shrunk entry initial rows = map (λ r. lowered r (joined_all (comes_to entry initial (map entry_of rows) r.place))) rows

  -- -- The whole

  -- 4,096 growing sweeps, in a map of so many places at most, and then four shrinking ones
  unfoldable pub swept : ℕ → P → S → Sweep P S
  swept most entry initial =
      let grew = grown_times 4096 most (first_sweep entry initial) in
      let shrink = shrunk entry initial in
      record grew { rows = shrink (shrink (shrink (shrink grew.rows))) }

  -- -- Closed maps

  -- the table has the place, with a state above this one
  unfoldable pub has_above : List (P × S) → P × S → Bool
  has_above [] e = false
  has_above (x ∷ table) e = if is_same_place e.0 x.0 then m.below e.1 x.1 else has_above table e

  -- the entry is there, above the initial state, and so is each successor of each place, above what comes to it
  unfoldable pub is_closed : P → S → List (P × S) → Bool
  is_closed entry initial table = has_above table (entry, initial) && list_all (has_above table) (arrivals table)

  -- -- The order of a map

  -- the place stands before all of these
  abbrev pub IsAhead : P → List P → Type 0
  IsAhead p qs = AllByRecursion (λ q. m.before p q ≡ true) qs

  -- the places rise strictly
  abbrev pub AreRising : List P → Type 0
  AreRising [] = Unit {0}
  AreRising (p ∷ ps) = IsAhead p ps × AreRising ps
