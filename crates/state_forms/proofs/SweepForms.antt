-- What a domain preserves holds of each state that the sweeps give.
use Rattle.std.proofs.Common.{ℕ, zero, suc, Bool, true, false, not, ◌&&◌, ◌-◌, nat_le, List, [], ◌∷◌, map, take, length}
use Rattle.std.specs.Prelude.{if◌then◌else◌}
use Rattle.std.specs.List.{filter, flat_map, fold, AllByRecursion}
use Rattle.sweeps.specs.declared.row.Row.{Row}
use Rattle.sweeps.specs.Meaning.{Meaning}
use Rattle.sweeps.specs.Sweeps.{Sweep, entry_of, is_same_place, others_of, successors_of, arrivals, states_to, widened_to, changed_to, with_state, raised, next_row, with_arrival, has_place, new_rows, with_row, with_rows, grown, grown_times, first_sweep, joined_all, lowered, comes_to, shrunk, swept}
use Rattle.sweeps.proofs.EnterLemmas.{all_append, all_take}
use Rattle.state_forms.specs.Kept.{IsPreserved}

-- -- Lists

pub all_kept : {X : Type 0} (Q : X → Type 0) (test : X → Bool) (xs : List X) → AllByRecursion Q xs → AllByRecursion Q (filter test xs)
all_kept Q test [] all = tt
all_kept {X} Q test (x ∷ xs) all = by (test x) (all_kept Q test xs all.1)
  where
    by : (b : Bool) → AllByRecursion Q (filter test xs) → AllByRecursion Q (if b then x ∷ filter test xs else filter test xs)
    by true rest = (all.0, rest)
    by false rest = rest

module _ {P S : Type 0} (m : Meaning P S) (Holds : S → Type 0) (h : IsPreserved m Holds) where
  abbrev AreHeld : List (Row P S) → Type 0
  AreHeld rows = AllByRecursion (λ r. Holds r.state) rows

  abbrev Come : List (P × S) → Type 0
  Come es = AllByRecursion (λ e. Holds e.1) es

  -- -- What comes to places

  entries_held : (rows : List (Row P S)) → AreHeld rows → Come (map entry_of rows)
  entries_held [] held = tt
  entries_held (r ∷ rows) held = (held.0, entries_held rows held.1)

  all_come : (table es : List (P × S)) → Come es → Come (flat_map (successors_of m table) es)
  all_come table [] come = tt
  all_come table (e ∷ es) come =
      all_append (λ (x : P × S). Holds x.1) (successors_of m table e) (flat_map (successors_of m table) es) (h.steps e.0 e.1 (others_of m table e.0) come.0) (all_come table es come.1)

  arrivals_held : (rows : List (Row P S)) → AreHeld rows → Come (arrivals m (map entry_of rows))
  arrivals_held rows held = all_come (map entry_of rows) (map entry_of rows) (entries_held rows held)

  states_held : (es : List (P × S)) → Come es → AllByRecursion Holds (map (λ e. e.1) es)
  states_held [] come = tt
  states_held (e ∷ es) come = (come.0, states_held es come.1)

  to_held : (p : P) (es : List (P × S)) → Come es → AllByRecursion Holds (states_to m p es)
  to_held p es come = states_held (filter (λ (e : P × S). is_same_place m p e.0) es) (all_kept (λ (e : P × S). Holds e.1) (λ (e : P × S). is_same_place m p e.0) es come)

  fold_held : (s : S) (ss : List S) → Holds s → AllByRecursion Holds ss → Holds (fold m.join s ss)
  fold_held s [] first rest = first
  fold_held s (t ∷ ss) first rest = fold_held (m.join s t) ss (h.joins s t first rest.0) rest.1

  -- -- Growing sweeps

  widened_held : (w : Bool) (n : ℕ) (old new : S) → Holds old → Holds new → Holds (widened_to m w n old new)
  widened_held w n old new first second = by (w && nat_le 4 n)
    where
      by : (b : Bool) → Holds (if b then m.widen old new else new)
      by true = h.widens old new first second
      by false = second

  changed_held : (w : Bool) (n : ℕ) (old new : S) → Holds old → Holds new → Holds (changed_to m w n old new)
  unfolding changed_to
  changed_held w n old new first second = by (nat_le 48 n) (widened_held w n old new first second)
    where
      by : (b : Bool) → Holds (widened_to m w n old new) → Holds (if b then m.topped old (widened_to m w n old new) else widened_to m w n old new)
      by true wide = h.tops old (widened_to m w n old new) first wide
      by false wide = wide

  with_held : (r : Row P S) (s : S) → Holds r.state → Holds s → Holds (with_state m r s).state
  with_held r s first second = by (m.same r.state s)
    where
      by : (b : Bool) → Holds (if b then r else record r { state = s; changes = suc r.changes }).state
      by true = first
      by false = second

  raised_held : (w : Bool) (r : Row P S) (s : S) → Holds r.state → Holds s → Holds (raised m w r s).state
  unfolding raised
  raised_held w r s first second = by (m.same r.state s)
    where
      changed : S
      changed = changed_to m w (suc r.changes) r.state s

      by : (b : Bool) → Holds (if b then r else with_state m r changed).state
      by true = first
      by false = with_held r changed first (changed_held w (suc r.changes) r.state s first second)

  next_held : (all rows : List (Row P S)) → AreHeld all → AreHeld rows → AreHeld (map (next_row m (map entry_of all)) rows)
  next_held all [] held here = tt
  next_held all (r ∷ rows) held here = (raised_held _ r _ here.0 (fold_held r.state _ here.0 (to_held r.place (arrivals m (map entry_of all)) (arrivals_held all held))), next_held all rows held here.1)

  arrival_held : (rows : List (Row P S)) (e : P × S) → AreHeld rows → Holds e.1 → AreHeld (with_arrival m rows e)
  unfolding with_arrival
  arrival_held [] e held come = (come, tt)
  arrival_held (r ∷ rows) e held come = by (m.before r.place e.0) (m.before e.0 r.place) (arrival_held rows e held.1 come)
    where
      by : (c d : Bool) → AreHeld (with_arrival m rows e)
          → AreHeld (if c then r ∷ with_arrival m rows e else (if d then record { place = e.0; state = e.1; changes = 1 } ∷ r ∷ rows else record r { state = m.join r.state e.1 } ∷ rows))
      by true d rest = (held.0, rest)
      by false true rest = (come, held)
      by false false rest = (h.joins r.state e.1 held.0 come, held.1)

  all_arrive : (rows : List (Row P S)) (es : List (P × S)) → AreHeld rows → Come es → AreHeld (fold (with_arrival m) rows es)
  all_arrive rows [] held come = held
  all_arrive rows (e ∷ es) held come = all_arrive (with_arrival m rows e) es (arrival_held rows e held come.0) come.1

  row_held : (rows : List (Row P S)) (r : Row P S) → AreHeld rows → Holds r.state → AreHeld (with_row m rows r)
  unfolding with_row
  row_held [] r held new = (new, tt)
  row_held (x ∷ rows) r held new = by (m.before x.place r.place) (row_held rows r held.1 new)
    where
      by : (c : Bool) → AreHeld (with_row m rows r) → AreHeld (if c then x ∷ with_row m rows r else r ∷ x ∷ rows)
      by true rest = (held.0, rest)
      by false rest = (new, held)

  rows_held : (rows new : List (Row P S)) → AreHeld rows → AreHeld new → AreHeld (with_rows m rows new)
  rows_held rows [] held come = held
  rows_held rows (r ∷ new) held come = row_held (with_rows m rows new) r (rows_held rows new held come.1) come.0

  grown_held : (most : ℕ) (v : Sweep P S) → AreHeld v.rows → AreHeld (grown m most v).rows
  unfolding grown
  grown_held most v held =
      let table = map entry_of v.rows in
      rows_held (map (next_row m table) v.rows) (take (most - length v.rows) (new_rows m table)) (next_held v.rows v.rows held held)
      (all_take (λ (r : Row P S). Holds r.state) (most - length v.rows) (new_rows m table)
      (all_arrive [] (filter (λ (e : P × S). not (has_place m table e.0)) (arrivals m table)) tt
      (all_kept (λ (e : P × S). Holds e.1) (λ (e : P × S). not (has_place m table e.0)) (arrivals m table) (arrivals_held v.rows held))))

  times_held : (n most : ℕ) (v : Sweep P S) → AreHeld v.rows → AreHeld (grown_times m n most v).rows
  unfolding grown_times
  times_held zero most v held = held
  times_held (suc n) most v held = grown_held most (grown_times m n most v) (times_held n most v held)

  -- -- Shrinking sweeps

  lowered_held : (r : Row P S) (ss : List S) → Holds r.state → AllByRecursion Holds ss → Holds (lowered m r (joined_all m ss)).state
  lowered_held r [] own come = own
  lowered_held r (s ∷ ss) own come = by (m.below (fold m.join s ss) r.state)
    where
      by : (b : Bool) → Holds (if b then record r { state = fold m.join s ss } else r).state
      by true = fold_held s ss come.0 come.1
      by false = own

  module _ (entry : P) (initial : S) (starts : Holds initial) where
    coming_held : (table : List (P × S)) (p : P) → Come (arrivals m table) → AllByRecursion Holds (comes_to m entry initial table p)
    coming_held table p come = all_append Holds (states_to m p (arrivals m table)) (if is_same_place m p entry then initial ∷ [] else []) (to_held p (arrivals m table) come) (by (is_same_place m p entry))
      where
        by : (b : Bool) → AllByRecursion Holds (if b then initial ∷ [] else [])
        by true = (starts, tt)
        by false = tt

    each_shrunk : (table : List (P × S)) (rows : List (Row P S)) → Come (arrivals m table) → AreHeld rows → AreHeld (map (λ (r : Row P S). lowered m r (joined_all m (comes_to m entry initial table r.place))) rows)
    each_shrunk table [] come held = tt
    each_shrunk table (r ∷ rows) come held = (lowered_held r (comes_to m entry initial table r.place) held.0 (coming_held table r.place come), each_shrunk table rows come held.1)

    shrunk_held : (rows : List (Row P S)) → AreHeld rows → AreHeld (shrunk m entry initial rows)
    unfolding shrunk
    shrunk_held rows held = each_shrunk (map entry_of rows) rows (arrivals_held rows held) held

    -- -- The whole

    pub swept_held : (most : ℕ) → AllByRecursion (λ (r : Row P S). Holds r.state) (swept m most entry initial).rows
    unfolding swept
    swept_held most =
        let shrink = shrunk m entry initial in
        let grew = (grown_times m 4096 most (first_sweep m entry initial)).rows in
        let held = times_held 4096 most (first_sweep m entry initial) (starts, tt) in
        shrunk_held (shrink (shrink (shrink grew))) (shrunk_held (shrink (shrink grew)) (shrunk_held (shrink grew) (shrunk_held grew held)))
