-- How many places the map of the sweeps may have.
use Rattle.std.proofs.Common.{◌≡◌, ℕ, zero, suc, ◌+◌, ◌-◌, ◌≤◌, Bool, true, false, cond, List, [], ◌∷◌, map, take, length, arith}
use Rattle.std.proofs.lemmas.List.{length-map, length-take}
use Rattle.sweeps.specs.declared.row.Row.{Row}
use Rattle.sweeps.specs.Meaning.{Meaning}
use Rattle.sweeps.specs.Sweeps.{Sweep, entry_of, next_row, new_rows, with_row, with_rows, grown, grown_times, first_sweep, shrunk, swept}

module _ {P S : Type 0} (m : Meaning P S) where
  one_row : (rows : List (Row P S)) (new : Row P S) → length (with_row m rows new) ≡ length rows + 1
  unfolding with_row
  one_row [] new = omega arith
  one_row (r ∷ rows) new = by (m.before r.place new.place) (one_row rows new)
    where
      by : (b : Bool) → length (with_row m rows new) ≡ length rows + 1 → length (cond b (r ∷ with_row m rows new) (new ∷ r ∷ rows)) ≡ length (r ∷ rows) + 1
      by true h = omega (arith, h)
      by false h = omega arith

  more_rows : (rows others : List (Row P S)) → length (with_rows m rows others) ≡ length rows + length others
  more_rows rows [] = omega arith
  more_rows rows (new ∷ others) = let h = more_rows rows others in let one = one_row (with_rows m rows others) new in omega (arith, h, one)

  few_grown : (most : ℕ) (v : Sweep P S) → length v.rows ≤ most → length (grown m most v).rows ≤ most
  unfolding grown
  few_grown most v few =
      let table = map entry_of v.rows in
      let room = most - length v.rows in
      let all = more_rows (map (next_row m table) v.rows) (take room (new_rows m table)) in
      let old = length-map v.rows (next_row m table) in
      let new = length-take room (new_rows m table) in
      omega (arith, all, old, new)

  few_times : (n most : ℕ) (v : Sweep P S) → length v.rows ≤ most → length (grown_times m n most v).rows ≤ most
  unfolding grown_times
  few_times zero most v few = few
  few_times (suc n) most v few = few_grown most (grown_times m n most v) (few_times n most v few)

  as_many_shrunk : (entry : P) (initial : S) (rows : List (Row P S)) → length (shrunk m entry initial rows) ≡ length rows
  unfolding shrunk
  as_many_shrunk entry initial rows = length-map rows _

  -- a map has no more places than it may have
  pub few_swept : (most : ℕ) (entry : P) (initial : S) → 1 ≤ most → length (swept m most entry initial).rows ≤ most
  unfolding swept
  few_swept most entry initial some =
      let grew = (grown_times m 4096 most (first_sweep m entry initial)).rows in
      let few : length grew ≤ most = few_times 4096 most (first_sweep m entry initial) some in
      let one = as_many_shrunk entry initial grew in
      let two = as_many_shrunk entry initial (shrunk m entry initial grew) in
      let three = as_many_shrunk entry initial (shrunk m entry initial (shrunk m entry initial grew)) in
      let four = as_many_shrunk entry initial (shrunk m entry initial (shrunk m entry initial (shrunk m entry initial grew))) in
      omega (arith, few, one, two, three, four)
