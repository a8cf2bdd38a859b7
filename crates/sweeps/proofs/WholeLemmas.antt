-- Sweep after sweep.
use Rattle.std.proofs.Common.{◌≡◌, ℕ, zero, suc, ◌+◌, ◌-◌, ◌<◌, ◌≤◌, Bool, true, false, not, ◌||◌, List, [], ◌∷◌, map, take, length, refl, sym, ap, subst, ◌∙◌, arith, zero-add, add-one}
use Rattle.std.specs.Prelude.{if◌then◌else◌, nat_lt}
use Rattle.std.specs.List.{fold, filter, list_any, AllByRecursion}
use Rattle.std.proofs.lemmas.Bool.{true≢false}
use Rattle.std.proofs.lemmas.List.{length-map}
use Rattle.sweeps.specs.declared.row.Row.{Row}
use Rattle.sweeps.specs.declared.kept.Kept.{Kept}
use Rattle.sweeps.specs.Meaning.{Meaning, IsLawful}
use Rattle.sweeps.specs.Sweeps.{Sweep, entry_of, changed_to, with_state, raised, next_row, new_rows, with_arrival, with_row, with_rows, grown, grown_times, first_sweep, successors_of, is_widening, states_to, arrivals, has_place, shrunk, swept}
use Rattle.sweeps.specs.Kept.{fresh, rows_of, met, stepped, IsSound}
use Rattle.sweeps.proofs.EnterLemmas.{all_map, all_take}
use Rattle.sweeps.proofs.SweepLemmas.{step_sound, step_rows, step_met, step_stays}

-- -- Nothing changes any more

module _ {P S : Type 0} (m : Meaning P S) (most : ℕ) where
  or_again : (a b : Bool) → ((a || b) || b) ≡ (a || b)
  or_again true b = refl
  or_again false true = refl
  or_again false false = refl

  same_sweep : (v w : Sweep P S) → v.rows ≡ w.rows → v.full ≡ w.full → v ≡ w
  same_sweep v w a b = λ i. record { rows = a i; full = b i }

  -- where the rows stay, everything stays from then on
  pub grown_again : (v w : Sweep P S) → w.rows ≡ (grown m most v).rows → w.full ≡ (grown m most v).full → w.rows ≡ v.rows → grown m most w ≡ w
  unfolding grown
  grown_again v w rows full stays =
      let table = map entry_of v.rows in
      let excess = nat_lt (most - length v.rows) (length (new_rows m table)) in
      same_sweep (grown m most w) w
      (ap (λ r. with_rows m (map (next_row m (map entry_of r)) r) (take (most - length r) (new_rows m (map entry_of r)))) stays ∙ sym rows)
      (ap (λ r. w.full || nat_lt (most - length r) (length (new_rows m (map entry_of r)))) stays ∙ ap (λ f. f || excess) full ∙ or_again v.full excess ∙ sym full)

  stay_times : (n k : ℕ) (v w : Sweep P S) → grown_times m n most v ≡ w → grown m most w ≡ w → grown_times m (k + n) most v ≡ w
  unfolding grown_times
  stay_times n zero v w is fixed = ap (λ j. grown_times m j most v) (zero-add n) ∙ is
  stay_times n (suc k) v w is fixed = ap (λ j. grown_times m j most v) (suc_add k n) ∙ ap (grown m most) (stay_times n k v w is fixed) ∙ fixed
    where
      suc_add : (k n : ℕ) → suc k + n ≡ suc (k + n)
      suc_add k n = omega arith

  pub stay_until : (n all : ℕ) (v w : Sweep P S) → n ≤ all → grown_times m n most v ≡ w → grown m most w ≡ w → w ≡ grown_times m all most v
  stay_until n all v w le is fixed = sym (ap (λ j. grown_times m j most v) (omega arith) ∙ stay_times n (all - n) v w is fixed)

  next_times : (v : Sweep P S) (n : ℕ) → grown_times m (suc n) most v ≡ grown m most (grown_times m n most v)
  unfolding grown_times
  next_times v n = refl

  -- -- Few changes

  few_with : (b : ℕ) (r : Row P S) (s : S) → r.changes ≤ b → (with_state m r s).changes ≤ suc b
  few_with b r s le = by (m.same r.state s)
    where
      by : (t : Bool) → (if t then r else record r { state = s; changes = suc r.changes }).changes ≤ suc b
      by true = omega arith
      by false = omega arith

  few_raised : (b : ℕ) (w : Bool) (r : Row P S) (s : S) → r.changes ≤ b → (raised m w r s).changes ≤ suc b
  unfolding raised
  few_raised b w r s le = by (m.same r.state s)
    where
      by : (t : Bool) → (if t then r else with_state m r (changed_to m w (suc r.changes) r.state s)).changes ≤ suc b
      by true = omega arith
      by false = few_with b r (changed_to m w (suc r.changes) r.state s) le

  abbrev AreFew : ℕ → List (Row P S) → Type 0
  AreFew b rows = AllByRecursion (λ r. r.changes ≤ b) rows

  few_next : (b : ℕ) (table : List (P × S)) (rows : List (Row P S)) → AreFew b rows → AreFew (suc b) (map (next_row m table) rows)
  few_next b table [] few = tt
  few_next b table (r ∷ rows) few = (few_raised b (is_widening m r.place (successors_of m table (entry_of r))) r (fold m.join r.state (states_to m r.place (arrivals m table))) few.0, few_next b table rows few.1)

  few_arrival : (rows : List (Row P S)) (e : P × S) → AreFew 1 rows → AreFew 1 (with_arrival m rows e)
  unfolding with_arrival
  few_arrival [] e few = (omega arith, tt)
  few_arrival (r ∷ rows) e few = by (m.before r.place e.0) (m.before e.0 r.place) (few_arrival rows e few.1)
    where
      by : (c d : Bool) → AreFew 1 (with_arrival m rows e)
          → AreFew 1 (if c then r ∷ with_arrival m rows e else (if d then record { place = e.0; state = e.1; changes = 1 } ∷ r ∷ rows else record r { state = m.join r.state e.1 } ∷ rows))
      by true d rest = (few.0, rest)
      by false true rest = (omega arith, few)
      by false false rest = few

  few_arrivals : (rows : List (Row P S)) (comes : List (P × S)) → AreFew 1 rows → AreFew 1 (fold (with_arrival m) rows comes)
  few_arrivals rows [] few = few
  few_arrivals rows (e ∷ comes) few = few_arrivals (with_arrival m rows e) comes (few_arrival rows e few)

  few_row : (b : ℕ) (rows : List (Row P S)) (r : Row P S) → AreFew b rows → r.changes ≤ b → AreFew b (with_row m rows r)
  unfolding with_row
  few_row b [] r few le = (le, tt)
  few_row b (x ∷ rows) r few le = by (m.before x.place r.place) (few_row b rows r few.1 le)
    where
      by : (c : Bool) → AreFew b (with_row m rows r) → AreFew b (if c then x ∷ with_row m rows r else r ∷ x ∷ rows)
      by true rest = (few.0, rest)
      by false rest = (le, few)

  few_rows : (b : ℕ) (rows new : List (Row P S)) → AreFew b rows → AreFew b new → AreFew b (with_rows m rows new)
  few_rows b rows [] few are = few
  few_rows b rows (r ∷ new) few are = few_row b (with_rows m rows new) r (few_rows b rows new few are.1) are.0

  few_grown : (b : ℕ) (v : Sweep P S) → AreFew b v.rows → AreFew (suc b) (grown m most v).rows
  unfolding grown
  few_grown b v few =
      let table = map entry_of v.rows in
      few_rows (suc b) (map (next_row m table) v.rows) (take (most - length v.rows) (new_rows m table)) (few_next b table v.rows few)
      (all_take (λ r. r.changes ≤ suc b) (most - length v.rows) (new_rows m table)
      (all_map (new_rows m table) (λ r le. omega arith) (few_arrivals [] (filter (λ e. not_there table e) (arrivals m table)) tt)))
    where
      not_there : List (P × S) → P × S → Bool
      not_there table e = not (has_place m table e.0)

  pub few_times : (n : ℕ) (v : Sweep P S) → AreFew 1 v.rows → AreFew (suc n) (grown_times m n most v).rows
  unfolding grown_times
  few_times zero v few = few
  few_times (suc n) v few = few_grown (suc n) (grown_times m n most v) (few_times n v few)

  -- -- The growing sweeps of the code

  module _ (entry : P) (initial : S) where
    abbrev pub start : Sweep P S
    start = first_sweep m entry initial

    -- what the code keeps after so many sweeps
    pub record Reached (n : ℕ) (ks : List (Kept P S)) (full : Bool) : Type 0 where
      pub rows : rows_of ks ≡ (grown_times m n most start).rows
      pub is_full : full ≡ (grown_times m n most start).full
      pub sound : IsSound m ks

    pub begins : (ks : List (Kept P S)) → ks ≡ map fresh start.rows → Reached 0 ks false
    unfolding grown_times
    begins ks is = subst (λ l. Reached 0 l false) (sym is) (record {
      rows = refl;
      is_full = refl;
      sound = record { rising = (tt, tt); fresh = ((λ e. absurd (true≢false e)), tt); settled = ((λ e. absurd (true≢false e)), tt) };
    })

    now_is : (n : ℕ) (ks : List (Kept P S)) (full : Bool) → Reached n ks full → grown_times m n most start ≡ record { rows = rows_of ks; full = full }
    now_is n ks full r = same_sweep (grown_times m n most start) (record { rows = rows_of ks; full = full }) (sym r.rows) (sym r.is_full)

    more_full : (h : IsLawful m) (n : ℕ) (ks : List (Kept P S)) (full more : Bool) → Reached n ks full → more ≡ nat_lt (most - length ks) (length (met m ks)) → (full || more) ≡ (grown m most (record { rows = rows_of ks; full = full })).full
    unfolding grown
    more_full h n ks full more r is =
        ap (λ b. full || b) (is ∙ ap (λ l. nat_lt (most - length ks) (length l)) (step_met m h most ks r.sound)
        ∙ ap (λ k. nat_lt (most - k) (length (new_rows m (map entry_of (rows_of ks))))) (sym (length-map ks (λ (k : Kept P S). k.row))))

    pub goes_on : (h : IsLawful m) (n : ℕ) (ks next : List (Kept P S)) (full more whole : Bool) → Reached n ks full → next ≡ stepped m most ks → more ≡ nat_lt (most - length ks) (length (met m ks)) → whole ≡ (full || more) → Reached (n + 1) next whole
    unfolding grown_times
    goes_on h n ks next full more whole r is counts both =
        let one : grown_times m (n + 1) most start ≡ grown m most (record { rows = rows_of ks; full = full }) = ap (λ k. grown_times m k most start) (add-one n) ∙ ap (grown m most) (now_is n ks full r) in
        record {
          rows = ap rows_of is ∙ step_rows m h most ks r.sound full ∙ ap (λ v. v.rows) (sym one);
          is_full = both ∙ more_full h n ks full more r counts ∙ ap (λ v. v.full) (sym one);
          sound = subst (IsSound m) (sym is) (step_sound m h most ks r.sound);
        }

    pub stops : (h : IsLawful m) (n all : ℕ) (ks next : List (Kept P S)) (full whole : Bool) → n < all → Reached n ks full → Reached (n + 1) next whole → next ≡ stepped m most ks → list_any (λ k. k.changed) next ≡ false → Reached all next whole
    stops h n all ks next full whole few r s is none =
        let v : Sweep P S = record { rows = rows_of ks; full = full } in
        let w : Sweep P S = record { rows = rows_of next; full = whole } in
        let one : grown_times m (n + 1) most start ≡ grown m most v = ap (λ k. grown_times m k most start) (add-one n) ∙ next_times start n ∙ ap (grown m most) (now_is n ks full r) in
        let stays : rows_of next ≡ rows_of ks = ap rows_of is ∙ step_stays m h most ks r.sound (ap (list_any (λ (k : Kept P S). k.changed)) (sym is) ∙ none) in
        let fixed = grown_again v w (s.rows ∙ ap (λ u. u.rows) one) (s.is_full ∙ ap (λ u. u.full) one) stays in
        let end : w ≡ grown_times m all most start = stay_until (n + 1) all start w (omega arith) (now_is (n + 1) next whole s) fixed in
        record { rows = ap (λ u. u.rows) end; is_full = ap (λ u. u.full) end; sound = s.sound }

    pub few_reached : (n bound : ℕ) (ks : List (Kept P S)) (full : Bool) → suc n < bound → Reached n ks full → AllByRecursion (λ k. k.row.changes < bound) ks
    few_reached n bound ks full le r = go ks (all_map (rows_of ks) (λ (x : Row P S) (few : x.changes ≤ suc n). below x few) (subst (AreFew (suc n)) (sym r.rows) (few_times n start (le_one, tt))))
      where
        le_one : 1 ≤ 1
        le_one = omega arith

        below : (x : Row P S) → x.changes ≤ suc n → x.changes < bound
        below x few = omega arith

        go : (ls : List (Kept P S)) → AllByRecursion (λ r. r.changes < bound) (rows_of ls) → AllByRecursion (λ k. k.row.changes < bound) ls
        go [] a = tt
        go (k ∷ ls) a = (a.0, go ls a.1)

    -- -- The whole

    pub swept_rows : (a b c d e : List (Row P S)) → a ≡ (grown_times m 4096 most start).rows → b ≡ shrunk m entry initial a → c ≡ shrunk m entry initial b → d ≡ shrunk m entry initial c → e ≡ shrunk m entry initial d
        → e ≡ (swept m most entry initial).rows
    unfolding swept
    swept_rows a b c d e one two three four five =
        let s = shrunk m entry initial in
        five ∙ ap s (four ∙ ap s (three ∙ ap s (two ∙ ap s one)))

    pub swept_full : (f : Bool) → f ≡ (grown_times m 4096 most start).full → f ≡ (swept m most entry initial).full
    unfolding swept
    swept_full f is = is
