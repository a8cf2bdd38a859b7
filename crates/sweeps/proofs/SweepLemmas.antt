-- A sweep gives the rows of the next map, and what is kept stays sound.
use Rattle.std.proofs.Common.{◌≡◌, ℕ, ◌-◌, Bool, true, false, not, ◌&&◌, ◌||◌, List, [], ◌∷◌, ◌++◌, map, take, length, refl, sym, ap, subst, ◌∙◌}
use Rattle.std.specs.Prelude.{if◌then◌else◌}
use Rattle.std.specs.List.{filter, fold, list_any, AllByRecursion}
use Rattle.std.proofs.lemmas.Bool.{or_parts, or_from, true≢false, cond-false}
use Rattle.std.proofs.lemmas.List.{map-append, length-map}
use Rattle.std.proofs.lemmas.List.Elements.{filter-append}
use Rattle.std.proofs.lemmas.List.Folds.{list_any-append, flat_map-map}
use Rattle.std.proofs.lemmas.Grind.{flat_map-append}
use Rattle.sweeps.specs.declared.row.Row.{Row}
use Rattle.sweeps.specs.declared.kept.Kept.{Kept}
use Rattle.sweeps.specs.Meaning.{Meaning, IsLawful}
use Rattle.sweeps.specs.Sweeps.{entry_of, is_same_place, successors_of, arrivals, states_to, is_widening, raised, next_row, has_place, new_rows, with_arrival, with_rows, grown, AreRising}
use Rattle.sweeps.specs.Kept.{fresh, place_in, rows_of, kept_table, all_arrivals, strangers, moved, with_kept, entered, prepared, settled_all, met, stepped, pairs, stored, IsFresh, IsSettled, IsSound}
use Rattle.sweeps.proofs.SlotLemmas.{map-map}
use Rattle.sweeps.proofs.EnterLemmas.{all_map, all_take, all_filter, rising_take, arrivals_rise, all_arrivals_are, is_put, rows_entered, all_entered, entered_rises}
use Rattle.sweeps.proofs.SoundLemmas.{maps_alike, flat_maps_alike, all_of, IsNext, done, done_all, all_are_next, strangers_are}

module _ {P S : Type 0} (m : Meaning P S) (h : IsLawful m) where
  -- -- One new row

  stored_put : (ks : List (Kept P S)) (r : Row P S) → stored (with_kept m ks r) ≡ stored ks
  stored_put ks r =
      let put = is_put m h ks r in
      ap stored put.after ∙ flat_map-append pairs put.front (fresh r ∷ put.back) ∙ sym (flat_map-append pairs put.front put.back) ∙ ap stored (sym put.before)

  stored_entered : (ks : List (Kept P S)) (new : List (Row P S)) → stored (entered m ks new) ≡ stored ks
  stored_entered ks [] = refl
  stored_entered ks (r ∷ new) = stored_put (entered m ks new) r ∙ stored_entered ks new

  any_put : (test : Kept P S → Bool) (ks : List (Kept P S)) (r : Row P S) → list_any test (with_kept m ks r) ≡ false → (test (fresh r) ≡ false) × (list_any test ks ≡ false)
  any_put test ks r none =
      let put = is_put m h ks r in
      let e : (list_any test put.front || (test (fresh r) || list_any test put.back)) ≡ false = sym (list_any-append test put.front (fresh r ∷ put.back)) ∙ ap (list_any test) (sym put.after) ∙ none in
      let parts = or_parts (list_any test put.front) (test (fresh r) || list_any test put.back) e in
      let behind = or_parts (test (fresh r)) (list_any test put.back) parts.1 in
      (behind.0, ap (list_any test) put.before ∙ list_any-append test put.front put.back ∙ or_from (list_any test put.front) (list_any test put.back) parts.0 behind.1)

  abbrev concerned : P → List (Kept P S) → List (P × S)
  concerned p ks = filter (λ e. m.concerns p e.0) (kept_table ks)

  concerned_append : (p : P) (xs ys : List (Kept P S)) → concerned p (xs ++ ys) ≡ concerned p xs ++ concerned p ys
  concerned_append p xs ys = ap (filter (λ e. m.concerns p e.0)) (map-append (λ (k : Kept P S). entry_of k.row) xs ys) ∙ filter-append (λ e. m.concerns p e.0) (kept_table xs) (kept_table ys)

  concerned_put : (p : P) (ks : List (Kept P S)) (r : Row P S) → m.concerns p r.place ≡ false → concerned p (with_kept m ks r) ≡ concerned p ks
  concerned_put p ks r none =
      let put = is_put m h ks r in
      ap (concerned p) put.after ∙ concerned_append p put.front (fresh r ∷ put.back)
      ∙ ap (λ l. concerned p put.front ++ l) (cond-false (m.concerns p r.place) (entry_of r ∷ concerned p put.back) (concerned p put.back) none)
      ∙ sym (concerned_append p put.front put.back) ∙ ap (concerned p) (sym put.before)

  -- a changed row that concerns a place
  abbrev moves : P → Kept P S → Bool
  moves p k = k.changed && m.concerns p k.row.place

  any_moved : (p : P) (ks : List (Kept P S)) → list_any (λ q. m.concerns p q) (moved ks) ≡ list_any (moves p) ks
  any_moved p [] = refl
  any_moved p (k ∷ ks) = by k.changed (any_moved p ks)
    where
      by : (b : Bool) → list_any (λ q. m.concerns p q) (moved ks) ≡ list_any (moves p) ks
          → list_any (λ q. m.concerns p q) (map place_in (if b then k ∷ filter (λ j. j.changed) ks else filter (λ j. j.changed) ks)) ≡ ((b && m.concerns p k.row.place) || list_any (moves p) ks)
      by true rest = ap (λ b. m.concerns p k.row.place || b) rest
      by false rest = rest

  none_entered : (p : P) (ks : List (Kept P S)) (new : List (Row P S)) → list_any (moves p) (entered m ks new) ≡ false → (list_any (moves p) ks ≡ false) × (concerned p (entered m ks new) ≡ concerned p ks)
  none_entered p ks [] none = (none, refl)
  none_entered p ks (r ∷ new) none =
      let parts = any_put (moves p) (entered m ks new) r none in
      let rest = none_entered p ks new parts.1 in
      (rest.0, concerned_put p (entered m ks new) r parts.0 ∙ rest.1)

  unchanged_entered : (ks : List (Kept P S)) (new : List (Row P S)) → list_any (λ k. k.changed) (entered m ks new) ≡ false → (list_any (λ k. k.changed) ks ≡ false) × (entered m ks new ≡ ks)
  unchanged_entered ks [] none = (none, refl)
  unchanged_entered ks (r ∷ new) none = absurd (true≢false (any_put (λ k. k.changed) (entered m ks new) r none).0)

  -- -- The next map

  module _ (ks : List (Kept P S)) (next : Kept P S → Kept P S) (all : AllByRecursion (λ k. IsNext m h ks k (next k)) ks) (new : List (Row P S)) where
    abbrev T : List (P × S)
    T = kept_table ks

    abbrev ds : List (Kept P S)
    ds = map next ks

    abbrev es : List (Kept P S)
    es = entered m ds new

    stored_is : stored es ≡ arrivals m T
    stored_is =
        stored_entered ds new ∙ flat_map-map pairs next ks ∙ flat_maps_alike (λ k. pairs (next k)) (λ k. successors_of m T (entry_of k.row)) ks (all_map ks (λ k n. n.next) all)
        ∙ sym (flat_map-map (successors_of m T) (λ (k : Kept P S). entry_of k.row) ks)

    concerned_by : (p : P) (k : Kept P S) (rest others : List (P × S)) (b : Bool) → (next k).changed ≡ b → IsNext m h ks k (next k) → (b && m.concerns p (next k).row.place) ≡ false → rest ≡ others
        → (if m.concerns p (next k).row.place then entry_of (next k).row ∷ rest else rest) ≡ (if m.concerns p k.row.place then entry_of k.row ∷ others else others)
    concerned_by p k rest others true is n none same =
        cond-false (m.concerns p (next k).row.place) _ _ none ∙ same ∙ sym (cond-false (m.concerns p k.row.place) _ _ (ap (m.concerns p) (sym n.place) ∙ none))
    concerned_by p k rest others false is n none same =
        ap (λ (r : Row P S). if m.concerns p r.place then entry_of r ∷ rest else rest) (n.stays is) ∙ ap (λ l. if m.concerns p k.row.place then entry_of k.row ∷ l else l) same

    concerned_same : (p : P) (ls : List (Kept P S)) → AllByRecursion (λ k. IsNext m h ks k (next k)) ls → list_any (moves p) (map next ls) ≡ false → concerned p (map next ls) ≡ concerned p ls
    concerned_same p [] each none = refl
    concerned_same p (k ∷ ls) each none =
        let parts = or_parts (moves p (next k)) _ none in
        concerned_by p k (concerned p (map next ls)) (concerned p ls) (next k).changed refl each.0 parts.0 (concerned_same p ls each.1 parts.1)

    abbrev by_list : List (P × S) → Row P S → List (P × S) → Row P S
    by_list nexts r comes = raised m (is_widening m r.place nexts) r (fold m.join r.state (states_to m r.place comes))

    stays_settled : (k : Kept P S) → IsNext m h ks k (next k) → IsSettled m es (next k)
    stays_settled k n unchanged =
        ap (λ nexts. by_list nexts (next k).row (stored es)) n.next ∙ ap (by_list (successors_of m T (entry_of k.row)) (next k).row) stored_is
        ∙ ap (λ r. by_list (successors_of m T (entry_of k.row)) r (arrivals m T)) (n.stays unchanged) ∙ sym n.row

    stays_fresh : (k : Kept P S) → IsNext m h ks k (next k) → IsFresh m es (next k)
    stays_fresh k n still =
        let parts = or_parts (next k).changed _ still in
        let p = (next k).row.place in
        let entering = none_entered p ds new (sym (any_moved p es) ∙ parts.1) in
        let same : concerned p es ≡ concerned p ks = entering.1 ∙ concerned_same p ks all entering.0 in
        n.next ∙ ap (λ (r : Row P S). successors_of m T (entry_of r)) (sym (n.stays parts.0)) ∙ ap (m.successors p (next k).row.state) (sym same)

    places_next : map place_in ds ≡ map place_in ks
    places_next = map-map place_in next ks ∙ maps_alike (λ k. place_in (next k)) place_in ks (all_map ks (λ k n. n.place) all)

    none_there : (p : P) (xs ys : List (Kept P S)) → map place_in ys ≡ map place_in xs → has_place m (kept_table xs) p ≡ false → AllByRecursion (λ k. is_same_place m k.row.place p ≡ false) ys
    none_there p xs ys same none =
        pass ys (ap (list_any (λ q. is_same_place m q p)) same ∙ sym (places xs) ∙ none)
      where
        places : (ls : List (Kept P S)) → has_place m (kept_table ls) p ≡ list_any (λ q. is_same_place m q p) (map place_in ls)
        places [] = refl
        places (k ∷ ls) = ap (λ b. is_same_place m k.row.place p || b) (places ls)

        pass : (ls : List (Kept P S)) → list_any (λ q. is_same_place m q p) (map place_in ls) ≡ false → AllByRecursion (λ k. is_same_place m k.row.place p ≡ false) ls
        pass [] e = tt
        pass (k ∷ ls) e = let parts = or_parts (is_same_place m k.row.place p) _ e in (parts.0, pass ls parts.1)

    pub next_rises : AreRising m (map place_in ks) → AreRising m (map place_in ds)
    next_rises rising = subst (AreRising m) (sym places_next) rising

    pub next_apart : AllByRecursion (λ r. has_place m T r.place ≡ false) new → AllByRecursion (λ r. AllByRecursion (λ k. is_same_place m k.row.place r.place ≡ false) ds) new
    next_apart absent = all_map new (λ r none. none_there r.place ks ds places_next none) absent

    pub stays_sound : AreRising m (map place_in ks) → AreRising m (map (λ r. r.place) new) → AllByRecursion (λ r. has_place m T r.place ≡ false) new → IsSound m es
    stays_sound rising rise absent = record {
      rising = entered_rises m h ds new (next_rises rising) rise (next_apart absent);
      fresh = all_entered m h (IsFresh m es) ds new (all_next (IsFresh m es) ks (λ k n. stays_fresh k n) all) (all_of _ new (λ r e. absurd (true≢false e)));
      settled = all_entered m h (IsSettled m es) ds new (all_next (IsSettled m es) ks (λ k n. stays_settled k n) all) (all_of _ new (λ r e. absurd (true≢false e)));
    }
      where
        all_next : (Q : Kept P S → Type 0) (ls : List (Kept P S)) → ((k : Kept P S) → IsNext m h ks k (next k) → Q (next k)) → AllByRecursion (λ k. IsNext m h ks k (next k)) ls → AllByRecursion Q (map next ls)
        all_next Q [] step each = tt
        all_next Q (k ∷ ls) step each = (step k each.0, all_next Q ls step each.1)

    pub rows_are : rows_of es ≡ with_rows m (map (next_row m T) (rows_of ks)) new
    rows_are =
        rows_entered m h ds new ∙ ap (λ rows. with_rows m rows new) (map-map (λ (k : Kept P S). k.row) next ks ∙ maps_alike (λ k. (next k).row) (λ k. next_row m T k.row) ks (all_map ks (λ k n. n.row) all)
        ∙ sym (map-map (next_row m T) (λ (k : Kept P S). k.row) ks))

    pub rows_stay : list_any (λ k. k.changed) es ≡ false → rows_of es ≡ rows_of ks
    rows_stay none =
        let parts = unchanged_entered ds new none in
        ap rows_of parts.1 ∙ map-map (λ (k : Kept P S). k.row) next ks ∙ stay ks all parts.0
      where
        stay : (ls : List (Kept P S)) → AllByRecursion (λ k. IsNext m h ks k (next k)) ls → list_any (λ k. k.changed) (map next ls) ≡ false → map (λ k. (next k).row) ls ≡ rows_of ls
        stay [] each e = refl
        stay (k ∷ ls) each e = let parts = or_parts (next k).changed _ e in rw (each.0.stays parts.0, stay ls each.1 parts.1) refl

  -- -- A step of the code

  module _ (most : ℕ) (ks : List (Kept P S)) (sound : IsSound m ks) where
    met_by : met m ks ≡ new_rows m (kept_table ks)
    met_by = ap (fold (with_arrival m) []) (strangers_are m h ks sound.fresh)

    stepped_by : stepped m most ks ≡ entered m (map (done m h ks) ks) (take (most - length ks) (met m ks))
    unfolding stepped
    stepped_by = ap (λ l. entered m l (take (most - length ks) (met m ks))) (done_all m h ks sound.fresh)

    met_rises : AreRising m (map (λ r. r.place) (met m ks))
    met_rises = arrivals_rise m h [] (strangers (all_arrivals (prepared m ks))) tt

    met_absent : AllByRecursion (λ r. has_place m (kept_table ks) r.place ≡ false) (met m ks)
    met_absent =
        all_arrivals_are m h (λ p. has_place m (kept_table ks) p ≡ false) [] (strangers (all_arrivals (prepared m ks))) tt
        (subst (AllByRecursion (λ e. has_place m (kept_table ks) e.0 ≡ false)) (sym (strangers_are m h ks sound.fresh))
        (all_map _ (λ e t. is_false (has_place m (kept_table ks) e.0) t) (all_filter (λ e. not (has_place m (kept_table ks) e.0)) (arrivals m (kept_table ks)))))
      where
        is_false : (b : Bool) → not b ≡ true → b ≡ false
        is_false true e = sym e
        is_false false e = refl

    abbrev entering : List (Row P S)
    entering = take (most - length ks) (met m ks)

    pub step_sound : IsSound m (stepped m most ks)
    step_sound =
        subst (IsSound m) (sym stepped_by) (stays_sound ks (done m h ks) (all_are_next m h ks sound) entering sound.rising (rising_take m h (most - length ks) (met m ks) met_rises)
        (all_take (λ r. has_place m (kept_table ks) r.place ≡ false) (most - length ks) (met m ks) met_absent))

    table_is : map entry_of (rows_of ks) ≡ kept_table ks
    table_is = map-map entry_of (λ (k : Kept P S). k.row) ks

    pub step_rows : (full : Bool) → rows_of (stepped m most ks) ≡ (grown m most (record { rows = rows_of ks; full = full })).rows
    unfolding grown
    step_rows full =
        ap rows_of stepped_by ∙ rows_are ks (done m h ks) (all_are_next m h ks sound) entering
        ∙ ap (λ new. with_rows m (map (next_row m (kept_table ks)) (rows_of ks)) (take (most - length ks) new)) met_by
        ∙ ap (λ n. with_rows m (map (next_row m (kept_table ks)) (rows_of ks)) (take (most - n) (new_rows m (kept_table ks)))) (sym (length-map ks (λ (k : Kept P S). k.row)))
        ∙ ap (λ t. with_rows m (map (next_row m t) (rows_of ks)) (take (most - length (rows_of ks)) (new_rows m t))) (sym table_is)

    pub step_met : met m ks ≡ new_rows m (map entry_of (rows_of ks))
    step_met = met_by ∙ ap (new_rows m) (sym table_is)

    pub step_stays : list_any (λ k. k.changed) (stepped m most ks) ≡ false → rows_of (stepped m most ks) ≡ rows_of ks
    step_stays none =
        ap rows_of stepped_by ∙ rows_stay ks (done m h ks) (all_are_next m h ks sound) entering (ap (list_any (λ (k : Kept P S). k.changed)) (sym stepped_by) ∙ none)

    pub step_rises : AreRising m (map place_in (settled_all m ks))
    step_rises = subst (λ l. AreRising m (map place_in l)) (sym (done_all m h ks sound.fresh)) (next_rises ks (done m h ks) (all_are_next m h ks sound) entering sound.rising)

    pub step_enters : AreRising m (map (λ r. r.place) entering)
    step_enters = rising_take m h (most - length ks) (met m ks) met_rises

    pub step_apart : AllByRecursion (λ r. AllByRecursion (λ k. is_same_place m k.row.place r.place ≡ false) (settled_all m ks)) entering
    step_apart =
        subst (λ l. AllByRecursion (λ r. AllByRecursion (λ k. is_same_place m k.row.place r.place ≡ false) l) entering) (sym (done_all m h ks sound.fresh))
        (next_apart ks (done m h ks) (all_are_next m h ks sound) entering (all_take (λ r. has_place m (kept_table ks) r.place ≡ false) (most - length ks) (met m ks) met_absent))

    pub step_is : (ls next : List (Kept P S)) (new : List (Row P S)) → ls ≡ settled_all m ks → new ≡ entering → next ≡ entered m ls new → next ≡ stepped m most ks
    unfolding stepped
    step_is ls next new a b is = is ∙ ap (λ l. entered m l new) a ∙ ap (entered m (settled_all m ks)) b
