-- A sweep that works out anew only what may have changed is the sweep of the whole map.
use Rattle.std.proofs.Common.{◌≡◌, ℕ, suc, Bool, true, false, not, ◌||◌, List, [], ◌∷◌, ◌++◌, map, length, ltb, refl, sym, ap, subst, ◌∙◌, arith, ⊎_elim}
use Rattle.std.specs.Prelude.{if◌then◌else◌, Option, Some, None, option_map, is_none}
use Rattle.std.specs.List.{filter, flat_map, fold, list_any, AllByRecursion}
use Rattle.std.proofs.lemmas.Bool.{or_parts, or_left, or_right, true≢false, cases_Bool, cond-true, cond-false, lt-ltb}
use Rattle.std.proofs.lemmas.List.{map-append, length-map}
use Rattle.std.proofs.lemmas.List.Elements.{filter-append}
use Rattle.std.proofs.lemmas.List.Folds.{list_any-append, flat_map-map}
use Rattle.sweeps.specs.declared.row.Row.{Row}
use Rattle.sweeps.specs.declared.kept.Arrival.{Arrival}
use Rattle.sweeps.specs.declared.kept.Kept.{Kept}
use Rattle.sweeps.specs.declared.kept.Slot.{Slot}
use Rattle.sweeps.specs.declared.kept.Slot.TheVariants.{Idle, Due, Joined}
use Rattle.sweeps.specs.Meaning.{Meaning, IsLawful}
use Rattle.sweeps.specs.Sweeps.{entry_of, is_same_place, successors_of, arrivals, states_to, is_widening, changed_to, with_state, raised, next_row, has_place, AreRising}
use Rattle.sweeps.specs.Kept.{zip_with, unaimed, pair_of, place_in, rows_of, kept_table, all_arrivals, strangers, moved, touched_by, touched, number_of, with_stale, touch_at, renewed, aimed_at, aimed, AreAimed, came, add_at, settled, staled, renewed_all, aimed_all, prepared, gathered, settled_all, pairs, stored, IsFresh, IsSettled, IsSound}
use Rattle.sweeps.proofs.SlotLemmas.{map-map, zip_with-map, touched_rows, added_rows, filled, filled_idle, fills_joined}
use Rattle.sweeps.proofs.EnterLemmas.{all_map, all_append}

-- -- Lists

pub maps_alike : {X Y : Type 0} (f g : X → Y) (xs : List X) → AllByRecursion (λ x. f x ≡ g x) xs → map f xs ≡ map g xs
maps_alike f g [] all = refl
maps_alike f g (x ∷ xs) all = rw (all.0, maps_alike f g xs all.1) refl

pub flat_maps_alike : {X Y : Type 0} (f g : X → List Y) (xs : List X) → AllByRecursion (λ x. f x ≡ g x) xs → flat_map f xs ≡ flat_map g xs
flat_maps_alike f g [] all = refl
flat_maps_alike f g (x ∷ xs) all = rw (all.0, flat_maps_alike f g xs all.1) refl

pub all_of : {X : Type 0} (Q : X → Type 0) (xs : List X) → ((x : X) → Q x) → AllByRecursion Q xs
all_of Q [] each = tt
all_of Q (x ∷ xs) each = (each x, all_of Q xs each)

all_both : {X : Type 0} {Q R T : X → Type 0} (xs : List X) → ((x : X) → Q x → R x → T x) → AllByRecursion Q xs → AllByRecursion R xs → AllByRecursion T xs
all_both [] step a b = tt
all_both (x ∷ xs) step a b = (step x a.0 b.0, all_both xs step a.1 b.1)

module _ {P S : Type 0} where
  pub pairs_all : (ks : List (Kept P S)) → map pair_of (all_arrivals ks) ≡ stored ks
  pairs_all [] = refl
  pairs_all (k ∷ ks) = map-append pair_of k.arrivals (all_arrivals ks) ∙ ap (λ l. pairs k ++ l) (pairs_all ks)

  pub pairs_unaimed : (es : List (P × S)) → map pair_of (map unaimed es) ≡ es
  pairs_unaimed [] = refl
  pairs_unaimed (e ∷ es) = ap (λ l. e ∷ l) (pairs_unaimed es)

module _ {P S : Type 0} (m : Meaning P S) (h : IsLawful m) where
  -- -- The steps, row by row

  module _ (ks : List (Kept P S)) where
    abbrev pub T : List (P × S)
    T = kept_table ks

    abbrev pub places : List P
    places = map place_in ks

    -- with its staleness, with its new successors, and with their numbers
    abbrev pub noted : Kept P S → Kept P S
    noted k = with_stale m (moved ks) k

    abbrev pub made : Kept P S → Kept P S
    made k = renewed m T (noted k)

    abbrev pub ready : Kept P S → Kept P S
    ready k = aimed m places (made k)

    made_all : renewed_all m (staled m ks) ≡ map made ks
    made_all = ap (λ t. map (renewed m t) (map noted ks)) (map-map (λ (k : Kept P S). entry_of k.row) noted ks) ∙ map-map (renewed m T) noted ks

    pub ready_all : prepared m ks ≡ map ready ks
    ready_all =
        ap (aimed_all m) made_all ∙ ap (λ ps. map (aimed m ps) (map made ks)) (map-map place_in made ks) ∙ map-map (aimed m places) made ks

    pairs_ready : (k : Kept P S) → pairs (ready k) ≡ pairs (made k)
    pairs_ready k = map-map pair_of (aimed_at m places) (made k).arrivals

    ready_by : (k : Kept P S) (b : Bool) → ((b ≡ false) → pairs k ≡ successors_of m T (entry_of k.row))
        → map pair_of (if b then map unaimed (successors_of m T (entry_of k.row)) else k.arrivals) ≡ successors_of m T (entry_of k.row)
    ready_by k true fresh = pairs_unaimed (successors_of m T (entry_of k.row))
    ready_by k false fresh = fresh refl

    -- the successors are those by the map
    next_is : (k : Kept P S) → IsFresh m ks k → pairs (ready k) ≡ successors_of m T (entry_of k.row)
    next_is k fresh = pairs_ready k ∙ ready_by k (noted k).stale fresh

    pub all_next : AllByRecursion (IsFresh m ks) ks → stored (map ready ks) ≡ arrivals m T
    all_next fresh =
        flat_map-map pairs ready ks ∙ flat_maps_alike (λ k. pairs (ready k)) (λ k. successors_of m T (entry_of k.row)) ks (all_map ks next_is fresh)
        ∙ sym (flat_map-map (successors_of m T) (λ (k : Kept P S). entry_of k.row) ks)

    -- -- Places that are new

    none_is : (ls : List (Kept P S)) (p : P) → is_none (number_of m (map place_in ls) p) ≡ not (has_place m (kept_table ls) p)
    unfolding number_of
    none_is [] p = refl
    none_is (k ∷ ls) p = by (is_same_place m k.row.place p) (none_is ls p)
      where
        shifts : (o : Option ℕ) → is_none (option_map suc o) ≡ is_none o
        shifts None = refl
        shifts (Some n) = refl

        by : (b : Bool) → is_none (number_of m (map place_in ls) p) ≡ not (has_place m (kept_table ls) p)
            → is_none (if b then Some 0 else option_map suc (number_of m (map place_in ls) p)) ≡ not (b || has_place m (kept_table ls) p)
        by true rest = refl
        by false rest = shifts (number_of m (map place_in ls) p) ∙ rest

    strangers_by : (list : List (Arrival P S)) → strangers (map (aimed_at m places) list) ≡ filter (λ e. not (has_place m T e.0)) (map pair_of list)
    strangers_by [] = refl
    strangers_by (a ∷ list) = by (is_none (number_of m places a.place)) (not (has_place m T a.place)) (none_is ks a.place) (strangers_by list)
      where
        by : (b c : Bool) → b ≡ c → strangers (map (aimed_at m places) list) ≡ filter (λ e. not (has_place m T e.0)) (map pair_of list)
            → map pair_of (if b then aimed_at m places a ∷ filter (λ x. is_none x.target) (map (aimed_at m places) list) else filter (λ x. is_none x.target) (map (aimed_at m places) list))
            ≡ (if c then pair_of a ∷ filter (λ e. not (has_place m T e.0)) (map pair_of list) else filter (λ e. not (has_place m T e.0)) (map pair_of list))
        by true true is rest = ap (λ l. pair_of a ∷ l) rest
        by true false is rest = absurd (true≢false is)
        by false true is rest = absurd (true≢false (sym is))
        by false false is rest = rest

    arrivals_ready : (ls : List (Kept P S)) → all_arrivals (map ready ls) ≡ map (aimed_at m places) (all_arrivals (map made ls))
    arrivals_ready [] = refl
    arrivals_ready (k ∷ ls) = ap (λ l. map (aimed_at m places) (made k).arrivals ++ l) (arrivals_ready ls) ∙ sym (map-append (aimed_at m places) (made k).arrivals (all_arrivals (map made ls)))

    stored_made : stored (map ready ks) ≡ stored (map made ks)
    stored_made = flat_map-map pairs ready ks ∙ flat_maps_alike (λ k. pairs (ready k)) (λ k. pairs (made k)) ks (all_of _ ks pairs_ready) ∙ sym (flat_map-map pairs made ks)

    pub strangers_are : AllByRecursion (IsFresh m ks) ks → strangers (all_arrivals (prepared m ks)) ≡ filter (λ e. not (has_place m T e.0)) (arrivals m T)
    strangers_are fresh =
        ap (λ l. strangers (all_arrivals l)) ready_all ∙ ap strangers (arrivals_ready ks) ∙ strangers_by (all_arrivals (map made ks))
        ∙ ap (filter (λ e. not (has_place m T e.0))) (pairs_all (map made ks) ∙ sym stored_made ∙ all_next fresh)

    aimed_by : (list : List (Arrival P S)) → AreAimed m places (map (aimed_at m places) list)
    aimed_by [] = tt
    aimed_by (a ∷ list) = (refl, aimed_by list)

    -- all arrivals know the numbers of their places
    pub are_aimed : AreAimed m places (all_arrivals (prepared m ks))
    are_aimed = subst (AreAimed m places) (sym (ap all_arrivals ready_all ∙ arrivals_ready ks)) (aimed_by (all_arrivals (map made ks)))

    pub rows_ready : rows_of (prepared m ks) ≡ rows_of ks
    rows_ready = ap rows_of ready_all ∙ map-map (λ (k : Kept P S). k.row) ready ks

    -- -- What comes to the rows

    abbrev pub idle : Row P S → Slot S
    idle r = Idle

    abbrev pub touches : P → List (Kept P S) → Bool
    touches p ls = list_any (λ q. is_same_place m p q) (touched ls)

    abbrev pub first : Row P S → Slot S
    first r = if touches r.place (staled m ks) then Due else idle r

    abbrev pub begun : Row P S → Slot S
    begun r = if touches r.place (renewed_all m (staled m ks)) then Due else first r

    rows_noted : rows_of (staled m ks) ≡ rows_of ks
    rows_noted = map-map (λ (k : Kept P S). k.row) noted ks

    rows_made : rows_of (renewed_all m (staled m ks)) ≡ rows_of ks
    rows_made = ap rows_of made_all ∙ map-map (λ (k : Kept P S). k.row) made ks

    abbrev due : List (Slot S)
    due = fold (touch_at m (renewed_all m (staled m ks))) (fold (touch_at m (staled m ks)) (map (λ (k : Kept P S). idle k.row) ks) (touched (staled m ks))) (touched (renewed_all m (staled m ks)))

    due_are : due ≡ map begun (rows_of ks)
    due_are =
        let start : map (λ (k : Kept P S). idle k.row) ks ≡ map idle (rows_of (staled m ks)) = sym (map-map idle (λ (k : Kept P S). k.row) ks) ∙ ap (map idle) (sym rows_noted) in
        ap (λ l. fold (touch_at m (renewed_all m (staled m ks))) (fold (touch_at m (staled m ks)) l (touched (staled m ks))) (touched (renewed_all m (staled m ks)))) start
        ∙ ap (λ l. fold (touch_at m (renewed_all m (staled m ks))) l (touched (renewed_all m (staled m ks)))) (touched_rows m (staled m ks) idle (touched (staled m ks)) ∙ ap (map first) (rows_noted ∙ sym rows_made))
        ∙ touched_rows m (renewed_all m (staled m ks)) first (touched (renewed_all m (staled m ks))) ∙ ap (map begun) rows_made

    abbrev pub final : Row P S → Slot S
    final r = filled m true r (begun r) (arrivals m T)

    abbrev pub done : Kept P S → Kept P S
    done k = settled m (ready k) (final k.row)

    gathered_are : AllByRecursion (IsFresh m ks) ks → gathered m ks ≡ map final (rows_of (prepared m ks))
    gathered_are fresh =
        ap (λ l. fold (add_at m true (prepared m ks)) l (all_arrivals (prepared m ks))) (due_are ∙ ap (map begun) (sym rows_ready))
        ∙ added_rows m true (prepared m ks) begun (all_arrivals (prepared m ks))
        ∙ ap (λ comes. map (λ r. filled m true r (begun r) comes) (rows_of (prepared m ks))) (pairs_all (prepared m ks) ∙ ap stored ready_all ∙ all_next fresh)

    pub done_all : AllByRecursion (IsFresh m ks) ks → settled_all m ks ≡ map done ks
    done_all fresh =
        ap (zip_with (settled m) (prepared m ks)) (gathered_are fresh) ∙ zip_with-map (settled m) (λ (k : Kept P S). k.row) final (prepared m ks)
        ∙ ap (map (λ k. settled m k (final k.row))) ready_all ∙ map-map (λ k. settled m k (final k.row)) ready ks

    -- -- Rows of which no input changed

    itself : (p : P) → is_same_place m p p ≡ true
    itself p = rw (h.irreflexive p) refl

    own_by : (b : Bool) (p : P) (rest others : List P) → b ≡ true → list_any (λ q. is_same_place m p q) ((if b then p ∷ rest else []) ++ others) ≡ true
    own_by true p rest others is = or_left (is_same_place m p p) _ (itself p)
    own_by false p rest others is = absurd (true≢false (sym is))

    own_touched : (ls : List (Kept P S)) → AllByRecursion (λ k. (noted k).stale ≡ true → touches k.row.place (map noted ls) ≡ true) ls
    own_touched [] = tt
    own_touched (k ∷ ls) = (
      own_by (noted k).stale k.row.place (map (λ a. a.place) k.arrivals) (touched (map noted ls)),
      all_map ls (λ j rest is. list_any-append (λ q. is_same_place m j.row.place q) (touched_by (noted k)) (touched (map noted ls)) ∙ or_right _ _ (rest is)) (own_touched ls),
    )

    none_comes : (p : P) (list : List (Arrival P S)) → list_any (λ q. is_same_place m p q) (map (λ a. a.place) list) ≡ false → states_to m p (map pair_of list) ≡ []
    none_comes p [] none = refl
    none_comes p (a ∷ list) none =
        let parts = or_parts (is_same_place m p a.place) _ none in
        ap (map (λ e. e.1)) (cond-false (is_same_place m p a.place) (pair_of a ∷ filter (λ e. is_same_place m p e.0) (map pair_of list)) _ parts.0) ∙ none_comes p list parts.1

    comes_by : (b : Bool) (p q : P) (old new : List (Arrival P S)) → list_any (λ r. is_same_place m p r) (if b then q ∷ map (λ a. a.place) old else []) ≡ false
        → list_any (λ r. is_same_place m p r) (if b then q ∷ map (λ a. a.place) (if b then new else old) else []) ≡ false → states_to m p (map pair_of (if b then new else old)) ≡ states_to m p (map pair_of old)
    comes_by true p q old new a b = none_comes p new (or_parts _ _ b).1 ∙ sym (none_comes p old (or_parts _ _ a).1)
    comes_by false p q old new a b = refl

    states_append : (p : P) (xs ys : List (P × S)) → states_to m p (xs ++ ys) ≡ states_to m p xs ++ states_to m p ys
    states_append p xs ys = ap (map (λ e. e.1)) (filter-append (λ e. is_same_place m p e.0) xs ys) ∙ map-append (λ (e : P × S). e.1) _ _

    same_coming : (p : P) (ls : List (Kept P S)) → touches p (map noted ls) ≡ false → touches p (map made ls) ≡ false → states_to m p (stored (map made ls)) ≡ states_to m p (stored ls)
    same_coming p [] a b = refl
    same_coming p (k ∷ ls) a b =
        let before = or_parts _ _ (sym (list_any-append (λ q. is_same_place m p q) (touched_by (noted k)) (touched (map noted ls))) ∙ a) in
        let after = or_parts _ _ (sym (list_any-append (λ q. is_same_place m p q) (touched_by (made k)) (touched (map made ls))) ∙ b) in
        states_append p (pairs (made k)) (stored (map made ls))
        ∙ ap (λ l. l ++ states_to m p (stored (map made ls))) (comes_by (noted k).stale p k.row.place k.arrivals (map unaimed (successors_of m T (entry_of k.row))) before.0 after.0)
        ∙ ap (λ l. states_to m p (pairs k) ++ l) (same_coming p ls before.1 after.1) ∙ sym (states_append p (pairs k) (stored ls))

    due_row : (k : Kept P S) → IsFresh m ks k → (ss : List S)
        → (settled m (ready k) (fold (came m true k.row.state) Due ss)).row ≡ raised m (is_widening m k.row.place (successors_of m T (entry_of k.row))) k.row (fold m.join k.row.state ss)
    unfolding raised
    due_row k fresh [] = sym (cond-true (m.same k.row.state k.row.state) _ _ (h.same_as_itself k.row.state))
    due_row k fresh (s ∷ ss) =
        ap (λ slot. (settled m (ready k) slot).row) (fills_joined m true k.row.state (m.join k.row.state s) ss)
        ∙ ap (λ next. raised m (is_widening m k.row.place next) k.row (fold m.join (m.join k.row.state s) ss)) (next_is k fresh)

    stays_row : AllByRecursion (IsFresh m ks) ks → (k : Kept P S) → IsFresh m ks k → IsSettled m ks k → ((noted k).stale ≡ true → touches k.row.place (map noted ks) ≡ true)
        → touches k.row.place (map noted ks) ≡ false → touches k.row.place (map made ks) ≡ false → k.row ≡ next_row m T k.row
    stays_row all k fresh settles own a b =
        let still : (noted k).stale ≡ false = ⊎_elim (λ (t : (noted k).stale ≡ true). absurd (true≢false (sym (own t) ∙ a))) (λ (f : (noted k).stale ≡ false). f) (cases_Bool (noted k).stale) in
        sym (settles (or_parts k.changed _ still).0)
        ∙ ap (λ next. raised m (is_widening m k.row.place next) k.row (fold m.join k.row.state (states_to m k.row.place (stored ks)))) (fresh still)
        ∙ ap (λ ss. raised m (is_widening m k.row.place (successors_of m T (entry_of k.row))) k.row (fold m.join k.row.state ss))
        (sym (same_coming k.row.place ks a b) ∙ ap (states_to m k.row.place) (sym stored_made ∙ all_next all))

    row_by : (k : Kept P S) → IsFresh m ks k → (u v : Bool) → (v ≡ false → u ≡ false → k.row ≡ next_row m T k.row)
        → (settled m (ready k) (filled m true k.row (if u then Due else (if v then Due else Idle)) (arrivals m T))).row ≡ next_row m T k.row
    row_by k fresh true v still = due_row k fresh (states_to m k.row.place (arrivals m T))
    row_by k fresh false true still = due_row k fresh (states_to m k.row.place (arrivals m T))
    row_by k fresh false false still = ap (λ slot. (settled m (ready k) slot).row) (filled_idle m true k.row (arrivals m T)) ∙ still refl refl

    done_row : AllByRecursion (IsFresh m ks) ks → (k : Kept P S) → IsFresh m ks k → IsSettled m ks k → ((noted k).stale ≡ true → touches k.row.place (map noted ks) ≡ true) → (done k).row ≡ next_row m T k.row
    done_row all k fresh settles own =
        row_by k fresh (touches k.row.place (renewed_all m (staled m ks))) (touches k.row.place (staled m ks))
        (λ a b. stays_row all k fresh settles own a (ap (touches k.row.place) (sym made_all) ∙ b))

    -- -- The rows after a sweep

    -- what a row and its successor in the next map have in common
    pub record IsNext (k d : Kept P S) : Type 0 where
      pub next : pairs d ≡ successors_of m T (entry_of k.row)
      pub row : d.row ≡ next_row m T k.row
      pub stays : d.changed ≡ false → d.row ≡ k.row
      pub place : d.row.place ≡ k.row.place

    with_place : (r : Row P S) (s : S) → (with_state m r s).place ≡ r.place
    with_place r s = by (m.same r.state s)
      where
        by : (b : Bool) → (if b then r else record r { state = s; changes = suc r.changes }).place ≡ r.place
        by true = refl
        by false = refl

    raised_place : (w : Bool) (r : Row P S) (s : S) → (raised m w r s).place ≡ r.place
    unfolding raised
    raised_place w r s = by (m.same r.state s)
      where
        by : (b : Bool) → (if b then r else with_state m r (changed_to m w (suc r.changes) r.state s)).place ≡ r.place
        by true = refl
        by false = with_place r (changed_to m w (suc r.changes) r.state s)

    with_stays : (r : Row P S) (s : S) → ltb r.changes (with_state m r s).changes ≡ false → with_state m r s ≡ r
    with_stays r s = by (m.same r.state s)
      where
        by : (b : Bool) → ltb r.changes (if b then r else record r { state = s; changes = suc r.changes }).changes ≡ false → (if b then r else record r { state = s; changes = suc r.changes }) ≡ r
        by true e = refl
        by false e = absurd (true≢false (sym (lt-ltb r.changes (suc r.changes) (omega arith)) ∙ e))

    raised_stays : (w : Bool) (r : Row P S) (s : S) → ltb r.changes (raised m w r s).changes ≡ false → raised m w r s ≡ r
    unfolding raised
    raised_stays w r s = by (m.same r.state s)
      where
        by : (b : Bool) → ltb r.changes (if b then r else with_state m r (changed_to m w (suc r.changes) r.state s)).changes ≡ false → (if b then r else with_state m r (changed_to m w (suc r.changes) r.state s)) ≡ r
        by true e = refl
        by false e = with_stays r (changed_to m w (suc r.changes) r.state s) e

    settled_arrivals : (k : Kept P S) (slot : Slot S) → pairs (settled m k slot) ≡ pairs k
    settled_arrivals k Idle = refl
    settled_arrivals k Due = refl
    settled_arrivals k (Joined s) = refl

    settled_stays : (k : Kept P S) (slot : Slot S) → (settled m k slot).changed ≡ false → (settled m k slot).row ≡ k.row
    settled_stays k Idle e = refl
    settled_stays k Due e = refl
    settled_stays k (Joined s) e = raised_stays (is_widening m k.row.place (pairs k)) k.row s e

    settled_place : (k : Kept P S) (slot : Slot S) → (settled m k slot).row.place ≡ k.row.place
    settled_place k Idle = refl
    settled_place k Due = refl
    settled_place k (Joined s) = raised_place (is_widening m k.row.place (pairs k)) k.row s

    is_next : AllByRecursion (IsFresh m ks) ks → (k : Kept P S) → IsFresh m ks k → IsSettled m ks k → ((noted k).stale ≡ true → touches k.row.place (map noted ks) ≡ true) → IsNext k (done k)
    is_next all k fresh settles own = record {
      next = settled_arrivals (ready k) (final k.row) ∙ next_is k fresh;
      row = done_row all k fresh settles own;
      stays = settled_stays (ready k) (final k.row);
      place = settled_place (ready k) (final k.row);
    }

    pub all_are_next : IsSound m ks → AllByRecursion (λ k. IsNext k (done k)) ks
    all_are_next sound =
        let rest : AllByRecursion (λ k. IsFresh m ks k → IsNext k (done k)) ks = all_both ks (λ k s o f. is_next sound.fresh k f s o) sound.settled (own_touched ks) in
        all_both ks (λ k f g. g f) sound.fresh rest

    pub length_gathered : AllByRecursion (IsFresh m ks) ks → length (gathered m ks) ≡ length (prepared m ks)
    length_gathered fresh = ap length (gathered_are fresh) ∙ length-map (rows_of (prepared m ks)) final ∙ length-map (prepared m ks) (λ (k : Kept P S). k.row)

    pub staled_places : map place_in (staled m ks) ≡ map place_in ks
    staled_places = map-map place_in noted ks

    pub prepared_places : map place_in (prepared m ks) ≡ map place_in ks
    prepared_places = ap (map place_in) ready_all ∙ map-map place_in ready ks

    pub few_ready : (Q : Row P S → Type 0) → AllByRecursion (λ k. Q k.row) ks → AllByRecursion (λ k. Q k.row) (prepared m ks)
    few_ready Q all = subst (AllByRecursion (λ k. Q k.row)) (sym ready_all) (go ks all)
      where
        go : (ls : List (Kept P S)) → AllByRecursion (λ k. Q k.row) ls → AllByRecursion (λ k. Q k.row) (map ready ls)
        go [] a = tt
        go (k ∷ ls) a = (a.0, go ls a.1)

  -- -- Arrivals with their numbers

  pub made_places : (ks : List (Kept P S)) → map place_in (renewed_all m ks) ≡ map place_in ks
  made_places ks = map-map place_in (renewed m (kept_table ks)) ks

  pub aimed_places : (ks : List (Kept P S)) → map place_in (aimed_all m ks) ≡ map place_in ks
  aimed_places ks = map-map place_in (aimed m (map place_in ks)) ks

  pub all_aimed : (ks : List (Kept P S)) → AreAimed m (map place_in (aimed_all m ks)) (all_arrivals (aimed_all m ks))
  all_aimed ks = subst (λ ps. AreAimed m ps (all_arrivals (aimed_all m ks))) (sym (aimed_places ks)) (go ks)
    where
      one : (list : List (Arrival P S)) → AreAimed m (map place_in ks) (map (aimed_at m (map place_in ks)) list)
      one [] = tt
      one (a ∷ list) = (refl, one list)

      go : (ls : List (Kept P S)) → AreAimed m (map place_in ks) (all_arrivals (map (aimed m (map place_in ks)) ls))
      go [] = tt
      go (k ∷ ls) = all_append (λ a. a.target ≡ number_of m (map place_in ks) a.place) (map (aimed_at m (map place_in ks)) k.arrivals) _ (one k.arrivals) (go ls)

  pub fill_rising : (ks made ready now : List (Kept P S)) → made ≡ renewed_all m ks → ready ≡ aimed_all m made → now ≡ ready → AreRising m (map place_in ks) → AreRising m (map place_in now)
  fill_rising ks made ready now a b c rising = subst (AreRising m) (sym (ap (map place_in) (c ∙ b) ∙ aimed_places made ∙ ap (map place_in) a ∙ made_places ks)) rising

  pub fill_aimed : (made ready now : List (Kept P S)) → ready ≡ aimed_all m made → now ≡ ready → AreAimed m (map place_in now) (all_arrivals now)
  fill_aimed made ready now b c = subst (λ l. AreAimed m (map place_in l) (all_arrivals l)) (sym (c ∙ b)) (all_aimed made)
