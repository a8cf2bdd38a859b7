-- A shrinking sweep of the code is that of the map.
use Rattle.std.proofs.Common.{◌≡◌, Bool, true, false, List, [], ◌∷◌, ◌++◌, map, length, refl, sym, ap, subst, ◌∙◌}
use Rattle.std.specs.Prelude.{if◌then◌else◌, Option, Some, None}
use Rattle.std.specs.List.{fold}
use Rattle.std.proofs.lemmas.List.{append-nil, length-map}
use Rattle.std.proofs.lemmas.List.Sums.{fold-append}
use Rattle.std.proofs.lemmas.List.Folds.{flat_map-map}
use Rattle.sweeps.specs.declared.row.Row.{Row}
use Rattle.sweeps.specs.declared.kept.Kept.{Kept}
use Rattle.sweeps.specs.declared.kept.Slot.{Slot}
use Rattle.sweeps.specs.declared.kept.Slot.TheVariants.{Idle, Due, Joined}
use Rattle.sweeps.specs.Meaning.{Meaning, IsLawful}
use Rattle.sweeps.specs.Sweeps.{entry_of, is_same_place, arrivals, states_to, successors_of, joined_all, lowered, comes_to, shrunk, AreRising}
use Rattle.sweeps.specs.Kept.{zip_with, unaimed, pair_of, place_in, rows_of, kept_table, all_arrivals, pairs, stored, came, add_at, renewed, aimed, aimed_at, renewed_all, aimed_all, all_stale, made_stale, shrink_ready, shrink_slots, shrunk_kept, settled_by}
use Rattle.sweeps.proofs.SlotLemmas.{map_same, map-map, zip_with-map, added_once, added_rows, filled, fills_joined}
use Rattle.sweeps.proofs.SoundLemmas.{pairs_all, pairs_unaimed, flat_maps_alike, all_of, made_places}

-- the state in a slot
abbrev state_in : {S : Type 0} → Slot S → Option S
state_in (Joined s) = Some s
state_in _ = None

module _ {P S : Type 0} (m : Meaning P S) (h : IsLawful m) (entry : P) (initial : S) (ks : List (Kept P S)) where
  abbrev T : List (P × S)
  T = kept_table ks

  abbrev ready : Kept P S → Kept P S
  ready k = aimed m (map place_in ks) (renewed m T (made_stale k))

  ready_all : shrink_ready m ks ≡ map ready ks
  ready_all =
      let stale : Kept P S → Kept P S = made_stale in
      let made : renewed_all m (all_stale m ks) ≡ map (λ k. renewed m T (stale k)) ks =
      ap (λ t. map (renewed m t) (map stale ks)) (map-map (λ (k : Kept P S). entry_of k.row) stale ks) ∙ map-map (renewed m T) stale ks in
      ap (aimed_all m) made ∙ ap (λ ps. map (aimed m ps) (map (λ k. renewed m T (stale k)) ks)) (map-map place_in (λ k. renewed m T (stale k)) ks) ∙ map-map (aimed m (map place_in ks)) (λ k. renewed m T (stale k)) ks

  stored_ready : stored (shrink_ready m ks) ≡ arrivals m T
  stored_ready =
      ap stored ready_all ∙ flat_map-map pairs ready ks
      ∙ flat_maps_alike (λ k. pairs (ready k)) (λ k. successors_of m T (entry_of k.row)) ks (all_of _ ks (λ k. map-map pair_of (aimed_at m (map place_in ks)) (renewed m T (made_stale k)).arrivals ∙ pairs_unaimed (successors_of m T (entry_of k.row))))
      ∙ sym (flat_map-map (successors_of m T) (λ (k : Kept P S). entry_of k.row) ks)

  rows_ready : rows_of (shrink_ready m ks) ≡ rows_of ks
  rows_ready = ap rows_of ready_all ∙ map-map (λ (k : Kept P S). k.row) ready ks

  abbrev due : Row P S → Slot S
  due r = Due

  abbrev came_to : Row P S → Slot S
  came_to r = filled m false r (due r) (arrivals m T)

  abbrev final : Row P S → Slot S
  final r = if is_same_place m r.place entry then came m false r.state (came_to r) initial else came_to r

  slots_are : shrink_slots m entry initial (shrink_ready m ks) (map (λ (k : Kept P S). due k.row) ks) ≡ map final (rows_of (shrink_ready m ks))
  slots_are =
      let cs = shrink_ready m ks in
      let start : map (λ (k : Kept P S). due k.row) ks ≡ map due (rows_of cs) = sym (map-map due (λ (k : Kept P S). k.row) ks) ∙ ap (map due) (sym rows_ready) in
      let all : fold (add_at m false cs) (map (λ (k : Kept P S). due k.row) ks) (all_arrivals cs) ≡ map came_to (rows_of cs) =
      ap (λ l. fold (add_at m false cs) l (all_arrivals cs)) start ∙ added_rows m false cs due (all_arrivals cs) ∙ ap (λ comes. map (λ r. filled m false r (due r) comes) (rows_of cs)) (pairs_all cs ∙ stored_ready) in
      ap (λ l. add_at m false cs l (unaimed (entry, initial))) all ∙ added_once m false cs came_to (unaimed (entry, initial))

  lowers : (k : Kept P S) (slot : Slot S) → (settled_by m false k slot).row ≡ lowered m k.row (state_in slot)
  lowers k Idle = refl
  lowers k Due = refl
  lowers k (Joined s) = refl

  joins : (own : S) (ss : List S) → state_in (fold (came m false own) Due ss) ≡ joined_all m ss
  joins own [] = refl
  joins own (s ∷ ss) = ap state_in (fills_joined m false own s ss)

  joins_last : (own : S) (ss : List S) → state_in (came m false own (fold (came m false own) Due ss) initial) ≡ joined_all m (ss ++ initial ∷ [])
  joins_last own [] = refl
  joins_last own (s ∷ ss) = ap (λ slot. state_in (came m false own slot initial)) (fills_joined m false own s ss) ∙ ap Some (sym (fold-append m.join s ss (initial ∷ [])))

  final_is : (r : Row P S) → state_in (final r) ≡ joined_all m (comes_to m entry initial T r.place)
  final_is r = by (is_same_place m r.place entry)
    where
      by : (b : Bool) → state_in (if b then came m false r.state (came_to r) initial else came_to r) ≡ joined_all m (states_to m r.place (arrivals m T) ++ (if b then initial ∷ [] else []))
      by true = joins_last r.state (states_to m r.place (arrivals m T))
      by false = joins r.state (states_to m r.place (arrivals m T)) ∙ ap (joined_all m) (sym (append-nil _))

  settled_rows : rows_of (shrunk_kept m entry initial ks) ≡ map (λ r. lowered m r (state_in (final r))) (rows_of ks)
  unfolding shrunk_kept
  settled_rows =
      ap (λ l. rows_of (zip_with (settled_by m false) (shrink_ready m ks) l)) slots_are ∙ ap rows_of (zip_with-map (settled_by m false) (λ (k : Kept P S). k.row) final (shrink_ready m ks))
      ∙ map-map (λ (k : Kept P S). k.row) (λ k. settled_by m false k (final k.row)) (shrink_ready m ks) ∙ map_same _ (λ k. lowered m k.row (state_in (final k.row))) (shrink_ready m ks) (λ k. lowers k (final k.row))
      ∙ sym (map-map (λ r. lowered m r (state_in (final r))) (λ (k : Kept P S). k.row) (shrink_ready m ks)) ∙ ap (map (λ r. lowered m r (state_in (final r)))) rows_ready

  pub shrink_rows : rows_of (shrunk_kept m entry initial ks) ≡ shrunk m entry initial (rows_of ks)
  unfolding shrunk
  shrink_rows =
      settled_rows ∙ map_same _ _ (rows_of ks) (λ r. ap (lowered m r) (final_is r))
      ∙ ap (λ t. map (λ r. lowered m r (joined_all m (comes_to m entry initial t r.place))) (rows_of ks)) (sym (map-map entry_of (λ (k : Kept P S). k.row) ks))

  lowered_place : (r : Row P S) (o : Option S) → (lowered m r o).place ≡ r.place
  lowered_place r None = refl
  lowered_place r (Some s) = by (m.below s r.state)
    where
      by : (b : Bool) → (if b then record r { state = s } else r).place ≡ r.place
      by true = refl
      by false = refl

  pub shrink_places : map place_in (shrunk_kept m entry initial ks) ≡ map place_in ks
  shrink_places =
      sym (map-map (λ (r : Row P S). r.place) (λ (k : Kept P S). k.row) (shrunk_kept m entry initial ks)) ∙ ap (map (λ (r : Row P S). r.place)) settled_rows
      ∙ map-map (λ (r : Row P S). r.place) (λ r. lowered m r (state_in (final r))) (rows_of ks) ∙ map_same _ (λ r. r.place) (rows_of ks) (λ r. lowered_place r (state_in (final r)))
      ∙ map-map (λ (r : Row P S). r.place) (λ (k : Kept P S). k.row) ks

  pub shrink_rising : AreRising m (map place_in ks) → AreRising m (map place_in (shrunk_kept m entry initial ks))
  shrink_rising rising = subst (AreRising m) (sym shrink_places) rising

  pub length_ready : length (shrink_ready m ks) ≡ length ks
  length_ready = ap length ready_all ∙ length-map ks ready

  pub shrink_is : (now next : List (Kept P S)) (start slots : List (Slot S)) → now ≡ shrink_ready m ks → start ≡ map (λ (k : Kept P S). due k.row) ks → slots ≡ shrink_slots m entry initial now start
      → next ≡ zip_with (settled_by m false) now slots → next ≡ shrunk_kept m entry initial ks
  unfolding shrunk_kept
  shrink_is now next start slots a b c is =
      is ∙ ap (zip_with (settled_by m false) now) (c ∙ ap (shrink_slots m entry initial now) b) ∙ ap (λ l. zip_with (settled_by m false) l (shrink_slots m entry initial l (map (λ (k : Kept P S). due k.row) ks))) a

  pub stale_rising : (now : List (Kept P S)) → now ≡ all_stale m ks → AreRising m (map place_in ks) → AreRising m (map place_in now)
  stale_rising now is rising = subst (AreRising m) (sym (ap (map place_in) is ∙ map-map place_in made_stale ks)) rising

  pub made_rising : (stale made : List (Kept P S)) → stale ≡ all_stale m ks → made ≡ renewed_all m stale → AreRising m (map place_in ks) → AreRising m (map place_in made)
  made_rising stale made a b rising = subst (AreRising m) (sym (ap (map place_in) b ∙ made_places m h stale)) (stale_rising stale a rising)
