-- What comes to the slots of rows.
use Rattle.std.proofs.Common.{◌≡◌, Bool, true, false, ◌||◌, List, [], ◌∷◌, map, refl, sym, ap, ◌∙◌}
use Rattle.std.specs.Prelude.{if◌then◌else◌}
use Rattle.std.specs.List.{filter, fold, list_any}
use Rattle.sweeps.specs.declared.row.Row.{Row}
use Rattle.sweeps.specs.declared.kept.Arrival.{Arrival}
use Rattle.sweeps.specs.declared.kept.Kept.{Kept}
use Rattle.sweeps.specs.declared.kept.Slot.{Slot}
use Rattle.sweeps.specs.declared.kept.Slot.TheVariants.{Idle, Due, Joined}
use Rattle.sweeps.specs.Meaning.{Meaning}
use Rattle.sweeps.specs.Sweeps.{is_same_place, states_to}
use Rattle.sweeps.specs.Kept.{zip_with, rows_of, pair_of, touch_at, came, add_at}

-- equal functions give equal lists
pub map_same : {X Y : Type 0} (f g : X → Y) (xs : List X) → ((x : X) → f x ≡ g x) → map f xs ≡ map g xs
map_same f g [] same = refl
map_same f g (x ∷ xs) same = rw (same x, map_same f g xs same) refl

pub map-map : {X Y Z : Type 0} (g : Y → Z) (f : X → Y) (xs : List X) → map g (map f xs) ≡ map (λ x. g (f x)) xs
map-map g f [] = refl
map-map g f (x ∷ xs) = ap (λ l. g (f x) ∷ l) (map-map g f xs)

-- a list beside one that is made of it
pub zip_with-map : {X Y Z W : Type 0} (f : X → Z → W) (key : X → Y) (F : Y → Z) (xs : List X) → zip_with f xs (map F (map key xs)) ≡ map (λ x. f x (F (key x))) xs
zip_with-map f key F [] = refl
zip_with-map f key F (x ∷ xs) = ap (λ l. f x (F (key x)) ∷ l) (zip_with-map f key F xs)

module _ {P S : Type 0} (m : Meaning P S) where
  touched_once : (ks : List (Kept P S)) (F : Row P S → Slot S) (p : P) → touch_at m ks (map F (rows_of ks)) p ≡ map (λ r. if is_same_place m r.place p then Due else F r) (rows_of ks)
  touched_once ks F p =
      zip_with-map (λ k slot. if is_same_place m k.row.place p then Due else slot) (λ (k : Kept P S). k.row) F ks
      ∙ sym (map-map (λ (r : Row P S). if is_same_place m r.place p then Due else F r) (λ (k : Kept P S). k.row) ks)

  either : (a b : Bool) (x y : Slot S) → (if a then x else (if b then x else y)) ≡ (if b || a then x else y)
  either true true x y = refl
  either true false x y = refl
  either false true x y = refl
  either false false x y = refl

  -- the rows of some places are due
  pub touched_rows : (ks : List (Kept P S)) (F : Row P S → Slot S) (places : List P)
      → fold (touch_at m ks) (map F (rows_of ks)) places ≡ map (λ r. if list_any (λ q. is_same_place m r.place q) places then Due else F r) (rows_of ks)
  touched_rows ks F [] = refl
  touched_rows ks F (p ∷ places) =
      ap (λ l. fold (touch_at m ks) l places) (touched_once ks F p) ∙ touched_rows ks (λ r. if is_same_place m r.place p then Due else F r) places
      ∙ map_same _ _ (rows_of ks) (λ r. either (list_any (λ q. is_same_place m r.place q) places) (is_same_place m r.place p) Due (F r))

  pub added_once : (counts : Bool) (ks : List (Kept P S)) (F : Row P S → Slot S) (a : Arrival P S)
      → add_at m counts ks (map F (rows_of ks)) a ≡ map (λ r. if is_same_place m r.place a.place then came m counts r.state (F r) a.state else F r) (rows_of ks)
  added_once counts ks F a =
      zip_with-map (λ k slot. if is_same_place m k.row.place a.place then came m counts k.row.state slot a.state else slot) (λ (k : Kept P S). k.row) F ks
      ∙ sym (map-map (λ (r : Row P S). if is_same_place m r.place a.place then came m counts r.state (F r) a.state else F r) (λ (k : Kept P S). k.row) ks)

  -- what comes to a row's slot
  abbrev pub filled : Bool → Row P S → Slot S → List (P × S) → Slot S
  filled counts r slot comes = fold (came m counts r.state) slot (states_to m r.place comes)

  one_comes : (counts : Bool) (r : Row P S) (slot : Slot S) (e : P × S) (comes : List (P × S))
      → filled counts r (if is_same_place m r.place e.0 then came m counts r.state slot e.1 else slot) comes ≡ filled counts r slot (e ∷ comes)
  one_comes counts r slot e comes = by (is_same_place m r.place e.0)
    where
      by : (b : Bool) → filled counts r (if b then came m counts r.state slot e.1 else slot) comes
          ≡ fold (came m counts r.state) slot (map (λ x. x.1) (if b then e ∷ filter (λ x. is_same_place m r.place x.0) comes else filter (λ x. is_same_place m r.place x.0) comes))
      by true = refl
      by false = refl

  -- arrivals come to the slots of their places
  pub added_rows : (counts : Bool) (ks : List (Kept P S)) (F : Row P S → Slot S) (arrivals : List (Arrival P S))
      → fold (add_at m counts ks) (map F (rows_of ks)) arrivals ≡ map (λ r. filled counts r (F r) (map pair_of arrivals)) (rows_of ks)
  added_rows counts ks F [] = refl
  added_rows counts ks F (a ∷ arrivals) =
      ap (λ l. fold (add_at m counts ks) l arrivals) (added_once counts ks F a) ∙ added_rows counts ks (λ r. if is_same_place m r.place a.place then came m counts r.state (F r) a.state else F r) arrivals
      ∙ map_same _ _ (rows_of ks) (λ r. one_comes counts r (F r) (pair_of a) (map pair_of arrivals))

  fills_idle : (counts : Bool) (own : S) (ss : List S) → fold (came m counts own) Idle ss ≡ Idle
  fills_idle counts own [] = refl
  fills_idle counts own (s ∷ ss) = fills_idle counts own ss

  -- nothing comes to an idle slot
  pub filled_idle : (counts : Bool) (r : Row P S) (comes : List (P × S)) → filled counts r Idle comes ≡ Idle
  filled_idle counts r comes = fills_idle counts r.state (states_to m r.place comes)

  pub fills_joined : (counts : Bool) (own t : S) (ss : List S) → fold (came m counts own) (Joined t) ss ≡ Joined (fold m.join t ss)
  fills_joined counts own t [] = refl
  fills_joined counts own t (s ∷ ss) = fills_joined counts own (m.join t s) ss
