-- Bytes that are neither written nor forgotten stay where they lie, and places are covered.
use Rattle.std.proofs.Common.{arith, ◌<◌, ◌≡◌, ⊎_elim, ℕ, ◌+◌, List, [], ◌∷◌, ◌++◌, refl, sym, ap, subst, ◌∙◌, ltb-true}
use Rattle.std.specs.Prelude.{pos, ◌-ℤ◌, ◌^◌, nat_lt, Bool, true, false, if◌then◌else◌, find, Option, Some, None}
use Rattle.std.specs.Option.{option_map}
use Rattle.std.proofs.lemmas.Option.{none-some}
use Rattle.std.proofs.lemmas.Bool.{cases_Bool, and_parts}
use Rattle.image_map.specs.declared.region.Activation.{Activation}
use Rattle.ia32_semantics.specs.declared.state.Allocation.{Allocation}
use Rattle.ia32_semantics.specs.State.{State, Location, InRegister, InFlag, AtByte}
use Rattle.ia32_semantics.specs.Outcome.{is_in_stack}
use Rattle.ia32_semantics.specs.Machine.{Machine}
use Rattle.ia32_semantics.specs.Runs.{OccurrenceOf}
use Rattle.call_strings.specs.declared.context.Node.{Node}
use Rattle.item_list.proofs.ListLaws.{found_first}
use Rattle.slice_soundness.specs.Nodes.{running, node_at, IsRooted}
use Rattle.slice_soundness.specs.Maps.{Map, IsNode, here, AreHome, IsPlaceOf}
use Rattle.slice_soundness.specs.Premises.{IsReady, GoesOn, Covers, IsLocation}
use Rattle.slice_soundness.specs.Located.{Spot, owner_of, is_in_allocation, frame_spot, block_spot, spot_by, spot_of, Division, Part, OfCore, OfRegion, Accesses, IsPartAt, IsThere, HasPlace, MovesBytes, IsLocated}
use Rattle.slice_soundness.proofs.RunLemmas.{not_both}

-- -- Owners

-- the newest activation owns nothing above its return slot
owner_above : (newest before : Activation) (others : List Activation) (a : ℕ) → nat_lt a (newest.base + 4) ≡ false → owner_of (newest ∷ before ∷ others) a ≡ owner_of (before ∷ others) a
unfolding owner_of
owner_above newest before others a above = ap (λ low. if low then Some newest else owner_of (before ∷ others) a) above

owner_above_call : (entry : ℕ) (new : Activation) (activations : List Activation) (a : ℕ) → IsRooted entry activations → nat_lt a (new.base + 4) ≡ false → owner_of (new ∷ activations) a ≡ owner_of activations a
owner_above_call entry new [] a rooted above = absurd rooted
owner_above_call entry new (x ∷ xs) a rooted above = owner_above new x xs a above

find_by : {A : Type 0} (test : A → Bool) (b : Bool) (y : A) (ys more : List A) (x : A) → (find test ys ≡ Some x → find test (ys ++ more) ≡ Some x)
    → (if b then Some y else find test ys) ≡ Some x → (if b then Some y else find test (ys ++ more)) ≡ Some x
find_by test true y ys more x rest found = found
find_by test false y ys more x rest found = rest found

mapped_more : {A B : Type 0} (f : A → B) (p q : Option A) (y : B) → ((x : A) → p ≡ Some x → q ≡ Some x) → option_map f p ≡ Some y → option_map f q ≡ Some y
mapped_more f None q y goes found = absurd (none-some y found)
mapped_more f (Some x) q y goes found = ap (option_map f) (goes x refl) ∙ found

spot_stays : (low stack : Bool) (frame frame' block block' : Option Spot) (spot : Spot) → (stack ≡ true → frame' ≡ frame) → (block ≡ Some spot → block' ≡ Some spot)
    → spot_by low stack frame block ≡ Some spot → spot_by low stack frame' block' ≡ Some spot
spot_stays true stack frame frame' block block' spot same more is = is
spot_stays false true frame frame' block block' spot same more is = same refl ∙ is
spot_stays false false frame frame' block block' spot same more is = more is

module _ (m : Machine) (v : Map) (o : OccurrenceOf m) (goes : GoesOn m v o) (moves : MovesBytes m o) (a : ℕ) (unwritten : m.writes o (AtByte a) ≡ false) (kept : m.forgets o (AtByte a) ≡ false) where
  -- an untouched byte of the stack keeps its owner
  owner_stays : is_in_stack o.before.slot a ≡ true → owner_of o.after.activations a ≡ owner_of o.before.activations a
  owner_stays stack =
      ⊎_elim
      (λ same. ap (λ activations. owner_of activations a) same)
      (λ other.
      ⊎_elim
      (λ takes.
      ap (λ activations. owner_of activations a) takes.grown
      ∙ owner_above_call m.entry takes.new o.before.activations a goes.comes.ready.rooted
      (⊎_elim (λ low. absurd (not_both (m.forgets o (AtByte a)) (takes.taken a stack (ltb-true a (takes.new.base + 4) low) unwritten) kept)) (λ high. high) (cases_Bool (nat_lt a (takes.new.base + 4)))))
      (λ gives.
      ap (λ activations. owner_of activations a) gives.are
      ∙ sym (owner_above gives.ending gives.parent gives.older a
      (⊎_elim (λ low. absurd (not_both (m.forgets o (AtByte a)) (gives.given a stack (ltb-true a (gives.ending.base + 4) low)) kept)) (λ high. high) (cases_Bool (nat_lt a (gives.ending.base + 4)))))
      ∙ ap (λ activations. owner_of activations a) (sym gives.were))
      other)
      moves.calls

  pub stays_there : (key : Allocation → ℕ) (spot : Spot) → spot_of key o.before a ≡ Some spot → spot_of key o.after a ≡ Some spot
  stays_there key spot is =
      ap (λ slot. spot_by (nat_lt a (2 ^ 31)) (is_in_stack slot a) (option_map frame_spot (owner_of o.after.activations a)) (option_map (block_spot key) (find (is_in_allocation a) o.after.allocs))) moves.slot
      ∙ spot_stays (nat_lt a (2 ^ 31)) (is_in_stack o.before.slot a)
      (option_map frame_spot (owner_of o.before.activations a)) (option_map frame_spot (owner_of o.after.activations a))
      (option_map (block_spot key) (find (is_in_allocation a) o.before.allocs)) (option_map (block_spot key) (find (is_in_allocation a) o.after.allocs))
      spot
      (λ stack. ap (option_map frame_spot) (owner_stays stack))
      (λ found. mapped_more (block_spot key) (find (is_in_allocation a) o.before.allocs) (find (is_in_allocation a) o.after.allocs) spot
      (λ x first. ap (find (is_in_allocation a)) moves.allocs ∙ found_first (is_in_allocation a) o.before.allocs moves.more x first) found)
      is

-- -- Places

module _ (m : Machine) (v : Map) (d : Division) (acc : Accesses) (located : IsLocated m v d acc) where
  -- where a part lies, a location has its place
  place_of : (s : State) (l : Location) (part : Part) (place : ℕ) → IsPartAt d s l part → HasPlace d part place → IsPlaceOf v s l place
  place_of s (InRegister n) part place is has = (subst (λ p. HasPlace d p place) is has).0
  place_of s (InFlag n) part place is has = (subst (λ p. HasPlace d p place) is has).0
  place_of s (AtByte a) part place is has =
      located.cells_back s a place (record { spot = is.0; spot_is = is.1; is_in = subst (λ p. HasPlace d p place) is.2 has })

  -- and a location that has a place is a part with that place
  part_of : (s : State) (l : Location) (place : ℕ) → IsLocation l → IsPlaceOf v s l place → (part : Part) × IsPartAt d s l part × HasPlace d part place
  part_of s (InRegister n) place location is = (OfCore n, refl, (is, let low : n < 8 = ltb-true n 8 (and_parts (nat_lt n 8) _ location).0 in omega arith))
  part_of s (InFlag n) place location is = (OfCore (n + 8), refl, (is, let low : n < 6 = ltb-true n 6 location in omega arith))
  part_of s (AtByte a) place location has =
      let cell = located.cells s a place has in
      (OfRegion cell.spot.region (pos a -ℤ pos cell.spot.base), (cell.spot, cell.spot_is, refl), cell.is_in)

  filled : (part : Part) → IsThere d part → (place : ℕ) × HasPlace d part place
  filled (OfCore n) there = (n, (refl, there))
  filled (OfRegion region offset) there = located.division.fills region offset there

  pub places_are_covered : Covers m v
  places_are_covered = record {
    cells = λ s a place has. let cell = located.cells s a place has in located.division.behind cell.spot.region (pos a -ℤ pos cell.spot.base) place cell.is_in;
    used = λ o l place comes location reads has.
        let part = part_of o.before l place location has in
        located.sets.used (here v o.before) comes.ready.value part.0 place comes.ready.has_value (located.accesses.reads o l part.0 comes location reads part.1) part.2;
    defined = λ o l goes location writes kept.
        let access = located.accesses.writes o l goes location writes kept in
        let place = filled access.0 access.3 in
        (place.0, place_of o.after l access.0 place.0 access.1 place.1, located.sets.defined (here v o.before) goes.comes.ready.value access.0 place.0 goes.comes.ready.has_value access.2 place.1);
    stays = λ o a place goes unwritten kept has.
        let cell = located.cells o.before a place has in
        located.cells_back o.after a place (record { spot = cell.spot; spot_is = stays_there m v o goes (located.moves o goes) a unwritten kept d.key cell.spot cell.spot_is; is_in = cell.is_in });
    always = λ o l place goes location kept there must.
        let part = part_of o.after l place location there in
        located.accesses.always o l part.0 goes location kept part.1
        (located.sets.always (here v o.before) goes.comes.ready.value part.0 place goes.comes.ready.has_value must part.2);
  }

-- -- Procedures that run have nodes

-- the procedure of an activation below others has the node of a call
caller_has_node : (v : Map) (newest : Activation) (newer : List Activation) (x : Activation) (older : List Activation) → AreHome v (newest ∷ newer ++ x ∷ older) → (n : Node) × IsNode v n × (n.context.proc ≡ x.callee)
caller_has_node v newest [] x older homes = (node_at v.depth (x ∷ older) newest.site, homes.0.is_node, refl)
caller_has_node v newest (y ∷ newer) x older homes = caller_has_node v y newer x older homes.1

pub live_has_node : (m : Machine) (v : Map) (s : State) → IsReady m v s → (newer : List Activation) (x : Activation) (older : List Activation) → s.activations ≡ newer ++ x ∷ older → (n : Node) × IsNode v n × (n.context.proc ≡ x.callee)
live_has_node m v s ready [] x older same = (here v s, (ready.value, ready.has_value), ap (λ activations. running activations) same)
live_has_node m v s ready (y ∷ newer) x older same = caller_has_node v y newer x older (subst (AreHome v) same ready.homes)
