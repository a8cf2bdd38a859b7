-- The place of what is read lives from its write on: no node between must define it.
use Rattle.std.proofs.Common.{◌≡◌, ⊎_elim, ℕ, zero, suc, ◌+◌, ◌-◌, ◌<◌, ◌≤◌, List, refl, sym, ap, subst, ◌∙◌, arith, IsTrue, eq-eqb}
use Rattle.std.specs.Prelude.{◌≢◌, ◌&&◌, ◌==◌, not, nat_lt, Bool, true, false, Some, slice_get}
use Rattle.std.proofs.lemmas.Bool.{cases_Bool, and_parts}
use Rattle.flow_graph.specs.FlowGraph.{MayUse, MayDefine, MustDefine, esp_place}
use Rattle.ia32_semantics.specs.State.{State, Location, InRegister, InFlag, AtByte, is_location, esp}
use Rattle.ia32_semantics.specs.Machine.{Machine}
use Rattle.ia32_semantics.specs.Runs.{OccurrenceOf, IsRun}
use Rattle.ia32_semantics.specs.Dependence.{DataDependence}
use Rattle.slice_soundness.specs.Maps.{Map, number_of, IsPlaceOf}
use Rattle.slice_soundness.specs.Premises.{GoesOn, IsLocation, Covers, Follows}
use Rattle.slice_soundness.proofs.RunLemmas.{not_both, occurrence_at, neighbours, comes_at, goes_on_at}

-- -- Locations and places

pub both_are : (a b : Bool) → IsTrue a → IsTrue b → IsTrue (a && b)
both_are true b one two = two
both_are false b one two = one

-- what is a location without ESP is one
pub any_location : (skip_sp : Bool) (l : Location) → IsTrue (is_location skip_sp l) → IsLocation l
any_location skip_sp (InRegister n) is = both_are (nat_lt n 8) true (and_parts (nat_lt n 8) _ is).0 refl
any_location skip_sp (InFlag n) is = is
any_location skip_sp (AtByte a) is = refl

is_false : (b : Bool) → ¬ IsTrue b → b ≡ false
is_false b no_way = ⊎_elim (λ is. absurd (no_way is)) (λ not. not) (cases_Bool b)

module _ (m : Machine) (v : Map) (c : Covers m v) where
  -- without ESP no location has ESP's place
  other_than_esp : (skip_sp : Bool) (s : State) (l : Location) (place : ℕ) → IsTrue (is_location skip_sp l) → IsPlaceOf v s l place → IsTrue skip_sp → place ≢ esp_place
  other_than_esp skip_sp s (InRegister n) place is same skip sp =
      let is_esp : n ≡ esp = sym same ∙ sp in
      let out : IsTrue (skip_sp && n == esp) = both_are skip_sp (n == esp) skip (eq-eqb n esp is_esp) in
      not_both _ (and_parts (nat_lt n 8) _ is).1 (ap not out)
  other_than_esp skip_sp s (InFlag n) place is same skip sp = omega arith
  other_than_esp skip_sp s (AtByte a) place is has skip sp = let far : 14 ≤ place = c.cells s a place has in omega arith

  -- what is neither written nor forgotten keeps its place
  keeps_place : (o : OccurrenceOf m) (l : Location) (place : ℕ) → GoesOn m v o → m.writes o l ≡ false → m.forgets o l ≡ false → IsPlaceOf v o.before l place → IsPlaceOf v o.after l place
  keeps_place o (InRegister n) place goes unwritten kept is = is
  keeps_place o (InFlag n) place goes unwritten kept is = is
  keeps_place o (AtByte a) place goes unwritten kept is = c.stays o a place goes unwritten kept is

-- By a place the writer's node may define what the reader's may use; no node between must define it, and with skip_sp it isn't ESP.
pub record PlaceLives (m : Machine) (v : Map) (skip_sp : Bool) (run : List (OccurrenceOf m)) (j i : ℕ) (writer reader : OccurrenceOf m) : Type 0 where
  pub place : ℕ
  pub other : IsTrue skip_sp → place ≢ esp_place
  pub defines : MayDefine v.graph place (number_of v writer.before)
  pub uses : MayUse v.graph place (number_of v reader.before)
  pub kept : (k : ℕ) (o : OccurrenceOf m) → i < k → k < j → slice_get run k ≡ Some o → ¬ MustDefine v.graph place (number_of v o.before)

module _ (m : Machine) (v : Map) (f : Follows m v) (c : Covers m v) (run : List (OccurrenceOf m)) (is : IsRun m run) (skip_sp : Bool) (l : Location) (j i : ℕ) (d : DataDependence m skip_sp run l j i) where
  location : IsTrue (is_location skip_sp l)
  location = (and_parts (is_location skip_sp l) _ d.reads).0

  writer_goes_on : GoesOn m v d.writer
  writer_goes_on = goes_on_at m v f run is i j d.writer d.reader d.earlier d.writer_is d.reader_is

  -- the place that is written
  defined : (place : ℕ) × IsPlaceOf v d.writer.after l place × MayDefine v.graph place (number_of v d.writer.before)
  defined =
      c.defined d.writer l writer_goes_on (any_location skip_sp l location)
      ((and_parts (is_location skip_sp l) _ d.writes).1) (is_false (m.forgets d.writer l) d.kept)

  -- what comes between doesn't write or forget it
  between_goes_on : (k : ℕ) (o : OccurrenceOf m) → k < j → slice_get run k ≡ Some o → GoesOn m v o
  between_goes_on k o before at = goes_on_at m v f run is k j o d.reader before at d.reader_is

  unwritten : (k : ℕ) (o : OccurrenceOf m) → i < k → k < j → slice_get run k ≡ Some o → m.writes o l ≡ false
  unwritten k o after before at = is_false (m.writes o l) (λ writes. (d.last k o after before at).0 (both_are (is_location skip_sp l) (m.writes o l) location writes))

  unforgotten : (k : ℕ) (o : OccurrenceOf m) → i < k → k < j → slice_get run k ≡ Some o → m.forgets o l ≡ false
  unforgotten k o after before at = is_false (m.forgets o l) ((d.last k o after before at).1)

  -- so many steps behind the writer the place is the same
  kept_for : (n k : ℕ) (o : OccurrenceOf m) → suc (i + n) ≡ k → k ≤ j → slice_get run k ≡ Some o → IsPlaceOf v o.before l defined.0
  kept_for zero k o far within at =
      let e : k ≡ suc i = omega arith in
      let by = neighbours m is.start run is.goes i d.writer o d.writer_is (subst (λ n. slice_get run n ≡ Some o) e at) in
      subst (λ s. IsPlaceOf v s l defined.0) (sym by.meet) defined.1
  kept_for (suc n) k o far within at =
      let k' : ℕ = suc (i + n) in
      let e : k ≡ suc k' = omega arith in
      let prior = occurrence_at m run k' j d.reader d.reader_is (omega arith) in
      let by = neighbours m is.start run is.goes k' prior.0 o prior.1 (subst (λ n. slice_get run n ≡ Some o) e at) in
      let was = kept_for n k' prior.0 refl (omega arith) prior.1 in
      subst (λ s. IsPlaceOf v s l defined.0) (sym by.meet)
      (keeps_place m v c prior.0 l defined.0 (between_goes_on k' prior.0 (omega arith) prior.1)
      (unwritten k' prior.0 (omega arith) (omega arith) prior.1) (unforgotten k' prior.0 (omega arith) (omega arith) prior.1) was)

  kept_at : (k : ℕ) (o : OccurrenceOf m) → i < k → k ≤ j → slice_get run k ≡ Some o → IsPlaceOf v o.before l defined.0
  kept_at k o after within at = kept_for (k - suc i) k o (omega arith) within at

  -- none between must define it
  undefined : (k : ℕ) (o : OccurrenceOf m) → i < k → k < j → slice_get run k ≡ Some o → ¬ MustDefine v.graph defined.0 (number_of v o.before)
  undefined k o after before at must =
      let goes = between_goes_on k o before at in
      let unwritten_here = unwritten k o after before at in
      let kept_here = unforgotten k o after before at in
      let stays = keeps_place m v c o l defined.0 goes unwritten_here kept_here (kept_at k o after (omega arith) at) in
      not_both (m.writes o l) (c.always o l defined.0 goes (any_location skip_sp l location) kept_here stays must) unwritten_here

  pub place_lives : PlaceLives m v skip_sp run j i d.writer d.reader
  place_lives =
      let comes = comes_at m v f run is j d.reader d.reader_is in
      record {
        place = defined.0;
        other = other_than_esp m v c skip_sp d.writer.after l defined.0 location defined.1;
        defines = defined.2;
        uses = c.used d.reader l defined.0 comes (any_location skip_sp l location) ((and_parts (is_location skip_sp l) _ d.reads).1) (kept_at j d.reader d.earlier (omega arith) d.reader_is);
        kept = undefined;
      }
