-- Laws of starts and of runs.
use Rattle.std.proofs.Common.{◌≡◌, ℕ, zero, suc, ◌+◌, ◌-◌, ◌<◌, ◌≤◌, List, [], ◌∷◌, take, refl, sym, ap, subst, ◌∙◌, arith, ltb, ltb-true, ltb-false}
use Rattle.std.specs.Prelude.{Bool, true, false, ◌&&◌, ◌||◌, Option, Some, None, slice_get}
use Rattle.std.specs.List.{list_any}
use Rattle.std.proofs.Math.Seq.{take-nil}
use Rattle.std.proofs.lemmas.Bool.{false≢true}
use Rattle.ia32_semantics.specs.State.{State, Location, is_location}
use Rattle.ia32_semantics.specs.Outcome.{is_in_block}
use Rattle.ia32_semantics.specs.Machine.{Machine}
use Rattle.ia32_semantics.specs.Runs.{OccurrenceOf, Goes, BeginningsAreRuns}
use Rattle.ia32_semantics.specs.Dependence.{Reads, Writes, Forgets, DataDependence}
use Rattle.ia32_semantics.specs.CallModel.{AreBlocks, AreActivations, blocks_given}
use Rattle.ia32_semantics.specs.Laws.{StartsAreWhole, DependsOnLastWriters}
use Rattle.ia32_semantics.proofs.EffectLemmas.{by_test}

-- -- Starts

-- the bytes of no block
no_blocks : (a b c : Bool) → a ≡ b → c ≡ false → a ≡ (b || c)
no_blocks a true c a_is none = a_is
no_blocks a false c a_is none = a_is ∙ sym none

pub starts_are_whole : StartsAreWhole
starts_are_whole image settings s is = record {
  laid_out = record {
    slot = is.slot;
    sized = is.sized;
    mapped = λ a. no_blocks _ _ _ (is.mapped a) (ap (list_any (is_in_block a)) is.blocks);
    apart = is.apart;
    placed = subst (AreBlocks s.slot) (sym is.blocks) tt;
    given = is.blocks ∙ sym (ap blocks_given is.allocs);
  };
  activations = subst (AreActivations image s.memory s.slot) (sym is.activations) (refl, is.halt);
}

-- -- Beginnings

goes_as_far : (m : Machine) (s : State) (run : List (OccurrenceOf m)) (n : ℕ) → Goes m s run → Goes m s (take n run)
goes_as_far m s run zero goes = tt
goes_as_far m s [] (suc n) goes = tt
goes_as_far m s (o ∷ run) (suc n) goes =
    (goes.0, goes.1, (λ last. ap (take n) (goes.2 last) ∙ take-nil n), goes_as_far m o.after run n goes.3)

pub beginnings_are_runs : (m : Machine) → BeginningsAreRuns m
beginnings_are_runs m run n is = record { start = is.start; starts = is.starts; goes = goes_as_far m is.start run n is.goes }

-- -- Last writers

-- whether there is an occurrence that writes the location
abbrev has_writer : (m : Machine) → Bool → Location → Option (OccurrenceOf m) → Bool
has_writer m skip_sp l None = false
has_writer m skip_sp l (Some o) = is_location skip_sp l && m.writes o l

writer_of : (m : Machine) (skip_sp : Bool) (l : Location) (found : Option (OccurrenceOf m)) → has_writer m skip_sp l found ≡ true
    → (o : OccurrenceOf m) × (found ≡ Some o) × Writes m skip_sp o l
writer_of m skip_sp l None e = absurd (false≢true e)
writer_of m skip_sp l (Some o) e = (o, refl, e)

-- no occurrence from k on and before j writes the location
abbrev NoneWrites : (m : Machine) → Bool → Location → List (OccurrenceOf m) → ℕ → ℕ → Type 0
NoneWrites m skip_sp l run k j = (n : ℕ) (o : OccurrenceOf m) → k ≤ n → n < j → slice_get run n ≡ Some o → ¬ Writes m skip_sp o l

-- one more occurrence at the front doesn't write it
none_before : (m : Machine) (skip_sp : Bool) (l : Location) (run : List (OccurrenceOf m)) (k j : ℕ)
    → has_writer m skip_sp l (slice_get run k) ≡ false → NoneWrites m skip_sp l run (k + 1) j → NoneWrites m skip_sp l run k j
none_before m skip_sp l run k j here later n o from below is writes =
    by_test (ltb k n)
    (λ above. later n o (let b : k < n = ltb-true k n above in omega arith) below is writes)
    (λ at. let same : n ≡ k = (let b : n ≤ k = ltb-false k n at in omega arith) in
    false≢true (sym here ∙ ap (has_writer m skip_sp l) (ap (slice_get run) (sym same) ∙ is) ∙ writes))

-- a writer at k, none after it, and nothing forgotten from it on
depends_on : (m : Machine) (skip_sp : Bool) (run : List (OccurrenceOf m)) (l : Location) (j k : ℕ) (reader : OccurrenceOf m)
    → slice_get run j ≡ Some reader → Reads m skip_sp reader l → k < j
    → ((n : ℕ) (o : OccurrenceOf m) → k ≤ n → n < j → slice_get run n ≡ Some o → ¬ Forgets m o l)
    → has_writer m skip_sp l (slice_get run k) ≡ true → NoneWrites m skip_sp l run (k + 1) j
    → DataDependence m skip_sp run l j k
depends_on m skip_sp run l j k reader reader_is reads below kept written none =
    let found = writer_of m skip_sp l (slice_get run k) written in
    record {
      earlier = below;
      reader = reader;
      writer = found.0;
      reader_is = reader_is;
      writer_is = found.1;
      reads = reads;
      writes = found.2;
      kept = kept k found.0 (omega arith) below found.1;
      last = λ n o above under is. (none n o (omega arith) under is, kept n o (omega arith) under is);
    }

-- the last writer from i + d back to i, where none follows it
last_writer : (m : Machine) (skip_sp : Bool) (run : List (OccurrenceOf m)) (l : Location) (j i : ℕ) (reader : OccurrenceOf m)
    → slice_get run j ≡ Some reader → Reads m skip_sp reader l
    → ((n : ℕ) (o : OccurrenceOf m) → i ≤ n → n < j → slice_get run n ≡ Some o → ¬ Forgets m o l)
    → has_writer m skip_sp l (slice_get run i) ≡ true
    → (d k : ℕ) → k ≡ i + d → k < j → NoneWrites m skip_sp l run (k + 1) j
    → (k : ℕ) × (i ≤ k) × DataDependence m skip_sp run l j k
last_writer m skip_sp run l j i reader reader_is reads kept written zero k k_is below none =
    let same : i ≡ k = omega arith in
    let kept_on : (n : ℕ) (o : OccurrenceOf m) → k ≤ n → n < j → slice_get run n ≡ Some o → ¬ Forgets m o l =
    λ n o above under is. kept n o (omega arith) under is in (
      k,
      omega arith,
      depends_on m skip_sp run l j k reader reader_is reads below kept_on
          (ap (λ n. has_writer m skip_sp l (slice_get run n)) (sym same) ∙ written) none,
    )
last_writer m skip_sp run l j i reader reader_is reads kept written (suc d) k k_is below none =
    let kept_on : (n : ℕ) (o : OccurrenceOf m) → k ≤ n → n < j → slice_get run n ≡ Some o → ¬ Forgets m o l =
    λ n o above under is. kept n o (omega arith) under is in
    by_test (has_writer m skip_sp l (slice_get run k))
    (λ here. (k, omega arith, depends_on m skip_sp run l j k reader reader_is reads below kept_on here none))
    (λ not_here. last_writer m skip_sp run l j i reader reader_is reads kept written d (i + d) refl (omega arith)
    (let k_next : i + d + 1 ≡ k = omega arith in
    subst (λ n. NoneWrites m skip_sp l run n j) (sym k_next) (none_before m skip_sp l run k j not_here none)))

pub depends_on_last_writers : (m : Machine) → DependsOnLastWriters m
depends_on_last_writers m skip_sp run l j i reader writer earlier reader_is writer_is reads writes kept =
    last_writer m skip_sp run l j i reader reader_is reads kept (ap (has_writer m skip_sp l) writer_is ∙ writes)
    (j - i - 1) (j - 1) (omega arith) (omega arith) (λ n o above below is. absurd (omega arith))
