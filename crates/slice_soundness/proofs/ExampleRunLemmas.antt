-- All premises hold of the example, so its slice lists the dependences of each of its runs; and it has some.
use Rattle.std.proofs.Common.{◌≡◌, ◌⊎◌, inl, inr, ⊎_elim, ℕ, zero, suc, ◌<◌, ◌≤◌, List, [], ◌∷◌, map, refl, sym, ap, subst, ◌∙◌, arith, eq-eqb}
use Rattle.std.specs.Prelude.{◌≢◌, ◌==◌, true, false, Some, Contains, slice_get}
use Rattle.std.proofs.lemmas.Option.{none-some, same_Some}
use Rattle.std.proofs.lemmas.Bool.{false≢true, and_parts}
use Rattle.flow_graph.specs.FlowGraph.{IsAt, IsBranch, MayUse, MayDefine}
use Rattle.flow_graph.specs.Marked.Marked.{seed, step}
use Rattle.ia32_semantics.specs.State.{State, Location, InRegister, AtByte, is_location}
use Rattle.ia32_semantics.specs.Machine.{Occurrence}
use Rattle.ia32_semantics.specs.Runs.{stands_at, IsRun, Goes}
use Rattle.ia32_semantics.specs.Dependence.{Writes, Forgets, DataDependence, ControlDependence, ListsDependences}
use Rattle.slice_soundness.specs.Premises.{IsClean, Describes}
use Rattle.slice_soundness.specs.Tables.{value_in, number_in, IsKept, IsFlow}
use Rattle.slicer.specs.Slicer.{FlowEdge, InSlice}
use Rattle.slice_soundness.specs.Arrows.{FlowArrow, ListsSlice}
use Rattle.slice_soundness.specs.Example.{Act, calls, stops, stores, chooses, loads, returns, address_of, done, is_last, is_branch, machine, Known, outside, inside, same_known, rows, successors_at, uses_at, defines_at, example, table, start, made, run, other_run, listed, stored_at, HasDependences}
use Rattle.slice_soundness.proofs.TableLemmas.{tables_are_clean, tables_have_graphs}
use Rattle.slice_soundness.proofs.ArrowLemmas.{slices_list_dependences}
use Rattle.slice_soundness.proofs.ExampleLemmas.{machine_laws, abstract_steps}
use Rattle.slice_soundness.proofs.ExampleCoverLemmas.{covers, in_one, in_two}

-- -- The table

same_is : (one other : Known) → same_known one other ≡ true → one ≡ other
same_is outside outside same = refl
same_is outside inside same = absurd (false≢true same)
same_is inside outside same = absurd (false≢true same)
same_is inside inside same = refl

kept : IsKept example table
kept = record {
  values = λ n. refl;
  numbers = λ n. refl;
  graph = refl;
  successors = λ n to a next is comes. comes.among;
  below = same_is;
  canonical = λ n a is. tt;
}

clean : IsClean machine example
unfolding value_in rows successors_at
clean = tables_are_clean machine example table kept refl refl

contains_map : {A : Type 0} (f : A → ℕ) (xs : List A) (x : A) → Contains xs x → Contains (map f xs) (f x)
contains_map f [] x has = absurd (omega (arith, has.1))
contains_map f (y ∷ ys) x (zero, within, is) = (0, omega arith, ap f is)
contains_map f (y ∷ ys) x (suc k, within, is) = let later = contains_map f ys x (k, omega arith, is) in (suc later.0, omega (arith, later.1), later.2)

branch_at : (act : Act) (at : ℕ) → at ≡ address_of act → is_branch act ≡ true → (at == 21) ≡ true
branch_at calls at is branch = absurd (false≢true branch)
branch_at stops at is branch = absurd (false≢true branch)
branch_at stores at is branch = absurd (false≢true branch)
branch_at chooses at is branch = eq-eqb at 21 is
branch_at loads at is branch = absurd (false≢true branch)
branch_at returns at is branch = absurd (false≢true branch)

end_at : (act : Act) (at : ℕ) → at ≡ address_of act → is_last act ≡ true → (at == 11) ≡ true
end_at calls at is last = absurd (false≢true last)
end_at stops at is last = eq-eqb at 11 is
end_at stores at is last = absurd (false≢true last)
end_at chooses at is last = absurd (false≢true last)
end_at loads at is last = absurd (false≢true last)
end_at returns at is last = absurd (false≢true last)

flows : IsFlow machine example table
flows = record {
  at = λ n a is. refl;
  next = λ n to a b next is comes there. contains_map (λ come. number_in rows come.0) (successors_at n.at) (to, next) comes;
  branch = λ o a comes is branch. branch_at o.act o.before.eip comes.happens.at branch;
  end = λ o a comes is last. end_at o.act o.before.eip comes.happens.at last;
}

pub describes : Describes machine example
describes = record {
  follows = record { machine = machine_laws; steps = abstract_steps; clean = clean };
  graph = tables_have_graphs machine example table kept flows;
  covers = covers;
}

-- -- The slice

-- nodes 1 to 4 are at the listed addresses
listed_at : (a n : ℕ) → IsAt example.graph a n → 1 ≤ n → n ≤ 4 → Contains listed a
unfolding rows
listed_at a zero is low high = absurd (omega arith)
listed_at a (suc zero) is low high = (0, omega arith, is)
listed_at a (suc (suc zero)) is low high = (1, omega arith, is)
listed_at a (suc (suc (suc zero))) is low high = (2, omega arith, is)
listed_at a (suc (suc (suc (suc zero)))) is low high = (3, omega arith, is)
listed_at a (suc (suc (suc (suc (suc n))))) is low high = absurd (omega arith)

criterion_is : (n : ℕ) → IsAt example.graph 11 n → n ≡ 1
unfolding rows
criterion_is zero is = absurd (let e : 10 ≡ 11 = is in omega (arith, e))
criterion_is (suc zero) is = refl
criterion_is (suc (suc zero)) is = absurd (let e : 20 ≡ 11 = is in omega (arith, e))
criterion_is (suc (suc (suc zero))) is = absurd (let e : 21 ≡ 11 = is in omega (arith, e))
criterion_is (suc (suc (suc (suc zero)))) is = absurd (let e : 22 ≡ 11 = is in omega (arith, e))
criterion_is (suc (suc (suc (suc (suc zero))))) is = absurd (let e : 23 ≡ 11 = is in omega (arith, e))
criterion_is (suc (suc (suc (suc (suc (suc n)))))) is = absurd is

-- of these nodes none uses the callee's return slot
slot_unused : (n place : ℕ) → 1 ≤ n → n ≤ 4 → place ≡ 16 → MayUse example.graph place n → ⊥
unfolding rows uses_at
slot_unused zero place low high slot uses = omega arith
slot_unused (suc zero) place low high slot uses = let e = in_one 0 place uses in omega arith
slot_unused (suc (suc zero)) place low high slot uses = ⊎_elim (λ e. let f : place ≡ 1 = e in omega arith) (λ e. let f : place ≡ 4 = e in omega arith) (in_two 1 4 place uses)
slot_unused (suc (suc (suc zero))) place low high slot uses = let e = in_one 10 place uses in omega arith
slot_unused (suc (suc (suc (suc zero)))) place low high slot uses = ⊎_elim (λ e. let f : place ≡ 4 = e in omega arith) (λ e. let f : place ≡ 15 = e in omega arith) (in_two 4 15 place uses)
slot_unused (suc (suc (suc (suc (suc n))))) place low high slot uses = omega arith

-- an edge to one of these nodes comes from one of them, where ESP is left out
edge_from : (m n place : ℕ) → 1 ≤ n → n ≤ 4 → place ≢ 4 → MayDefine example.graph place m → MayUse example.graph place n → (1 ≤ m) × (m ≤ 4)
unfolding rows defines_at
edge_from zero n place low high other define uses =
    ⊎_elim (λ esp. absurd (other esp)) (λ slot. absurd (slot_unused n place low high slot uses)) (in_two 4 16 place define)
edge_from (suc zero) n place low high other define uses = (omega arith, omega arith)
edge_from (suc (suc zero)) n place low high other define uses = (omega arith, omega arith)
edge_from (suc (suc (suc zero))) n place low high other define uses = (omega arith, omega arith)
edge_from (suc (suc (suc (suc zero)))) n place low high other define uses = (omega arith, omega arith)
edge_from (suc (suc (suc (suc (suc zero))))) n place low high other define uses = absurd (other (in_one 4 place define))
edge_from (suc (suc (suc (suc (suc (suc m)))))) n place low high other define uses = absurd define

branch_from : (m : ℕ) → IsBranch example.graph m → (1 ≤ m) × (m ≤ 4)
unfolding rows
branch_from zero is = absurd (false≢true is)
branch_from (suc zero) is = (omega arith, omega arith)
branch_from (suc (suc zero)) is = (omega arith, omega arith)
branch_from (suc (suc (suc zero))) is = (omega arith, omega arith)
branch_from (suc (suc (suc (suc zero)))) is = (omega arith, omega arith)
branch_from (suc (suc (suc (suc (suc zero))))) is = absurd (false≢true is)
branch_from (suc (suc (suc (suc (suc (suc m)))))) is = absurd is

arrow_from : (m n : ℕ) → FlowArrow example.graph true m n → (1 ≤ n) × (n ≤ 4) → (1 ≤ m) × (m ≤ 4)
arrow_from m n (inl edge) within = edge_from m n edge.0 within.0 within.1 (edge.1 refl) edge.2.defines edge.2.uses
arrow_from m n (inr control) within = branch_from m control.branches

sliced : (n : ℕ) → InSlice (FlowEdge example.graph true) example.graph 11 n → (1 ≤ n) × (n ≤ 4)
sliced n (seed is) = let e = criterion_is n is in (omega arith, omega arith)
sliced n (step {m = later} arrow rest) = arrow_from n later arrow (sliced later rest)

lists_slice : ListsSlice example.graph true 11 listed
lists_slice a n is slice = let within = sliced n slice in listed_at a n is within.0 within.1

pub lists_dependences : ListsDependences machine true 11 listed
lists_dependences = slices_list_dependences machine example describes true 11 listed lists_slice

-- -- A run

goes : Goes machine (start false) run
goes = (
  refl,
  record { at = refl; after = refl },
  (λ last. absurd (false≢true last)),
  (
    refl,
    record { at = refl; after = refl },
    (λ last. absurd (false≢true last)),
    (
      refl,
      record { at = refl; after = refl },
      (λ last. absurd (false≢true last)),
      (
        refl,
        record { at = refl; after = refl },
        (λ last. absurd (false≢true last)),
        (
          refl,
          record { at = refl; after = refl },
          (λ last. absurd (false≢true last)),
          (refl, record { at = refl; after = refl }, (λ last. refl), tt),
        ),
      ),
    ),
  ),
)

other_goes : Goes machine (start true) other_run
other_goes = (
  refl,
  record { at = refl; after = refl },
  (λ last. absurd (false≢true last)),
  (
    refl,
    record { at = refl; after = refl },
    (λ last. absurd (false≢true last)),
    (
      refl,
      record { at = refl; after = refl },
      (λ last. absurd (false≢true last)),
      (
        refl,
        record { at = refl; after = refl },
        (λ last. absurd (false≢true last)),
        (refl, record { at = refl; after = refl }, (λ last. refl), tt),
      ),
    ),
  ),
)

is_run : IsRun machine run
is_run = record { start = start false; starts = record { at = refl; activations = refl; esp = refl; slot = refl }; goes = goes }

other_is_run : IsRun machine other_run
other_is_run = record { start = start true; starts = record { at = refl; activations = refl; esp = refl; slot = refl }; goes = other_goes }

-- what is neither written nor forgotten at an occurrence
left_alone : (l : Location) (o p : Occurrence Act) → machine.writes p l ≡ false → machine.forgets p l ≡ false → Some p ≡ Some o → (¬ Writes machine true o l) × (¬ Forgets machine o l)
left_alone l o p unwritten unforgotten is =
    subst (λ q. (¬ Writes machine true q l) × (¬ Forgets machine q l)) (same_Some p o is)
    ((λ writes. false≢true (sym unwritten ∙ (and_parts (is_location true l) _ writes).1)), (λ forgets. false≢true (sym unforgotten ∙ forgets)))

-- the states of the run
s2 : State
s2 = done stores (done calls (start false))

s3 : State
s3 = done chooses s2

s4 : State
s4 = done loads s3

end_of_load : DataDependence machine true run (InRegister 0) 5 3
unfolding s2 s3 s4
end_of_load = record {
  earlier = omega arith;
  reader = made stops (done returns s4);
  writer = made loads s3;
  reader_is = refl;
  writer_is = refl;
  reads = refl;
  writes = refl;
  kept = λ forgets. false≢true forgets;
  last = λ k o after before is. between k o after before is;
}
  where
    between : (k : ℕ) (o : Occurrence Act) → 3 < k → k < 5 → slice_get run k ≡ Some o → (¬ Writes machine true o (InRegister 0)) × (¬ Forgets machine o (InRegister 0))
    between zero o after before is = absurd (omega arith)
    between (suc zero) o after before is = absurd (omega arith)
    between (suc (suc zero)) o after before is = absurd (omega arith)
    between (suc (suc (suc zero))) o after before is = absurd (omega arith)
    between (suc (suc (suc (suc zero)))) o after before is = left_alone (InRegister 0) o (made returns (done loads (done chooses (done stores (done calls (start false)))))) refl refl is
    between (suc (suc (suc (suc (suc k))))) o after before is = absurd (omega arith)

load_of_store : DataDependence machine true run (AtByte stored_at) 3 1
unfolding s2 s3
load_of_store = record {
  earlier = omega arith;
  reader = made loads s3;
  writer = made stores (done calls (start false));
  reader_is = refl;
  writer_is = refl;
  reads = refl;
  writes = refl;
  kept = λ forgets. false≢true forgets;
  last = λ k o after before is. between k o after before is;
}
  where
    between : (k : ℕ) (o : Occurrence Act) → 1 < k → k < 3 → slice_get run k ≡ Some o → (¬ Writes machine true o (AtByte stored_at)) × (¬ Forgets machine o (AtByte stored_at))
    between zero o after before is = absurd (omega arith)
    between (suc zero) o after before is = absurd (omega arith)
    between (suc (suc zero)) o after before is = left_alone (AtByte stored_at) o (made chooses (done stores (done calls (start false)))) refl refl is
    between (suc (suc (suc k))) o after before is = absurd (omega arith)

-- an occurrence elsewhere
elsewhere : (o p : Occurrence Act) (at : ℕ) → stands_at p ≢ at → Some p ≡ Some o → stands_at o ≢ at
elsewhere o p at apart is same = apart (ap stands_at (same_Some p o is) ∙ same)

t3 : State
t3 = done chooses (done stores (done calls (start true)))

load_of_branch : ControlDependence machine run 3 2
unfolding s2 s3 t3
load_of_branch = record {
  earlier = omega arith;
  later = made loads s3;
  branch = made chooses s2;
  later_is = refl;
  branch_is = refl;
  branches = refl;
  other_run = other_run;
  other_is_run = other_is_run;
  other_is_complete = record { last = 4; occurrence = made stops (done returns t3); is_there = refl; completes = refl };
  other = 2;
  other_branch = made chooses (done stores (done calls (start true)));
  other_is = refl;
  same_place = refl;
  same_calls = refl;
  other_way = λ same. let e : 23 ≡ 22 = same in omega (arith, e);
  avoids = λ k o after is. beyond k o after is;
}
  where
    beyond : (k : ℕ) (o : Occurrence Act) → 2 < k → slice_get other_run k ≡ Some o → stands_at o ≢ 22
    beyond zero o after is = absurd (omega arith)
    beyond (suc zero) o after is = absurd (omega arith)
    beyond (suc (suc zero)) o after is = absurd (omega arith)
    beyond (suc (suc (suc zero))) o after is = elsewhere o (made returns (done chooses (done stores (done calls (start true))))) 22 (λ same. let e : 23 ≡ 22 = same in omega (arith, e)) is
    beyond (suc (suc (suc (suc zero)))) o after is = elsewhere o (made stops (done returns (done chooses (done stores (done calls (start true)))))) 22 (λ same. let e : 11 ≡ 22 = same in omega (arith, e)) is
    beyond (suc (suc (suc (suc (suc k))))) o after is = absurd (none-some o is)

pub has_dependences : HasDependences
has_dependences = record { is_run = is_run; end_of_load = end_of_load; load_of_store = load_of_store; load_of_branch = load_of_branch }
