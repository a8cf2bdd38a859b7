-- The steps that are marked from the last one down are those on which a marked one depends.
use Rattle.std.proofs.Common.{◌≡◌, ◌≢◌, ⊎_elim, ℕ, ◌+◌, ◌<◌, ◌≤◌, Bool, false, List, length, replicate, ◌∙◌, ap, subst, arith}
use Rattle.std.specs.Prelude.{◌↔◌}
use Rattle.std.proofs.lemmas.List.{length-replicate, get_or-replicate}
use Rattle.std.proofs.lemmas.Bool.{cases_eq}
use Rattle.std.proofs.lemmas.Option.{slice_get_within}
use Rattle.flow_graph.specs.Walks.{IsOn}
use Rattle.flow_graph.specs.Marked.{Marked}
use Rattle.flow_graph.specs.Marked.Marked.{seed, step}
use Rattle.flow_graph.proofs.MarkedLaws.{marked_all}
use Rattle.flow_graph.proofs.WalkLemmas.{off-nothing}
use Rattle.ia32_run.specs.declared.log.Occurrence.{Occurrence as Told}
use Rattle.dynamic_slices.specs.Slices.{IsToldToDepend, DependOnEarlier, IsInSlice}
use Rattle.dynamic_slices.specs.Marks.{Marks}

-- the steps from k on are done
pub record Done (skip_sp : Bool) (steps : List Told) (old now : List Bool) (k : ℕ) : Type 0 where
  pub long : length now ≡ length steps
  pub kept : (n : ℕ) → IsOn old n → IsOn now n
  pub reached : (n : ℕ) → IsOn now n → Marked (IsOn old) (IsToldToDepend skip_sp steps) n
  pub followed : (j i : ℕ) → k ≤ j → IsToldToDepend skip_sp steps j i → IsOn now j → IsOn now i

pub done_none : (skip_sp : Bool) (steps : List Told) (old : List Bool) (k : ℕ) → length old ≡ length steps → length steps ≤ k → Done skip_sp steps old old k
done_none skip_sp steps old k long past = record {
  long = long;
  kept = λ n on. on;
  reached = λ n on. seed on;
  followed = λ j i from told on. absurd (let within = slice_get_within steps j told.0 told.1 in omega arith);
}

pub done_more : (skip_sp : Bool) (steps : List Told) (old now next : List Bool) (k j : ℕ) → DependOnEarlier skip_sp steps → k ≡ j + 1 → Marks (λ i. IsOn now j × IsToldToDepend skip_sp steps j i) now next → Done skip_sp steps old now k
    → Done skip_sp steps old next j
done_more skip_sp steps old now next k j earlier is marks done = record {
  long = marks.long ∙ done.long;
  kept = λ n on. marks.kept n (done.kept n on);
  reached = λ n on. ⊎_elim (λ was. done.reached n was) (λ new. step new.1 (done.reached j new.0)) (marks.why n on);
  followed = λ m i from told on.
      let low = earlier m i told in
      let there = slice_get_within steps m told.0 told.1 in
      let long = done.long in
      let was : IsOn now m = ⊎_elim (λ was. was) (λ new. absurd (let below = earlier j m new.1 in omega arith)) (marks.why m on) in
      ⊎_elim
      (λ same. marks.has i (subst (λ x. IsOn now x) same was, subst (λ x. IsToldToDepend skip_sp steps x i) same told) (omega arith))
      (λ other. let off : m ≢ j = other in marks.kept i (done.followed m i (omega (arith, off, from, is)) told was))
      (cases_eq m j);
}

pub done_all : (skip_sp : Bool) (steps : List Told) (old now : List Bool) (k : ℕ) → k ≡ 0 → Done skip_sp steps old now k → (n : ℕ) → IsOn now n ↔ Marked (IsOn old) (IsToldToDepend skip_sp steps) n
done_all skip_sp steps old now k none done n = (
  λ on. done.reached n on,
  λ marked. marked_all (IsOn old) (IsToldToDepend skip_sp steps) (IsOn now) done.kept (λ j i told on. done.followed j i (omega arith) told on) marked,
)

-- what is marked from one step on is its slice
pub slice_marked : (skip_sp : Bool) (steps : List Told) (last : ℕ) (old mid new : List Bool) → last < length steps → old ≡ replicate (length steps) false → Marks (λ n. n ≡ last) old mid
    → ((n : ℕ) → IsOn new n ↔ Marked (IsOn mid) (IsToldToDepend skip_sp steps) n) → (n : ℕ) → IsOn new n ↔ IsInSlice (IsToldToDepend skip_sp steps) last n
slice_marked skip_sp steps last old mid new within none marks all n = (
  λ on. marked_all (IsOn mid) Direct (IsInSlice Direct last) (λ m is. ⊎_elim (λ was. absurd (off-nothing (length steps) m (subst (λ (ms : List Bool). IsOn ms m) none was))) (λ same. seed same) (marks.why m is)) (λ m i told there. step told there) ((all n).0 on),
  λ there. (all n).1 (marked_all (λ m. m ≡ last) Direct (Marked (IsOn mid) Direct) (λ m same. seed (marks.has m same (let long : length old ≡ length steps = ap (λ (ms : List Bool). length ms) none ∙ length-replicate (length steps) false in omega arith))) (λ m i told is. step told is) there),
)
  where
    Direct : ℕ → ℕ → Type 0
    Direct = IsToldToDepend skip_sp steps
