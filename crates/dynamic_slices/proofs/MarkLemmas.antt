-- Marks of steps, one more at a time.
use Rattle.std.proofs.Common.{◌≡◌, ◌≢◌, inl, inr, ⊎_elim, ℕ, ◌+◌, ◌<◌, ◌≤◌, Bool, true, List, length, get_or, set, refl, sym, ◌∙◌, ap, subst, arith, length-set}
use Rattle.std.specs.Prelude.{Contains}
use Rattle.std.proofs.lemmas.Bool.{cases_eq}
use Rattle.flow_graph.specs.Walks.{IsOn}
use Rattle.flow_graph.proofs.WalkLemmas.{on-set, on-kept, on-why, IsBelow, below-contains}
use Rattle.dynamic_slices.specs.Marks.{Marks}

pub marks_nothing : (P : ℕ → Type 0) (marks : List Bool) → ((n : ℕ) → P n → n < length marks → IsOn marks n) → Marks P marks marks
marks_nothing P marks has = record { long = refl; kept = λ n on. on; why = λ n on. inl on; has = has }

pub marks_past : (marks : List Bool) (step : ℕ) → length marks ≤ step → Marks (λ n. n ≡ step) marks marks
marks_past marks step past = marks_nothing (λ n. n ≡ step) marks (λ n same within. absurd (omega arith))

pub marks_one : (marks : List Bool) (step : ℕ) → step < length marks → Marks (λ n. n ≡ step) marks (set marks step true)
marks_one marks step within = record {
  long = length-set marks step true;
  kept = λ n on. on-kept marks step n within on;
  why = λ n on. on-why marks step n on;
  has = λ n same inside. subst (λ m. IsOn (set marks step true) m) (sym same) (on-set marks step within);
}

-- the first i of some steps are marked, and the next one is
pub marks_more : (steps : List ℕ) (i n : ℕ) (old mid new : List Bool) → n ≡ get_or steps i 0 → Marks (IsBelow steps i) old mid → Marks (λ m. m ≡ n) mid new → Marks (IsBelow steps (i + 1)) old new
marks_more steps i n old mid new read before here = record {
  long = here.long ∙ before.long;
  kept = λ m on. here.kept m (before.kept m on);
  why = λ m on. ⊎_elim
      (λ was. ⊎_elim (λ first. inl first) (λ below. inr (below.0, (let b : below.0 < i = below.1 in omega (arith, b)), below.2)) (before.why m was))
      (λ same. inr (i, omega arith, sym read ∙ sym same))
      (here.why m on);
  has = λ m below within.
      let low : below.0 < i + 1 = below.1 in
      let long = before.long in
      ⊎_elim (λ same. here.has m (sym below.2 ∙ ap (λ j. get_or steps j 0) same ∙ sym read) (omega (arith, within, long)))
      (λ other. let off : below.0 ≢ i = other in here.kept m (before.has m (below.0, omega (arith, low, off), below.2) within))
      (cases_eq below.0 i);
}

pub marks_all : (steps : List ℕ) (i : ℕ) (old new : List Bool) → i ≡ length steps → Marks (IsBelow steps i) old new → Marks (Contains steps) old new
marks_all steps i old new all m = record {
  long = m.long;
  kept = m.kept;
  why = λ n on. ⊎_elim (λ was. inl was) (λ below. inr ((below-contains steps i n all).0 below)) (m.why n on);
  has = λ n has within. m.has n ((below-contains steps i n all).1 has) within;
}
