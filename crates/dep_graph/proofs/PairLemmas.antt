-- Rows of marks for pairs of nodes.
use Rattle.std.proofs.Common.{◌≡◌, ◌≢◌, ◌⊎◌, inl, inr, ⊎_elim, ℕ, zero, suc, ◌+◌, ◌/◌, ◌%◌, ◌^◌, ◌<◌, ◌≤◌, Bool, true, false, List, [], ◌∷◌, length, get_or, set, replicate, sym, ◌∙◌, ap, subst, arith, IsTrue, eq-eqb, eqb-true, get_or-set_same, get_or-set_other, length-set}
use Rattle.std.specs.Prelude.{◌↔◌, ◌==◌}
use Rattle.std.proofs.lemmas.List.{get_or-replicate, get_or_default, length-replicate}
use Rattle.std.proofs.lemmas.Bool.{cases_eq}
use Rattle.flow_graph.specs.Rows.{IsBit}
use Rattle.flow_graph.specs.Walks.{IsOn}
use Rattle.flow_graph.proofs.WalkLemmas.{on-within, on-set, on-kept, on-why}
use Rattle.dep_graph.specs.Edges.{HasPair, IsSquare, IsHit, Adds}

pub bit-test : (word k : ℕ) → IsTrue (word / 2 ^ k % 2 == 1) ↔ IsBit word k
unfolding IsBit
bit-test word k = (λ is. eqb-true (word / 2 ^ k % 2) 1 is, λ is. eq-eqb (word / 2 ^ k % 2) 1 is)

-- ---- one row

pub marks-none : (word : ℕ) (targets : List ℕ) (row : List Bool) (n : ℕ) → IsOn row n ↔ (IsOn row n ⊎ IsHit word targets 0 n)
marks-none word targets row n =
    (λ on. inl on, λ either. ⊎_elim (λ on. on) (λ hit. let never : hit.0 < 0 = hit.1 in absurd (omega (arith, never))) either)

pub marks-more : (word : ℕ) (targets : List ℕ) (first old new : List Bool) (i target n : ℕ) (is_set : Bool) → target ≡ get_or targets i 0 → IsTrue is_set ↔ IsBit word i → IsOn old n ↔ (IsOn first n ⊎ IsHit word targets i n) → IsOn new n ↔ (IsOn old n ⊎ (IsTrue is_set × (n ≡ target))) → IsOn new n ↔ (IsOn first n ⊎ IsHit word targets (i + 1) n)
marks-more word targets first old new i target n is_set read bit before sets = (
  λ on. ⊎_elim (λ was. ⊎_elim (λ f. inl f) (λ hit. inr (hit.0, (let b : hit.0 < i = hit.1 in omega (arith, b)), hit.2, hit.3)) (before.0 was))
      (λ new. inr (i, omega arith, sym read ∙ sym new.1, bit.0 new.0))
      (sets.0 on),
  λ either.
      ⊎_elim (λ f. sets.1 (inl (before.1 (inl f))))
      (λ hit.
      let below : hit.0 < i + 1 = hit.1 in
      ⊎_elim (λ last. sets.1 (inr (bit.1 (subst (λ k. IsBit word k) last hit.3), sym hit.2 ∙ ap (λ k. get_or targets k 0) last ∙ sym read)))
      (λ other. sets.1 (inl (before.1 (inr (hit.0, (let off : hit.0 ≢ i = other in omega (arith, below, off)), hit.2, hit.3)))))
      (cases_eq hit.0 i))
      either,
)

pub set-marks : (row : List Bool) (node n : ℕ) (is_set : Bool) → is_set ≡ true → node < length row → IsOn (set row node true) n ↔ (IsOn row n ⊎ (IsTrue is_set × (n ≡ node)))
set-marks row node n is_set is within = (
  λ on. ⊎_elim (λ was. inl was) (λ same. inr (is, same)) (on-why row node n on),
  λ either. ⊎_elim (λ was. on-kept row node n within was) (λ new. subst (λ m. IsOn (set row node true) m) (sym new.1) (on-set row node within)) either,
)

pub keep-marks : (row : List Bool) (node n : ℕ) (is_set : Bool) → is_set ≡ false → IsOn row n ↔ (IsOn row n ⊎ (IsTrue is_set × (n ≡ node)))
keep-marks row node n is_set is = (λ on. inl on, λ either. ⊎_elim (λ was. was) (λ new. let on = new.0 in absurd (cc)) either)

pub past-marks : (row : List Bool) (node n : ℕ) (is_set : Bool) → length row ≤ node → n < length row → IsOn row n ↔ (IsOn row n ⊎ (IsTrue is_set × (n ≡ node)))
past-marks row node n is_set past within = (λ on. inl on, λ either. ⊎_elim (λ was. was) (λ new. let same = new.1 in absurd (omega (arith, past, within, same))) either)

-- ---- all rows

no-pair : (count m n : ℕ) → m < count → ¬ HasPair (replicate count (replicate count false)) m n
no-pair count m n within has =
    let row : get_or (replicate count (replicate count false)) m [] ≡ replicate count false = get_or-replicate count m (replicate count false) [] within in
    let on : IsOn (replicate count false) n = subst (λ (ms : List Bool). IsOn ms n) row has in
    let inside : n < count = subst (λ l. n < l) (length-replicate count false) (on-within (replicate count false) n on) in
    let off = get_or-replicate count n false false inside in
    absurd (cc)

pub has-within : (pairs : List (List Bool)) (m n : ℕ) → HasPair pairs m n → m < length pairs
has-within [] m n has = absurd (cc)
has-within (row ∷ rows) zero n has = omega arith
has-within (row ∷ rows) (suc m) n has = let within = has-within rows m n has in omega (arith, within)

pub none-has : (count : ℕ) (pairs : List (List Bool)) → pairs ≡ replicate count (replicate count false) → (m n : ℕ) → ¬ HasPair pairs m n
none-has count pairs all m n has =
    let within : m < count = (let w = has-within pairs m n has in subst (λ l. m < l) (ap (λ (ps : List (List Bool)). length ps) all ∙ length-replicate count (replicate count false)) w) in
    no-pair count m n within (subst (λ (ps : List (List Bool)). HasPair ps m n) all has)

pub square-none : (count : ℕ) (pairs : List (List Bool)) → pairs ≡ replicate count (replicate count false) → IsSquare count pairs
square-none count pairs all = record {
  rows = ap (λ (ps : List (List Bool)). length ps) all ∙ length-replicate count (replicate count false);
  marks = λ m within. ap (λ (ps : List (List Bool)). length (get_or ps m [])) all ∙ ap (λ (row : List Bool). length row) (get_or-replicate count m (replicate count false) [] within) ∙ length-replicate count false;
}

-- the pairs found so far, in the first i rows
abbrev pub AddsBelow : (ℕ → ℕ → Type 0) → List (List Bool) → List (List Bool) → ℕ → Type 0
AddsBelow P old new i = (m n : ℕ) → HasPair new m n ↔ (HasPair old m n ⊎ ((m < i) × P m n))

pub record Adding (count : ℕ) (P : ℕ → ℕ → Type 0) (old new : List (List Bool)) (i : ℕ) : Type 0 where
  pub square : IsSquare count new
  pub adds : AddsBelow P old new i

pub adding-none : (count : ℕ) (P : ℕ → ℕ → Type 0) (old : List (List Bool)) → IsSquare count old → Adding count P old old 0
adding-none count P old square = record {
  square = square;
  adds = λ m n. (λ has. inl has, λ either. ⊎_elim (λ was. was) (λ new. let never : m < 0 = new.0 in absurd (omega (arith, never))) either);
}

pub adding-more : (count : ℕ) (P : ℕ → ℕ → Type 0) (old pairs : List (List Bool)) (i : ℕ) (row new : List Bool) → i < count → row ≡ get_or pairs i row → length new ≡ length row → ((n : ℕ) → P i n → n < count) → ((n : ℕ) → n < length row → IsOn new n ↔ (IsOn row n ⊎ P i n)) → Adding count P old pairs i → Adding count P old (set pairs i new) (i + 1)
adding-more count P old pairs i row new within read len inside marks adding =
    let here : i < length pairs = subst (λ l. i < l) (sym adding.square.rows) within in
    let row_is : row ≡ get_or pairs i [] = read ∙ get_or_default pairs i row [] here in
    let wide : length row ≡ count = ap (λ (ms : List Bool). length ms) row_is ∙ adding.square.marks i within in
    let now : get_or (set pairs i new) i [] ≡ new = get_or-set_same pairs i new [] here in
    record {
      square = record {
        rows = length-set pairs i new ∙ adding.square.rows;
        marks = λ m low.
            ⊎_elim (λ same. ap (λ j. length (get_or (set pairs i new) j [])) same ∙ ap (λ (ms : List Bool). length ms) now ∙ len ∙ wide)
            (λ other. ap (λ (ms : List Bool). length ms) (get_or-set_other pairs i m new [] other) ∙ adding.square.marks m low)
            (cases_eq m i);
      };
      adds = λ m n.
          let before = adding.adds m n in
          ⊎_elim
          (λ same.
          let before_here = adding.adds i n in
          let row_has : IsOn row n ↔ HasPair pairs i n = (λ on. subst (λ (ms : List Bool). IsOn ms n) row_is on, λ has. subst (λ (ms : List Bool). IsOn ms n) (sym row_is) has) in
          subst (λ j. HasPair (set pairs i new) j n ↔ (HasPair old j n ⊎ ((j < i + 1) × P j n))) (sym same) (
            λ has.
                let on : IsOn new n = subst (λ (ms : List Bool). IsOn ms n) now has in
                let low : n < length row = subst (λ l. n < l) len (on-within new n on) in
                ⊎_elim (λ was. ⊎_elim (λ first. inl first) (λ never. inr (omega arith, never.1)) (before_here.0 (row_has.0 was)))
                (λ holds. inr (omega arith, holds))
                ((marks n low).0 on),
            λ either. subst (λ (ms : List Bool). IsOn ms n) (sym now)
                (⊎_elim (λ first.
                let was = row_has.1 (before_here.1 (inl first)) in
                (marks n (on-within row n was)).1 (inl was))
                (λ holds. (marks n (subst (λ l. n < l) (sym wide) (inside n holds.1))).1 (inr holds.1))
                either),
          ))
          (λ other.
          let kept = get_or-set_other pairs i m new [] other in (
            λ has. ⊎_elim (λ first. inl first) (λ was. inr ((let low : m < i = was.0 in omega (arith, low)), was.1)) (before.0 (subst (λ (ms : List Bool). IsOn ms n) kept has)),
            λ either. subst (λ (ms : List Bool). IsOn ms n) (sym kept)
                (before.1 (⊎_elim (λ first. inl first) (λ was. inr ((let low : m < i + 1 = was.0 in let off : m ≢ i = other in omega (arith, low, off)), was.1)) either)),
          ))
          (cases_eq m i);
    }

pub adding-all : (count : ℕ) (P : ℕ → ℕ → Type 0) (old new : List (List Bool)) (i : ℕ) → count ≤ i → ((m n : ℕ) → P m n → m < count) → Adding count P old new i → Adds P old new
adding-all count P old new i all inside adding m n = (
  λ has. ⊎_elim (λ was. inl was) (λ holds. inr holds.1) ((adding.adds m n).0 has),
  λ either. (adding.adds m n).1 (⊎_elim (λ was. inl was) (λ holds. inr ((let low = inside m n holds in omega (arith, low, all)), holds)) either),
)

-- ---- one addition after another

pub adds-then : (P Q R : ℕ → ℕ → Type 0) (old mid new : List (List Bool)) → ((m n : ℕ) → R m n ↔ (P m n ⊎ Q m n)) → Adds P old mid → Adds Q mid new → Adds R old new
adds-then P Q R old mid new splits first second m n = (
  λ has. ⊎_elim (λ was. ⊎_elim (λ o. inl o) (λ p. inr ((splits m n).1 (inl p))) ((first m n).0 was)) (λ q. inr ((splits m n).1 (inr q))) ((second m n).0 has),
  λ either. (second m n).1 (⊎_elim (λ o. inl ((first m n).1 (inl o))) (λ r. ⊎_elim (λ p. inl ((first m n).1 (inr p))) (λ q. inr q) ((splits m n).0 r)) either),
)

pub adds-like : (P Q : ℕ → ℕ → Type 0) (old new : List (List Bool)) → ((m n : ℕ) → P m n ↔ Q m n) → Adds P old new → Adds Q old new
adds-like P Q old new like adds m n = (
  λ has. ⊎_elim (λ was. inl was) (λ p. inr ((like m n).0 p)) ((adds m n).0 has),
  λ either. (adds m n).1 (⊎_elim (λ was. inl was) (λ q. inr ((like m n).1 q)) either),
)
