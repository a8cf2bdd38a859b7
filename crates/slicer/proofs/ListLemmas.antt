-- Addresses, rising, each once.
use Rattle.std.proofs.Common.{◌≡◌, ◌≢◌, ◌⊎◌, inl, inr, ⊎_elim, ℕ, zero, suc, ◌+◌, ◌-◌, ◌<◌, ◌≤◌, List, [], ◌∷◌, ◌++◌, length, get_or, set, take, sym, ◌∙◌, ap, subst, arith, length-append}
use Rattle.std.specs.Prelude.{◌↔◌, Contains}
use Rattle.std.specs.List.Sorted.{IsStrictlyIncreasing, IsNonDecreasing}
use Rattle.std.proofs.lemmas.Bool.{cases_eq}
use Rattle.std.proofs.lemmas.List.{get_or_default, take_more_set}
use Rattle.std.proofs.lemmas.List.Elements.{Contains-get_or, Contains-append_left, Contains-push, Contains-push_cases}
use Rattle.flow_graph.specs.declared.graph.FlowNode.{FlowNode}
use Rattle.flow_graph.specs.FlowGraph.{IsAt}
use Rattle.flow_graph.proofs.GraphLaws.{Has-from, Has-at, slice_get-at}
use Rattle.flow_graph.proofs.RisingLemmas.{rising-push}
use Rattle.slicer.specs.Search.{IsAmong, IsFirst}

pub among-all : (items : List ℕ) (i a : ℕ) → i ≡ length items → IsAmong items i a ↔ Contains items a
among-all items i a all = (
  λ among. let within : among.0 < length items = (let low : among.0 < i = among.1 in omega (arith, low, all)) in (among.0, within, get_or_default items among.0 a 0 within ∙ among.2),
  λ has. let within : has.0 < length items = has.1 in (has.0, omega (arith, within, all), get_or_default items has.0 0 a within ∙ has.2),
)

-- ---- addresses

-- the address of one of the first i of these nodes
abbrev pub IsAddress : List FlowNode → List ℕ → ℕ → ℕ → Type 0
IsAddress g met i a = (j : ℕ) × (j < i) × IsAt g a (get_or met j 0)

pub address-none : (g : List FlowNode) (met list : List ℕ) (a : ℕ) → Contains (take 0 list) a ↔ IsAddress g met 0 a
address-none g met list a = (λ among. let never : among.0 < 0 = among.1 in absurd (omega (arith, never)), λ is. let never : is.0 < 0 = is.1 in absurd (omega (arith, never)))

at-here : (g : List FlowNode) (n a : ℕ) (node : FlowNode) → n < length g → node ≡ get_or g n node → IsAt g a n ↔ (node.at ≡ a)
at-here g n a node within read =
    let is = slice_get-at g n node within read in
    (λ at. Has-at g n node (λ x. x.at ≡ a) is at, λ same. Has-from g n node (λ x. x.at ≡ a) is same)

pub address-more : (g : List FlowNode) (met list : List ℕ) (i n a : ℕ) (node : FlowNode) → i < length list → n ≡ get_or met i 0 → n < length g → node ≡ get_or g n node → Contains (take i list) a ↔ IsAddress g met i a → Contains (take (i + 1) (set list i node.at)) a ↔ IsAddress g met (i + 1) a
address-more g met list i n a node room read within here before =
    let taken = take_more_set list i node.at room in
    let at = at-here g n a node within here in (
      λ among. ⊎_elim (λ was. let is = before.0 was in (is.0, (let low : is.0 < i = is.1 in omega (arith, low)), is.2))
          (λ same. (i, omega arith, subst (λ m. IsAt g a m) read (at.1 same)))
          (Contains-push_cases (take i list) node.at a (subst (λ (xs : List ℕ). Contains xs a) taken among)),
      λ is. subst (λ (xs : List ℕ). Contains xs a) (sym taken)
          (let low : is.0 < i + 1 = is.1 in
          ⊎_elim (λ last. subst (λ b. Contains (take i list ++ node.at ∷ []) b) (at.0 (subst (λ m. IsAt g a m) (ap (λ j. get_or met j 0) last ∙ sym read) is.2)) (Contains-push (take i list) node.at))
          (λ other. let off : is.0 ≢ i = other in Contains-append_left (take i list) (node.at ∷ []) a (before.1 (is.0, omega (arith, low, off), is.2)))
          (cases_eq is.0 i)),
    )

pub address-all : (g : List FlowNode) (met : List ℕ) (i a : ℕ) → i ≡ length met → IsAddress g met i a ↔ ((n : ℕ) × Contains met n × IsAt g a n)
address-all g met i a all = (
  λ is. let within : is.0 < length met = (let low : is.0 < i = is.1 in omega (arith, low, all)) in (get_or met is.0 0, Contains-get_or met is.0 0 within, is.2),
  λ some. let within : some.1.0 < length met = some.1.1 in (some.1.0, omega (arith, within, all), subst (λ m. IsAt g a m) (sym (get_or_default met some.1.0 0 some.0 within ∙ some.1.2)) some.2),
)

-- ---- each once

-- what was put of the first i items of a sorted list
pub record Once (sorted xs : List ℕ) (i : ℕ) : Type 0 where
  pub rising : IsStrictlyIncreasing xs
  pub few : length xs ≤ i
  pub listed : (a : ℕ) → Contains xs a ↔ IsAmong sorted i a

pub once-none : (sorted list : List ℕ) → Once sorted (take 0 list) 0
once-none sorted list = record {
  rising = λ k within. absurd (omega (arith, within));
  few = omega arith;
  listed = λ a. (λ among. let never : among.0 < 0 = among.1 in absurd (omega (arith, never)), λ is. let never : is.0 < 0 = is.1 in absurd (omega (arith, never)));
}

before-first : (sorted : List ℕ) (i j : ℕ) → IsNonDecreasing sorted → i < length sorted → IsFirst sorted i → j < i → get_or sorted j 0 < get_or sorted i 0
before-first sorted i j rises within first low =
    let last : i - 1 + 1 ≡ i = omega (arith, low) in
    let off : get_or sorted (i - 1) 0 ≢ get_or sorted i 0 = first (i - 1) last in
    let one : get_or sorted j 0 ≤ get_or sorted (i - 1) 0 = rises j (i - 1) 0 (omega (arith, low)) (omega (arith, within)) in
    let two : get_or sorted (i - 1) 0 ≤ get_or sorted i 0 = rises (i - 1) i 0 (omega arith) within in
    omega (arith, off, one, two)

-- the item at place i isn't the one before it, and goes to the end
once-new : (sorted xs : List ℕ) (i : ℕ) → IsNonDecreasing sorted → i < length sorted → IsFirst sorted i → Once sorted xs i → Once sorted (xs ++ get_or sorted i 0 ∷ []) (i + 1)
once-new sorted xs i rises within first once = record {
  rising = rising-push xs (get_or sorted i 0) once.rising (λ k d low.
      let among = (once.listed (get_or xs k d)).0 (Contains-get_or xs k d low) in
      subst (λ m. m < get_or sorted i 0) among.2 (before-first sorted i among.0 rises within first among.1));
  few = let few = once.few in omega (arith, few, length-append xs (get_or sorted i 0 ∷ []));
  listed = λ a. (
    λ has. ⊎_elim (λ was. let is = (once.listed a).0 was in (is.0, (let low : is.0 < i = is.1 in omega (arith, low)), is.2))
        (λ same. (i, omega arith, same))
        (Contains-push_cases xs (get_or sorted i 0) a has),
    λ is.
        let low : is.0 < i + 1 = is.1 in
        ⊎_elim (λ last. subst (λ b. Contains (xs ++ get_or sorted i 0 ∷ []) b) (ap (λ j. get_or sorted j 0) (sym last) ∙ is.2) (Contains-push xs (get_or sorted i 0)))
        (λ other. let off : is.0 ≢ i = other in Contains-append_left xs (get_or sorted i 0 ∷ []) a ((once.listed a).1 (is.0, omega (arith, low, off), is.2)))
        (cases_eq is.0 i),
  );
}

same-before : (sorted : List ℕ) (i : ℕ) → ¬ IsFirst sorted i → (k : ℕ) × (k + 1 ≡ i) × (get_or sorted k 0 ≡ get_or sorted i 0)
same-before sorted zero not_first = absurd (not_first (λ k never. absurd (omega (arith, never))))
same-before sorted (suc i) not_first =
    ⊎_elim (λ same. (i, omega arith, same))
    (λ other. absurd (not_first (λ k is. subst (λ j. get_or sorted j 0 ≢ get_or sorted (suc i) 0) (let at : i ≡ k = omega (arith, is) in at) other)))
    (cases_eq (get_or sorted i 0) (get_or sorted (suc i) 0))

-- the item at place i is the one before it
once-old : (sorted xs : List ℕ) (i : ℕ) → ¬ IsFirst sorted i → Once sorted xs i → Once sorted xs (i + 1)
once-old sorted xs i not_first once =
    let same = same-before sorted i not_first in
    record {
      rising = once.rising;
      few = let few = once.few in omega (arith, few);
      listed = λ a. (
        λ has. let is = (once.listed a).0 has in (is.0, (let low : is.0 < i = is.1 in omega (arith, low)), is.2),
        λ is.
            let low : is.0 < i + 1 = is.1 in
            (once.listed a).1 (⊎_elim (λ last. (same.0, (let before : same.0 + 1 ≡ i = same.1 in omega (arith, before)), same.2 ∙ ap (λ j. get_or sorted j 0) (sym last) ∙ is.2))
            (λ other. let off : is.0 ≢ i = other in (is.0, omega (arith, low, off), is.2))
            (cases_eq is.0 i)),
      );
    }

first_or : (sorted : List ℕ) (i : ℕ) → IsFirst sorted i ⊎ (¬ IsFirst sorted i)
first_or sorted zero = inl (λ k never. absurd (omega (arith, never)))
first_or sorted (suc i) =
    ⊎_elim (λ same. inr (λ first. first i (omega arith) same))
    (λ other. inl (λ k is. subst (λ j. get_or sorted j 0 ≢ get_or sorted (suc i) 0) (let at : i ≡ k = omega (arith, is) in at) other))
    (cases_eq (get_or sorted i 0) (get_or sorted (suc i) 0))

pub once-more : (sorted old new : List ℕ) (i : ℕ) → IsNonDecreasing sorted → i < length sorted → (IsFirst sorted i → new ≡ old ++ get_or sorted i 0 ∷ []) → (¬ IsFirst sorted i → new ≡ old) → Once sorted old i → Once sorted new (i + 1)
once-more sorted old new i rises within first again once =
    ⊎_elim (λ is. subst (λ (xs : List ℕ). Once sorted xs (i + 1)) (sym (first is)) (once-new sorted old i rises within is once))
    (λ is. subst (λ (xs : List ℕ). Once sorted xs (i + 1)) (sym (again is)) (once-old sorted old i is once))
    (first_or sorted i)

pub first-at : (sorted : List ℕ) (i k : ℕ) → k + 1 ≡ i → get_or sorted k 0 ≢ get_or sorted i 0 → IsFirst sorted i
first-at sorted i k is other j at = subst (λ m. get_or sorted m 0 ≢ get_or sorted i 0) (let same : k ≡ j = omega (arith, is, at) in same) other
