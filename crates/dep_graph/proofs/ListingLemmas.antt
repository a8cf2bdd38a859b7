-- Marked pairs, listed in order.
use Rattle.std.proofs.Common.{◌≡◌, ◌≢◌, ◌⊎◌, inl, inr, ⊎_elim, ℕ, ◌+◌, ◌<◌, Bool, true, false, cond, List, [], ◌∷◌, ◌++◌, length, get_or, replicate, refl, sym, ap, subst, arith, IsTrue, length-append}
use Rattle.std.specs.Prelude.{◌↔◌, All, Contains}
use Rattle.std.proofs.lemmas.Bool.{cases_eq}
use Rattle.std.proofs.lemmas.List.{get_or_append_left, get_or_push}
use Rattle.std.proofs.lemmas.List.Elements.{All-push, All-weaker, All-get_or, Contains-append_left, Contains-push, Contains-push_cases}
use Rattle.flow_graph.proofs.WalkLemmas.{on-within}
use Rattle.dep_graph.specs.Edges.{HasPair, IsSquare, IsBefore, IsRising, ListsPairs, Listing, Adds}
use Rattle.dep_graph.proofs.PairLemmas.{has-within, none-has}

-- a pair above all others goes last
rising-push : (xs : List (ℕ × ℕ)) (x : ℕ × ℕ) → IsRising xs → All (λ y. IsBefore y x) xs → IsRising (xs ++ x ∷ [])
rising-push xs x rising below k within =
    let len = length-append xs (x ∷ []) in
    ⊎_elim
    (λ last.
    let here : k < length xs = omega (arith, last) in
    let left = get_or_append_left xs (x ∷ []) (0, 0) k here in
    let right = get_or_push xs x (0, 0) (k + 1) (sym last) in
    let low = All-get_or (λ y. IsBefore y x) xs k (0, 0) here below in
    subst (λ (m : ℕ × ℕ). IsBefore m (get_or (xs ++ x ∷ []) (k + 1) (0, 0))) (sym left) (subst (λ (m : ℕ × ℕ). IsBefore (get_or xs k (0, 0)) m) (sym right) low))
    (λ other.
    let off : k + 1 ≢ length xs = other in
    let there : k + 1 < length xs = omega (arith, len, within, off) in
    let left = get_or_append_left xs (x ∷ []) (0, 0) k (omega (arith, there)) in
    let right = get_or_append_left xs (x ∷ []) (0, 0) (k + 1) there in
    subst (λ (m : ℕ × ℕ). IsBefore m (get_or (xs ++ x ∷ []) (k + 1) (0, 0))) (sym left) (subst (λ (m : ℕ × ℕ). IsBefore (get_or xs k (0, 0)) m) (sym right) (rising k there)))
    (cases_eq (k + 1) (length xs))

pub listing-none : (P : ℕ → ℕ → Type 0) → Listing P [] 0 0
listing-none P = record {
  rising = λ k within. absurd (omega (arith, within));
  below = λ k d within. absurd (omega (arith, within));
  listed = λ a b. (
    λ among. let never : among.0 < 0 = among.1 in absurd (omega (arith, never)),
    λ low. ⊎_elim (λ first. absurd (omega (arith, first))) (λ second. let never : b < 0 = second.1 in absurd (omega (arith, never))) low.0,
  );
}

next-before : (x : ℕ × ℕ) (m n : ℕ) → IsBefore x (m, n) → IsBefore x (m, n + 1)
next-before x m n low = ⊎_elim (λ first. inl first) (λ second. inr (second.0, (let l : x.1 < n = second.1 in omega (arith, l)))) low

before-next : (a b m n : ℕ) → IsBefore (a, b) (m, n + 1) → IsBefore (a, b) (m, n) ⊎ ((a ≡ m) × (b ≡ n))
before-next a b m n low =
    ⊎_elim (λ first. inl (inl first))
    (λ second. ⊎_elim (λ same. inr (second.0, same)) (λ other. inl (inr (second.0, (let l : b < n + 1 = second.1 in let off : b ≢ n = other in omega (arith, l, off))))) (cases_eq b n))
    low

listing-push : (P : ℕ → ℕ → Type 0) (xs : List (ℕ × ℕ)) (m n : ℕ) → P m n → Listing P xs m n → Listing P (xs ++ (m, n) ∷ []) m (n + 1)
listing-push P xs m n holds l = record {
  rising = rising-push xs (m, n) l.rising l.below;
  below = All-push (λ x. IsBefore x (m, n + 1)) xs (m, n) (All-weaker (λ x. IsBefore x (m, n)) (λ x. IsBefore x (m, n + 1)) (λ x low. next-before x m n low) xs l.below) (inr (refl, omega arith));
  listed = λ a b. (
    λ among. ⊎_elim (λ old. let was = (l.listed a b).0 old in (next-before (a, b) m n was.0, was.1))
        (λ same.
        let first : m ≡ a = ap (λ (x : ℕ × ℕ). x.0) same in
        let second : n ≡ b = ap (λ (x : ℕ × ℕ). x.1) same in
        (inr (sym first, omega (arith, second)), subst (λ j. P a j) second (subst (λ j. P j n) first holds)))
        (Contains-push_cases xs (m, n) (a, b) among),
    λ low. ⊎_elim (λ before. Contains-append_left xs ((m, n) ∷ []) (a, b) ((l.listed a b).1 (before, low.1)))
        (λ same. subst (λ j. Contains (xs ++ (m, n) ∷ []) (a, j)) (sym same.1) (subst (λ j. Contains (xs ++ (m, n) ∷ []) (j, n)) (sym same.0) (Contains-push xs (m, n))))
        (before-next a b m n low.0),
  );
}

listing-skip : (P : ℕ → ℕ → Type 0) (xs : List (ℕ × ℕ)) (m n : ℕ) → ¬ P m n → Listing P xs m n → Listing P xs m (n + 1)
listing-skip P xs m n fails l = record {
  rising = l.rising;
  below = All-weaker (λ x. IsBefore x (m, n)) (λ x. IsBefore x (m, n + 1)) (λ x low. next-before x m n low) xs l.below;
  listed = λ a b. (
    λ among. let was = (l.listed a b).0 among in (next-before (a, b) m n was.0, was.1),
    λ low. ⊎_elim (λ before. (l.listed a b).1 (before, low.1))
        (λ same. absurd (fails (subst (λ j. P m j) same.1 (subst (λ j. P j b) same.0 low.1))))
        (before-next a b m n low.0),
  );
}

pub listing-more : (P : ℕ → ℕ → Type 0) (xs ys : List (ℕ × ℕ)) (m n : ℕ) (holds : Bool) → IsTrue holds ↔ P m n → ys ≡ cond holds (xs ++ (m, n) ∷ []) xs → Listing P xs m n → Listing P ys m (n + 1)
listing-more P xs ys m n true holds is l = subst (λ (zs : List (ℕ × ℕ)). Listing P zs m (n + 1)) (sym is) (listing-push P xs m n (holds.0 refl) l)
listing-more P xs ys m n false holds is l = subst (λ (zs : List (ℕ × ℕ)). Listing P zs m (n + 1)) (sym is) (listing-skip P xs m n (λ p. let on = holds.1 p in absurd (cc)) l)

-- a row is over where the fact holds of no pair from here on in it
pub listing-row : (P : ℕ → ℕ → Type 0) (xs : List (ℕ × ℕ)) (m n : ℕ) → ((b : ℕ) → P m b → b < n) → Listing P xs m n → Listing P xs (m + 1) 0
listing-row P xs m n over l = record {
  rising = l.rising;
  below = All-weaker (λ x. IsBefore x (m, n)) (λ x. IsBefore x (m + 1, 0)) (λ x low. ⊎_elim (λ first. inl (let f : x.0 < m = first in omega (arith, f))) (λ second. inl (let same : x.0 ≡ m = second.0 in omega (arith, same))) low) xs l.below;
  listed = λ a b. (
    λ among. let was = (l.listed a b).0 among in (⊎_elim (λ first. inl (let f : a < m = first in omega (arith, f))) (λ second. inl (let same : a ≡ m = second.0 in omega (arith, same))) was.0, was.1),
    λ low. (l.listed a b).1 (
      ⊎_elim (λ first.
          ⊎_elim (λ same. inr (same, over b (subst (λ j. P j b) same low.1)))
          (λ other. inl (let f : a < m + 1 = first in let off : a ≢ m = other in omega (arith, f, off)))
          (cases_eq a m))
          (λ second. let never : b < 0 = second.1 in absurd (omega (arith, never)))
          low.0,
      low.1,
    ),
  );
}

pub listing-all : (P : ℕ → ℕ → Type 0) (xs : List (ℕ × ℕ)) (m : ℕ) → ((a b : ℕ) → P a b → a < m) → Listing P xs m 0 → ListsPairs P xs
listing-all P xs m all l = record {
  rising = l.rising;
  listed = λ a b. (λ among. ((l.listed a b).0 among).1, λ holds. (l.listed a b).1 (inl (all a b holds), holds));
}

pub lists-like : (P Q : ℕ → ℕ → Type 0) (xs : List (ℕ × ℕ)) → ((m n : ℕ) → P m n ↔ Q m n) → ListsPairs P xs → ListsPairs Q xs
lists-like P Q xs like l = record {
  rising = l.rising;
  listed = λ a b. (λ among. (like a b).0 ((l.listed a b).0 among), λ holds. (l.listed a b).1 ((like a b).1 holds));
}

pub row-within : (count : ℕ) (pairs : List (List Bool)) (m n : ℕ) → IsSquare count pairs → HasPair pairs m n → n < count
row-within count pairs m n square has =
    let low : m < count = subst (λ l. m < l) square.rows (has-within pairs m n has) in
    subst (λ l. n < l) (square.marks m low) (on-within (get_or pairs m []) n has)

-- pairs added to none, listed
pub listed-added : (P : ℕ → ℕ → Type 0) (count : ℕ) (old new slice : List (List Bool)) (edges : List (ℕ × ℕ)) → old ≡ replicate count (replicate count false) → slice ≡ new → Adds P old new → ListsPairs (HasPair slice) edges → ListsPairs P edges
listed-added P count old new slice edges none same adds listed =
    lists-like (HasPair slice) P edges
    (λ m n. (
      λ has. ⊎_elim (λ was. absurd (none-has count old none m n was)) (λ p. p) ((adds m n).0 (subst (λ (ps : List (List Bool)). HasPair ps m n) same has)),
      λ p. subst (λ (ps : List (List Bool)). HasPair ps m n) (sym same) ((adds m n).1 (inr p)),
    ))
    listed
