-- The check of a map, entry by entry.
use Rattle.std.proofs.Common.{◌≡◌, ℕ, ◌+◌, ◌<◌, ◌≤◌, Bool, true, false, ◌&&◌, List, [], ◌∷◌, ◌++◌, take, length, get_or, refl, sym, ap, ◌∙◌}
use Rattle.std.specs.List.{filter, flat_map, list_all}
use Rattle.std.specs.Borrow.{Bor}
use Rattle.std.proofs.lemmas.Bool.{cond-false, and_left, and_right, and_from}
use Rattle.std.proofs.lemmas.List.{map_more, take_all}
use Rattle.std.proofs.lemmas.List.Folds.{list_all-append, list_all_at, list_all-map}
use Rattle.std.proofs.lemmas.Grind.{flat_map-append}
use Rattle.sweeps.specs.Meaning.{Meaning}
use Rattle.sweeps.specs.Sweeps.{others_of, successors_of, has_above, is_closed}
use Rattle.sweeps.specs.declared.kept.Kept.{Kept}
use Rattle.sweeps.specs.Kept.{table_of, kept_table}

-- a filter that takes nothing
pub filters_none : {X : Type 0} (test : X → Bool) (xs : List X) → ((x : X) → test x ≡ false) → filter test xs ≡ []
filters_none test [] none = refl
filters_none test (x ∷ xs) none = cond-false (test x) _ _ (none x) ∙ filters_none test xs none

list_all-flat_map : {X Y : Type 0} (test : Y → Bool) (f : X → List Y) (xs : List X) → list_all test (flat_map f xs) ≡ list_all (λ x. list_all test (f x)) xs
list_all-flat_map test f [] = refl
list_all-flat_map test f (x ∷ xs) = list_all-append test (f x) (flat_map f xs) ∙ ap (λ b. list_all test (f x) && b) (list_all-flat_map test f xs)

module _ {P S : Type 0} (m : Meaning P S) where
  pub no_others : (p : P) (xs : List (Bor P × Bor S)) (others : List (Bor P × Bor S)) → ((q : P) → m.concerns p q ≡ false) → others ≡ [] → table_of others ≡ others_of m (table_of xs) p
  no_others p xs others none is = ap table_of is ∙ sym (filters_none (λ e. m.concerns p e.0) (table_of xs) (λ e. none e.0))

  pub no_others_kept : (p : P) (ks : List (Kept P S)) (others : List (Bor P × Bor S)) → ((q : P) → m.concerns p q ≡ false) → others ≡ [] → table_of others ≡ others_of m (kept_table ks) p
  no_others_kept p ks others none is = ap table_of is ∙ sym (filters_none (λ e. m.concerns p e.0) (kept_table ks) (λ e. none e.0))

  module _ (p : P) (s : S) (xs : List (Bor P × Bor S)) where
    abbrev entry_above : Bool
    entry_above = has_above m (table_of xs) (p, s)

    abbrev are_above : List (P × S) → Bool
    are_above es = list_all (has_above m (table_of xs)) es

    abbrev next : List (Bor P × Bor S) → List (P × S)
    next ys = flat_map (successors_of m (table_of xs)) (table_of ys)

    -- what the check knows of the first entries
    abbrev pub AreAbove : ℕ → Type 0
    AreAbove i = (entry_above ≡ true) × (are_above (next (take i xs)) ≡ true)

    pub not_entry : (b : Bool) → b ≡ entry_above → b ≡ false → false ≡ is_closed m p s (table_of xs)
    unfolding is_closed
    not_entry b is isnt = sym (and_left entry_above _ (sym is ∙ isnt))

    pub none_yet : (b : Bool) → b ≡ entry_above → b ≡ true → AreAbove 0
    none_yet b is holds = (sym is ∙ holds, refl)

    pub one_more : (i : ℕ) (x : Bor P × Bor S) (found : List (P × S)) (b : Bool) → i < length xs → x ≡ get_or xs i x → found ≡ successors_of m (table_of xs) (x.0.now, x.1.now) → b ≡ are_above found → b ≡ true
        → AreAbove i → AreAbove (i + 1)
    one_more i x found b within here is above holds a =
        let last : are_above (successors_of m (table_of xs) (x.0.now, x.1.now)) ≡ true = ap are_above (sym is) ∙ sym above ∙ holds in
        let step : next (take (i + 1) xs) ≡ next (take i xs) ++ (successors_of m (table_of xs) (x.0.now, x.1.now) ++ []) =
        ap (flat_map (successors_of m (table_of xs))) (map_more (λ (e : Bor P × Bor S). (e.0.now, e.1.now)) xs i x within)
        ∙ flat_map-append (successors_of m (table_of xs)) (table_of (take i xs)) _ ∙ ap (λ (y : Bor P × Bor S). next (take i xs) ++ (successors_of m (table_of xs) (y.0.now, y.1.now) ++ [])) (sym here) in (
          a.0,
          ap are_above step ∙ list_all-append (has_above m (table_of xs)) (next (take i xs)) _
              ∙ and_from _ _ a.1 (list_all-append (has_above m (table_of xs)) (successors_of m (table_of xs) (x.0.now, x.1.now)) [] ∙ and_from _ _ last refl),
        )

    pub not_all : (i : ℕ) (x : Bor P × Bor S) (found : List (P × S)) (b : Bool) → i < length xs → x ≡ get_or xs i x → found ≡ successors_of m (table_of xs) (x.0.now, x.1.now) → b ≡ are_above found → b ≡ false
        → false ≡ is_closed m p s (table_of xs)
    unfolding is_closed
    not_all i x found b within here is above isnt =
        let test : Bor P × Bor S → Bool = λ y. are_above (successors_of m (table_of xs) (y.0.now, y.1.now)) in
        let bad : test (get_or xs i x) ≡ false = ap test (sym here) ∙ ap are_above (sym is) ∙ sym above ∙ isnt in
        sym (and_right entry_above _ (list_all-flat_map (has_above m (table_of xs)) (successors_of m (table_of xs)) (table_of xs)
        ∙ list_all-map (λ e. are_above (successors_of m (table_of xs) e)) (λ (e : Bor P × Bor S). (e.0.now, e.1.now)) xs ∙ list_all_at test xs i x within bad))

    pub all_above : (i : ℕ) → length xs ≤ i → AreAbove i → true ≡ is_closed m p s (table_of xs)
    unfolding is_closed
    all_above i end a = sym (and_from _ _ a.0 (ap (λ ys. are_above (next ys)) (sym (take_all i xs end)) ∙ a.1))
