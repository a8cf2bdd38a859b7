-- Lists that rise by neighbours, and what they list.
use Rattle.std.proofs.Common.{◌≡◌, inl, inr, ⊎_elim, ℕ, suc, ◌+◌, ◌<◌, List, [], ◌∷◌, length, get_or, subst, arith}
use Rattle.std.specs.Prelude.{◌↔◌, Contains}
use Rattle.std.specs.List.Sorted.{IsStrictlyIncreasing}
use Rattle.alocs.proofs.MemberLaws.{contains-cases, contains-none}
use Rattle.flow_graph.specs.declared.graph.FlowNode.{FlowNode}
use Rattle.dep_graph.specs.Edges.{IsBefore, ListsPairs}
use Rattle.chops.specs.Chops.{AreAddresses}
use Rattle.rounds.proofs.OrderedLemmas.{Rise, same_list}

module _ {A : Type 0} (before : A → A → Type 0) (further : (a b c : A) → before a b → before b c → before a c) (d : A) where
  abbrev Neighbours : List A → Type 0
  Neighbours xs = (k : ℕ) → k + 1 < length xs → before (get_or xs k d) (get_or xs (k + 1) d)

  behind : (x : A) (xs : List A) → Neighbours (x ∷ xs) → Neighbours xs
  behind x xs next k low =
      let there : suc k + 1 ≡ suc (k + 1) = omega arith in
      subst (λ n. before (get_or xs k d) (get_or (x ∷ xs) n d)) there (next (suc k) (omega (arith, low)))

  above : (x : A) (xs : List A) → Neighbours (x ∷ xs) → (y : A) → Contains xs y → before x y
  above x [] next y has = absurd (contains-none y has)
  above x (z ∷ zs) next y has =
      let here : before x z = next 0 (omega arith) in
      ⊎_elim
      (λ (e : z ≡ y). subst (λ v. before x v) e here)
      (λ later. further x z y here (above z zs (behind x (z ∷ zs) next) y later))
      (contains-cases z zs y has)

  pub rise : (xs : List A) → Neighbours xs → Rise before xs
  rise [] next = tt
  rise (x ∷ xs) next = (above x xs next, rise xs (behind x xs next))

-- -- Numbers

abbrev is_less : ℕ → ℕ → Type 0
is_less a b = a < b

pub one_rising : (xs ys : List ℕ) → IsStrictlyIncreasing xs → IsStrictlyIncreasing ys → ((a : ℕ) → Contains xs a ↔ Contains ys a) → xs ≡ ys
one_rising xs ys a b like =
    same_list is_less (λ m n low high. omega (arith, low, high)) xs ys
    (rise is_less (λ m n o low high. omega (arith, low, high)) 0 xs a) (rise is_less (λ m n o low high. omega (arith, low, high)) 0 ys b)
    (λ n has. (like n).0 has) (λ n has. (like n).1 has)

-- what is listed in order settles the list
pub one_listing : (g : List FlowNode) (P Q : ℕ → Type 0) (xs ys : List ℕ) → ((n : ℕ) → P n ↔ Q n) → AreAddresses g P xs → AreAddresses g Q ys → xs ≡ ys
one_listing g P Q xs ys like a b = one_rising xs ys a.rising b.rising (λ at. (
  λ has. let h = (a.listed at).0 has in (b.listed at).1 (h.0, h.1, (like h.0).0 h.2),
  λ has. let h = (b.listed at).0 has in (a.listed at).1 (h.0, h.1, (like h.0).1 h.2),
))

-- -- Pairs

not_both : (a b : ℕ × ℕ) → IsBefore a b → IsBefore b a → ⊥
not_both a b h k =
    ⊎_elim (λ (low : a.0 < b.0). ⊎_elim (λ (high : b.0 < a.0). omega (arith, low, high)) (λ same. let e = same.0 in omega (arith, low, e)) k)
    (λ same. let e = same.0 in let low = same.1 in ⊎_elim (λ (high : b.0 < a.0). omega (arith, e, high)) (λ other. let high = other.1 in omega (arith, low, high)) k) h

further_pair : (a b c : ℕ × ℕ) → IsBefore a b → IsBefore b c → IsBefore a c
further_pair a b c h k =
    ⊎_elim
    (λ (low : a.0 < b.0). ⊎_elim (λ (high : b.0 < c.0). inl (omega (arith, low, high))) (λ other. let e = other.0 in inl (omega (arith, low, e))) k)
    (λ same. let e = same.0 in let low = same.1 in ⊎_elim (λ (high : b.0 < c.0). inl (omega (arith, e, high))) (λ other. let f = other.0 in let high = other.1 in inr (omega (arith, e, f), omega (arith, low, high))) k)
    h

pub one_pairs : (P : ℕ → ℕ → Type 0) (xs ys : List (ℕ × ℕ)) → ListsPairs P xs → ListsPairs P ys → xs ≡ ys
one_pairs P xs ys a b =
    same_list IsBefore not_both xs ys (rise IsBefore further_pair (0, 0) xs a.rising) (rise IsBefore further_pair (0, 0) ys b.rising)
    (λ p has. (b.listed p.0 p.1).1 ((a.listed p.0 p.1).0 has)) (λ p has. (a.listed p.0 p.1).1 ((b.listed p.0 p.1).0 has))
