-- The places that are used.
use Rattle.std.proofs.Common.{◌≡◌, ◌≢◌, ◌⊎◌, inl, inr, ⊎_elim, ℕ, zero, suc, ◌+◌, ◌<◌, ◌≤◌, Bool, true, false, not, cond, List, [], ◌∷◌, ◌++◌, length, get_or, replicate, refl, sym, ◌∙◌, ap, subst, arith, eq-eqb, eqb-true}
use Rattle.std.specs.Prelude.{◌↔◌, ◌==◌, All, Contains}
use Rattle.std.proofs.lemmas.Bool.{cases_eq}
use Rattle.std.proofs.lemmas.List.Elements.{Contains-get_or, Contains-append_left, Contains-push, Contains-push_cases}
use Rattle.flow_graph.specs.declared.graph.FlowNode.{FlowNode}
use Rattle.flow_graph.specs.FlowGraph.{MayUse}
use Rattle.flow_graph.proofs.GraphLaws.{Has-from, Has-at, Has-within, slice_get-at}
use Rattle.flow_graph.proofs.WalkLaws.{not_true}
use Rattle.flow_graph.proofs.WalkLemmas.{IsBelow}
use Rattle.dep_graph.specs.DepGraph.{DataEdge}
use Rattle.dep_graph.specs.Edges.{IsUsed, EdgeBy, OrdinaryEdge, ListsPairs, HasPair, Adds, ArrivesAt, ReachesFrom}
use Rattle.dep_graph.proofs.PairLemmas.{none-has}
use Rattle.dep_graph.proofs.ListingLemmas.{lists-like}

-- the first i of these, other than ESP, come after the old ones
abbrev pub HasUses : List ℕ → List ℕ → List ℕ → ℕ → Type 0
HasUses old uses new i = (place : ℕ) → Contains new place ↔ (Contains old place ⊎ ((place ≢ 4) × IsBelow uses i place))

pub uses-none : (old uses : List ℕ) → HasUses old uses old 0
uses-none old uses place = (λ in_old. inl in_old, λ either. ⊎_elim (λ was. was) (λ new. let never : new.1.0 < 0 = new.1.1 in absurd (omega (arith, never))) either)

below-other : (uses : List ℕ) (i place j : ℕ) → j < i + 1 → (j ≢ i) → j < i
below-other uses i place j below off = omega (arith, below, off)

pub uses-more : (old uses mid new : List ℕ) (i use_place : ℕ) → use_place ≡ get_or uses i 0 → new ≡ cond (not (use_place == 4)) (mid ++ use_place ∷ []) mid → HasUses old uses mid i → HasUses old uses new (i + 1)
uses-more old uses mid new i here read is before place =
    ⊎_elim
    (λ four.
    let no : not (here == 4) ≡ false = ap not (eq-eqb here 4 four) in
    let same : new ≡ mid = is ∙ ap (λ b. cond b (mid ++ here ∷ []) mid) no in
    subst (λ xs. Contains xs place ↔ (Contains old place ⊎ ((place ≢ 4) × IsBelow uses (i + 1) place))) (sym same) (
      λ among. ⊎_elim (λ was. inl was) (λ low. inr (low.0, (low.1.0, (let b : low.1.0 < i = low.1.1 in omega (arith, b)), low.1.2))) ((before place).0 among),
      λ either. (before place).1 (⊎_elim (λ was. inl was)
          (λ low. inr (low.0, (low.1.0, below-other uses i place low.1.0 low.1.1 (λ last. low.0 (sym low.1.2 ∙ ap (λ j. get_or uses j 0) last ∙ sym read ∙ four)), low.1.2))) either),
    ))
    (λ other.
    let pushes : not (here == 4) ≡ true = not_true (here == 4) (λ t. other (eqb-true here 4 t)) in
    let same : new ≡ mid ++ here ∷ [] = is ∙ ap (λ b. cond b (mid ++ here ∷ []) mid) pushes in
    subst (λ xs. Contains xs place ↔ (Contains old place ⊎ ((place ≢ 4) × IsBelow uses (i + 1) place))) (sym same) (
      λ among. ⊎_elim (λ old_one. ⊎_elim (λ was. inl was) (λ low. inr (low.0, (low.1.0, (let b : low.1.0 < i = low.1.1 in omega (arith, b)), low.1.2))) ((before place).0 old_one))
          (λ same_place. inr ((λ four. other (same_place ∙ four)), (i, omega arith, sym read ∙ same_place)))
          (Contains-push_cases mid here place among),
      λ either. ⊎_elim (λ was. Contains-append_left mid (here ∷ []) place ((before place).1 (inl was)))
          (λ low. ⊎_elim (λ last. subst (λ p. Contains (mid ++ here ∷ []) p) (read ∙ ap (λ j. get_or uses j 0) (sym last) ∙ low.1.2) (Contains-push mid here))
          (λ off. Contains-append_left mid (here ∷ []) place ((before place).1 (inr (low.0, (low.1.0, below-other uses i place low.1.0 low.1.1 off, low.1.2)))))
          (cases_eq low.1.0 i)) either,
    ))
    (cases_eq here 4)

-- the places that one of the first i nodes may use
abbrev pub UsedBelow : List FlowNode → ℕ → ℕ → Type 0
UsedBelow g i place = (place ≢ 4) × ((n : ℕ) × (n < i) × MayUse g place n)

pub used-none : (g : List FlowNode) (places : List ℕ) (place : ℕ) → places ≡ [] → Contains places place ↔ UsedBelow g 0 place
used-none g places place none =
    (λ among. let never : among.0 < length places = among.1 in absurd (omega (arith, never, ap (λ (xs : List ℕ). length xs) none)), λ used. let never : used.1.0 < 0 = used.1.1 in absurd (omega (arith, never)))

pub used-more : (g : List FlowNode) (old new : List ℕ) (i : ℕ) (node : FlowNode) (uses : List ℕ) (place : ℕ) → i < length g → node ≡ get_or g i node → uses ≡ node.may_use → (Contains old place ↔ UsedBelow g i place) → (Contains new place ↔ (Contains old place ⊎ ((place ≢ 4) × Contains uses place))) → Contains new place ↔ UsedBelow g (i + 1) place
used-more g old new i node uses place within read same before adds =
    let is = slice_get-at g i node within read in (
      λ among. ⊎_elim (λ was. let used = before.0 was in (used.0, (used.1.0, (let b : used.1.0 < i = used.1.1 in omega (arith, b)), used.1.2)))
          (λ new_use. (new_use.0, (i, omega arith, Has-from g i node (λ o. Contains o.may_use place) is (subst (λ xs. Contains xs place) same new_use.1))))
          (adds.0 among),
      λ used. ⊎_elim (λ last. adds.1 (inr (used.0, subst (λ xs. Contains xs place) (sym same) (Has-at g i node (λ o. Contains o.may_use place) is (subst (λ n. MayUse g place n) last used.1.2)))))
          (λ off. adds.1 (inl (before.1 (used.0, (used.1.0, (let b : used.1.0 < i + 1 = used.1.1 in let o : used.1.0 ≢ i = off in omega (arith, b, o)), used.1.2)))))
          (cases_eq used.1.0 i),
    )

pub used-all : (g : List FlowNode) (i place : ℕ) → length g ≤ i → UsedBelow g i place ↔ IsUsed g place
used-all g i place all = (
  λ used. (used.0, (used.1.0, used.1.2)),
  λ used. (used.0, (used.1.0, (let within = Has-within g used.1.0 (λ o. Contains o.may_use place) used.1.1 in omega (arith, within, all)), used.1.1)),
)

-- ---- the two lists of edges

pub ordinary-edges : (g nodes : List FlowNode) (places slice : List ℕ) (edges items : List (ℕ × ℕ)) → nodes ≡ g → slice ≡ places → items ≡ edges → ((place : ℕ) → Contains places place ↔ IsUsed nodes place) → ListsPairs (EdgeBy nodes slice) edges → ListsPairs (OrdinaryEdge g) items
ordinary-edges g nodes places slice edges items same slice_is items_is used lists =
    subst (λ (ns : List FlowNode). ListsPairs (OrdinaryEdge ns) items) same
    (subst (λ (es : List (ℕ × ℕ)). ListsPairs (OrdinaryEdge nodes) es) (sym items_is)
    (lists-like (EdgeBy nodes slice) (OrdinaryEdge nodes) edges
    (λ m n. (
      λ e. (e.0, ((used e.0).0 (subst (λ xs. Contains xs e.0) slice_is e.1)).0, e.2),
      λ e. (e.0, subst (λ xs. Contains xs e.0) (sym slice_is) ((used e.0).1 (e.1, (n, e.2.uses))), e.2),
    ))
    lists))

pub one-place : (place one : ℕ) → Contains (one ∷ []) place → one ≡ place
one-place place one (zero, within, is) = is
one-place place one (suc k, within, is) = absurd (omega arith)

pub sp-edges : (g nodes : List FlowNode) (edges items : List (ℕ × ℕ)) → nodes ≡ g → items ≡ edges → ListsPairs (EdgeBy nodes (4 ∷ [])) edges → ListsPairs (DataEdge g 4) items
sp-edges g nodes edges items same items_is lists =
    subst (λ (ns : List FlowNode). ListsPairs (DataEdge ns 4) items) same
    (subst (λ (es : List (ℕ × ℕ)). ListsPairs (DataEdge nodes 4) es) (sym items_is)
    (lists-like (EdgeBy nodes (4 ∷ [])) (DataEdge nodes 4) edges
    (λ m n. (λ e. subst (λ p. DataEdge nodes p m n) (sym (one-place e.0 4 e.1)) e.2, λ e. (4, (0, omega arith, refl), e)))
    lists))

-- ---- all numbers

pub numbers-like : (count : ℕ) (xs items : List ℕ) → xs ≡ items → ((n : ℕ) → Contains items n ↔ (n < count)) → (n : ℕ) → Contains xs n ↔ (n < count)
numbers-like count xs items same all n = subst (λ ys. Contains ys n ↔ (n < count)) (sym same) (all n)

pub numbers-inside : (count : ℕ) (xs : List ℕ) → ((n : ℕ) → Contains xs n ↔ (n < count)) → All (λ n. n < count) xs
numbers-inside count xs all k d within = (all (get_or xs k d)).0 (Contains-get_or xs k d within)

pub reaches-from : (g nodes : List FlowNode) (place : ℕ) (targets : List ℕ) (count : ℕ) (old new items : List (List Bool)) → nodes ≡ g → old ≡ replicate count (replicate count false) → items ≡ new → ((n : ℕ) → Contains targets n ↔ (n < length nodes)) → Adds (ArrivesAt nodes place targets) old new → (node from : ℕ) → HasPair items from node ↔ ReachesFrom g place from node
reaches-from g nodes place targets count old new items same none items_is all adds node from =
    subst (λ (ns : List FlowNode). HasPair items from node ↔ ReachesFrom ns place from node) same
    (subst (λ (ps : List (List Bool)). HasPair ps from node ↔ ReachesFrom nodes place from node) (sym items_is) (
      λ has. ⊎_elim (λ was. absurd (none-has count old none from node was))
          (λ a. record { defines = a.defines; within = (all node).0 a.target; arrives = a.arrives })
          ((adds from node).0 has),
      λ r. (adds from node).1 (inr (record { defines = r.defines; target = (all node).1 r.within; arrives = r.arrives })),
    ))
