-- Laws of walks over the definitions alone.
use Rattle.std.proofs.Common.{◌≡◌, ◌≢◌, ◌⊎◌, inl, inr, ⊎_elim, ℕ, zero, suc, ◌<◌, Bool, true, false, not, eq-eqb, eqb-true, arith, List, [], ◌∷◌, ◌++◌, length, replicate, refl, sym, subst, IsTrue}
use Rattle.std.specs.Prelude.{◌↔◌, ◌==◌, Contains}
use Rattle.std.specs.List.{AllByRecursion}
use Rattle.std.proofs.lemmas.List.{get_or-replicate}
use Rattle.flow_graph.specs.declared.graph.FlowNode.{FlowNode}
use Rattle.flow_graph.specs.FlowGraph.{IsEnd, IsStep, Walk, Reaches, Avoids, Escapes}
use Rattle.flow_graph.specs.Walks.{IsOn, Arrives, marks_avoiding}
use Rattle.flow_graph.proofs.GraphLaws.{Has-within}

-- a walk with one step more
pub walk-more : (g : List FlowNode) (m : ℕ) (inner : List ℕ) (n o : ℕ) → Walk g m inner n → IsStep g n o → Walk g m (inner ++ n ∷ []) o
walk-more g m [] n o walk to = (walk, to)
walk-more g m (i ∷ inner) n o walk to = (walk.0, walk-more g i inner n o walk.1 to)

pub all-more : (P : ℕ → Type 0) (xs : List ℕ) (x : ℕ) → AllByRecursion P xs → P x → AllByRecursion P (xs ++ x ∷ [])
all-more P [] x all here = (here, tt)
all-more P (y ∷ ys) x all here = (all.0, all-more P ys x all.1 here)

pub all-last : (P : ℕ → Type 0) (xs : List ℕ) (x : ℕ) → AllByRecursion P (xs ++ x ∷ []) → AllByRecursion P xs × P x
all-last P [] x all = (tt, all.0)
all-last P (y ∷ ys) x all = let rest = all-last P ys x all.1 in ((all.0, rest.0), rest.1)

pub all-weaker : (P Q : ℕ → Type 0) → ((n : ℕ) → P n → Q n) → (xs : List ℕ) → AllByRecursion P xs → AllByRecursion Q xs
all-weaker P Q weaker [] all = tt
all-weaker P Q weaker (x ∷ xs) all = (weaker x all.0, all-weaker P Q weaker xs all.1)

-- each inner node is a node of the graph
pub inner-within : (g : List FlowNode) (m : ℕ) (inner : List ℕ) (n : ℕ) → Walk g m inner n → AllByRecursion (λ i. i < length g) inner
inner-within g m [] n walk = tt
inner-within g m (i ∷ []) n walk = (Has-within g i (λ node. Contains node.next n) walk.1, tt)
inner-within g m (i ∷ j ∷ inner) n walk = (Has-within g i (λ node. Contains node.next j) walk.1.0, inner-within g i (j ∷ inner) n walk.1)

-- facts of the inner nodes that hold of every node of the graph
pub inner-all : (g : List FlowNode) (P : ℕ → Type 0) → ((i : ℕ) → i < length g → P i) → (m : ℕ) (inner : List ℕ) (n : ℕ) → Walk g m inner n → AllByRecursion P inner
inner-all g P holds m inner n walk = all-weaker (λ i. i < length g) P holds inner (inner-within g m inner n walk)

pub all_on : (n i : ℕ) → i < n → IsOn (replicate n true) i
all_on n i within = get_or-replicate n i true false within

-- where every node is kept, a search that begins with a node finds what it reaches
pub reaches-by : (g : List FlowNode) (m n : ℕ) → Reaches g m n ↔ ((m ≡ n) ⊎ Arrives g (replicate (length g) true) m n)
reaches-by g m n = (
  λ reaches. ⊎_elim (λ same. inl same) (λ walk. inr (walk.0, walk.1, inner-all g (IsOn (replicate (length g) true)) (λ i within. all_on (length g) i within) m walk.0 n walk.1)) reaches,
  λ found. ⊎_elim (λ same. inl same) (λ walk. inr (walk.0, walk.1)) found,
)

-- ---- the marks of the nodes that stand elsewhere

pub not_true : (b : Bool) → b ≢ true → not b ≡ true
not_true true other = absurd (other refl)
not_true false other = refl

mark_of : (at here : ℕ) → (not (here == at) ≡ true) ↔ (here ≢ at)
mark_of at here = (λ is same. let yes = eq-eqb here at same in absurd (cc), λ other. not_true (here == at) (λ is. other (eqb-true here at is)))

-- a node's mark says that it stands elsewhere
pub avoids-by : (g : List FlowNode) (at n : ℕ) → n < length g → IsOn (marks_avoiding at g) n ↔ Avoids g at n
avoids-by [] at n within = absurd (omega arith)
avoids-by (x ∷ xs) at zero within = mark_of at x.at
avoids-by (x ∷ xs) at (suc n) within = avoids-by xs at n (omega arith)

pub all_both : (P Q R : ℕ → Type 0) → ((n : ℕ) → P n → Q n → R n) → (xs : List ℕ) → AllByRecursion P xs → AllByRecursion Q xs → AllByRecursion R xs
all_both P Q R both [] one two = tt
all_both P Q R both (x ∷ xs) one two = (both x one.0 two.0, all_both P Q R both xs one.1 two.1)

all-along : (g : List FlowNode) (kept : List Bool) (at m : ℕ) (inner : List ℕ) (n : ℕ) → ((i : ℕ) → i < length g → IsOn kept i ↔ Avoids g at i) → Walk g m inner n → AllByRecursion (IsOn kept) inner → AllByRecursion (Avoids g at) inner
all-along g kept at m inner n avoids walk all =
    all_both (λ i. i < length g) (IsOn kept) (Avoids g at) (λ i within on. (avoids i within).0 on) inner (inner-within g m inner n walk) all

all-back : (g : List FlowNode) (kept : List Bool) (at m : ℕ) (inner : List ℕ) (n : ℕ) → ((i : ℕ) → i < length g → IsOn kept i ↔ Avoids g at i) → Walk g m inner n → AllByRecursion (Avoids g at) inner → AllByRecursion (IsOn kept) inner
all-back g kept at m inner n avoids walk all =
    all_both (λ i. i < length g) (Avoids g at) (IsOn kept) (λ i within on. (avoids i within).1 on) inner (inner-within g m inner n walk) all

-- an end is met where the walk leads to one round the address
pub escapes-by : (g : List FlowNode) (kept marks : List Bool) (at from : ℕ) → ((n : ℕ) → n < length g → IsOn kept n ↔ Avoids g at n) → ((n : ℕ) → n < length g → IsOn marks n ↔ Arrives g kept from n) → from < length g → IsOn kept from → ¬ IsEnd g from → ((n : ℕ) × IsOn marks n × IsOn kept n × IsEnd g n) ↔ Escapes g at from
escapes-by g kept marks at from avoids arrives within keeps no_end = (
  λ met.
      let inside = Has-within g met.0 (λ node. IsTrue node.end) met.3 in
      let walk = (arrives met.0 inside).0 met.1 in (
        (avoids from within).0 keeps,
        inr (
          walk.0,
          met.0,
          walk.1,
          all-more (Avoids g at) walk.0 met.0
              (all-along g kept at from walk.0 met.0 avoids walk.1 walk.2)
              ((avoids met.0 inside).0 met.2),
          met.3,
        ),
      ),
  λ escapes.
      ⊎_elim (λ is. absurd (no_end is))
      (λ walk.
      let inside = Has-within g walk.1 (λ node. IsTrue node.end) walk.4 in
      let avoided = all-last (Avoids g at) walk.0 walk.1 walk.3 in (
        walk.1,
        (arrives walk.1 inside).1 (walk.0, walk.2, all-back g kept at from walk.0 walk.1 avoids walk.2 avoided.0),
        (avoids walk.1 inside).1 avoided.1,
        walk.4,
      ))
      escapes.1,
)

pub walk-within : (g : List FlowNode) (m : ℕ) (inner : List ℕ) (n : ℕ) → Walk g m inner n → m < length g
walk-within g m [] n walk = Has-within g m (λ node. Contains node.next n) walk
walk-within g m (i ∷ inner) n walk = Has-within g m (λ node. Contains node.next i) walk.0

on-avoiding : (g : List FlowNode) (at n : ℕ) → IsOn (marks_avoiding at g) n → n < length g
on-avoiding [] at n on = absurd (cc)
on-avoiding (x ∷ xs) at zero on = omega arith
on-avoiding (x ∷ xs) at (suc n) on = let within = on-avoiding xs at n on in omega (arith, within)

escapes-within : (g : List FlowNode) (at from : ℕ) → Escapes g at from → from < length g
escapes-within g at from escapes =
    ⊎_elim (λ is. Has-within g from (λ node. IsTrue node.end) is)
    (λ walk. walk-within g from walk.0 walk.1 walk.2)
    escapes.1

pub escapes-not : (g nodes : List FlowNode) (kept : List Bool) (at from : ℕ) → nodes ≡ g → kept ≡ marks_avoiding at nodes → ¬ IsOn kept from → IsTrue false ↔ Escapes g at from
escapes-not g nodes kept at from same is off =
    subst (λ ns. IsTrue false ↔ Escapes ns at from) same (
      λ never. absurd (cc),
      λ escapes. absurd (off (subst (λ ks. IsOn ks from) (sym is) ((avoids-by nodes at from (escapes-within nodes at from escapes)).1 escapes.0))),
    )

pub escapes-here : (g nodes : List FlowNode) (kept : List Bool) (at from : ℕ) → nodes ≡ g → kept ≡ marks_avoiding at nodes → IsOn kept from → IsEnd nodes from → IsTrue true ↔ Escapes g at from
escapes-here g nodes kept at from same is on end =
    subst (λ ns. IsTrue true ↔ Escapes ns at from) same (
      λ _. ((avoids-by nodes at from (Has-within nodes from (λ node. IsTrue node.end) end)).0 (subst (λ ks. IsOn ks from) is on), inl end),
      λ _. refl,
    )

pub escapes-met : (g nodes : List FlowNode) (kept marks : List Bool) (at from : ℕ) (r : Bool) → nodes ≡ g → kept ≡ marks_avoiding at nodes → IsOn kept from → ¬ IsEnd nodes from → ((n : ℕ) → n < length nodes → IsOn marks n ↔ Arrives nodes kept from n) → IsTrue r ↔ ((n : ℕ) × IsOn marks n × IsOn kept n × IsEnd nodes n) → IsTrue r ↔ Escapes g at from
escapes-met g nodes kept marks at from r same is on no_end arrives met =
    let avoids : (n : ℕ) → n < length nodes → IsOn kept n ↔ Avoids nodes at n = λ n within. subst (λ ks. IsOn ks n ↔ Avoids nodes at n) (sym is) (avoids-by nodes at n within) in
    let within : from < length nodes = on-avoiding nodes at from (subst (λ ks. IsOn ks from) is on) in
    let by = escapes-by nodes kept marks at from avoids arrives within on no_end in
    subst (λ ns. IsTrue r ↔ Escapes ns at from) same (λ yes. by.0 (met.0 yes), λ escapes. met.1 (by.1 escapes))
