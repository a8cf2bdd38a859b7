-- Edges by single walks.
use Rattle.std.proofs.Common.{◌≡◌, ◌≢◌, ◌⊎◌, inl, inr, ⊎_elim, ℕ, ◌+◌, ◌<◌, ◌≤◌, Bool, true, false, not, List, length, get_or, set, refl, sym, ◌∙◌, ap, subst, arith, IsTrue, get_or-set_same, get_or-set_other}
use Rattle.std.specs.Prelude.{◌↔◌, Contains}
use Rattle.std.proofs.lemmas.Bool.{cases_eq}
use Rattle.std.proofs.lemmas.List.{get_or_default}
use Rattle.flow_graph.specs.declared.graph.FlowNode.{FlowNode}
use Rattle.flow_graph.specs.FlowGraph.{MayUse, MayDefine, MustDefine, esp_place}
use Rattle.flow_graph.specs.Walks.{IsOn}
use Rattle.flow_graph.specs.Walks as walks
use Rattle.flow_graph.proofs.GraphLaws.{Has-from, Has-at, Has-within, slice_get-at}
use Rattle.flow_graph.proofs.WalkLaws.{inner-within, all_both}
use Rattle.dep_graph.specs.DepGraph.{DataEdge}
use Rattle.dep_graph.specs.Edges.{ListsPairs}
use Rattle.dep_graph.specs.Plain.{IsKind, KindEdge}
use Rattle.dep_graph.proofs.ListingLemmas.{lists-like}
use Rattle.item_list.proofs.TruthLaws.{not_says}

-- ---- the nodes that don't define the place for certain

-- the first i nodes are marked unless they must define the place
pub record Free (g : List FlowNode) (place : ℕ) (free : List Bool) (i : ℕ) : Type 0 where
  pub marks : (m : ℕ) → m < i → IsOn free m ↔ (¬ MustDefine g place m)

pub free-none : (g : List FlowNode) (place : ℕ) (free : List Bool) → Free g place free 0
free-none g place free = record { marks = λ m never. absurd (omega (arith, never)) }

pub free-more : (g : List FlowNode) (place : ℕ) (free : List Bool) (i : ℕ) (node : FlowNode) (must : Bool) → i < length g → i < length free → node ≡ get_or g i node → IsTrue must ↔ Contains node.must_def place → Free g place free i → Free g place (set free i (not must)) (i + 1)
free-more g place free i node must within room read says before = record {
  marks = λ m low.
      ⊎_elim
      (λ same.
      let is = slice_get-at g i node within read in
      subst (λ n. IsOn (set free i (not must)) n ↔ (¬ MustDefine g place n)) (sym same)
      (subst (λ b. IsTrue b ↔ (¬ MustDefine g place i)) (sym (get_or-set_same free i (not must) false room)) (
        λ on defines. (not_says must).0 on (says.1 (Has-at g i node (λ n. Contains n.must_def place) is defines)),
        λ none. (not_says must).1 (λ on. none (Has-from g i node (λ n. Contains n.must_def place) is (says.0 on))),
      )))
      (λ other. subst (λ b. IsTrue b ↔ (¬ MustDefine g place m)) (sym (get_or-set_other free i m (not must) false other)) (before.marks m (let off : m ≢ i = other in omega (arith, low, off))))
      (cases_eq m i);
}

-- ---- marks one after the other

-- those of the first i numbers of which this holds are marked besides the first marks
abbrev pub MarksBelow : (ℕ → Type 0) → List Bool → List Bool → ℕ → Type 0
MarksBelow P first row i = (n : ℕ) → n < length first → IsOn row n ↔ (IsOn first n ⊎ ((n < i) × P n))

pub marks_below-none : (P : ℕ → Type 0) (row : List Bool) → MarksBelow P row row 0
marks_below-none P row n within = (λ on. inl on, λ either. ⊎_elim (λ on. on) (λ new. let never : n < 0 = new.0 in absurd (omega (arith, never))) either)

pub marks_below-more : (P : ℕ → Type 0) (first old new : List Bool) (i : ℕ) (is_set : Bool) → length old ≡ length first → IsTrue is_set ↔ P i → ((n : ℕ) → n < length old → IsOn new n ↔ (IsOn old n ⊎ (IsTrue is_set × (n ≡ i)))) → MarksBelow P first old i → MarksBelow P first new (i + 1)
marks_below-more P first old new i is_set len says sets before n within =
    let sets_here = sets n (omega (arith, within, len)) in (
      λ on. ⊎_elim (λ was. ⊎_elim (λ f. inl f) (λ p. inr ((let low : n < i = p.0 in omega (arith, low)), p.1)) ((before n within).0 was))
          (λ new. inr ((let same : n ≡ i = new.1 in omega (arith, same)), subst P (sym new.1) (says.0 new.0)))
          (sets_here.0 on),
      λ either.
          ⊎_elim (λ f. sets_here.1 (inl ((before n within).1 (inl f))))
          (λ p. ⊎_elim (λ same. sets_here.1 (inr (says.1 (subst P same p.1), same)))
          (λ other. sets_here.1 (inl ((before n within).1 (inr ((let low : n < i + 1 = p.0 in let off : n ≢ i = other in omega (arith, low, off)), p.1)))))
          (cases_eq n i))
          either,
    )

-- a node that is marked and may use the place
abbrev pub IsUserAt : List FlowNode → List Bool → ℕ → ℕ → Type 0
IsUserAt g marks place n = IsOn marks n × MayUse g place n

pub user-at : (g : List FlowNode) (marks : List Bool) (place n : ℕ) (node : FlowNode) (is : Bool) → n < length g → node ≡ get_or g n node → IsTrue is ↔ (IsOn marks n × Contains node.may_use place) → IsTrue is ↔ IsUserAt g marks place n
user-at g marks place n node is within read says =
    let at = slice_get-at g n node within read in (
      λ yes. let both = says.0 yes in (both.0, Has-from g n node (λ o. Contains o.may_use place) at both.1),
      λ both. says.1 (both.0, Has-at g n node (λ o. Contains o.may_use place) at both.1),
    )

pub users-all : (g : List FlowNode) (marks first row : List Bool) (place i : ℕ) → length g ≤ i → MarksBelow (IsUserAt g marks place) first row i → (n : ℕ) → n < length first → IsOn row n ↔ (IsOn first n ⊎ (IsOn marks n × MayUse g place n))
users-all g marks first row place i all below n within =
    let by = below n within in (
      λ on. ⊎_elim (λ f. inl f) (λ p. inr p.1) (by.0 on),
      λ either. by.1 (⊎_elim (λ f. inl f) (λ p. inr ((let inside = Has-within g n (λ o. Contains o.may_use place) p.1 in omega (arith, inside, all)), p)) either),
    )

-- ---- one walk

-- a walk over nodes that don't define the place for certain, to a node that may use it, is an edge
pub walked-edge : (g : List FlowNode) (place from : ℕ) (free marks first row : List Bool) → MayDefine g place from → ((m : ℕ) → m < length g → IsOn free m ↔ (¬ MustDefine g place m)) → ((n : ℕ) → n < length g → IsOn marks n ↔ walks.Arrives g free from n) → ((n : ℕ) → n < length first → IsOn row n ↔ (IsOn first n ⊎ (IsOn marks n × MayUse g place n))) → (n : ℕ) → n < length first → IsOn row n ↔ (IsOn first n ⊎ DataEdge g place from n)
walked-edge g place from free marks first row defines frees arrives adds n within =
    let by = adds n within in (
      λ on. ⊎_elim (λ f. inl f)
          (λ both.
          let inside = Has-within g n (λ o. Contains o.may_use place) both.1 in
          let walk = (arrives n inside).0 both.0 in
          inr (record {
            defines = defines;
            uses = both.1;
            inner = walk.0;
            walk = walk.1;
            kept = all_both (λ i. i < length g) (IsOn free) (λ i. ¬ MustDefine g place i) (λ i low is. (frees i low).0 is) walk.0 (inner-within g from walk.0 n walk.1) walk.2;
          }))
          (by.0 on),
      λ either. by.1 (⊎_elim (λ f. inl f)
          (λ edge.
          let inside = Has-within g n (λ o. Contains o.may_use place) edge.uses in
          inr (
            (arrives n inside).1 (
              edge.inner,
              edge.walk,
              all_both (λ i. i < length g) (λ i. ¬ MustDefine g place i) (IsOn free) (λ i low none. (frees i low).1 none) edge.inner (inner-within g from edge.inner n edge.walk) edge.kept,
            ),
            edge.uses,
          ))
          either),
    )

-- ---- place by place

-- an edge goes from the node by one of the first i of these places, where it is of this kind
abbrev pub EdgeFrom : List FlowNode → Bool → List ℕ → ℕ → ℕ → ℕ → Type 0
EdgeFrom g is_sp places i from n = (j : ℕ) × (j < i) × IsKind is_sp (get_or places j 0) × DataEdge g (get_or places j 0) from n

-- what a row has of them
pub record Walked (g : List FlowNode) (is_sp : Bool) (places : List ℕ) (from : ℕ) (first row : List Bool) (i : ℕ) : Type 0 where
  pub len : length row ≡ length first
  pub marks : (n : ℕ) → n < length first → IsOn row n ↔ (IsOn first n ⊎ EdgeFrom g is_sp places i from n)

pub walked-none : (g : List FlowNode) (is_sp : Bool) (places : List ℕ) (from : ℕ) (row : List Bool) → Walked g is_sp places from row row 0
walked-none g is_sp places from row = record {
  len = refl;
  marks = λ n within. (λ on. inl on, λ either. ⊎_elim (λ on. on) (λ e. let never : e.0 < 0 = e.1 in absurd (omega (arith, never))) either);
}

pub walked-more : (g : List FlowNode) (is_sp : Bool) (places : List ℕ) (from : ℕ) (first old new : List Bool) (i place : ℕ) → place ≡ get_or places i 0 → IsKind is_sp place → length new ≡ length old → ((n : ℕ) → n < length old → IsOn new n ↔ (IsOn old n ⊎ DataEdge g place from n)) → Walked g is_sp places from first old i → Walked g is_sp places from first new (i + 1)
walked-more g is_sp places from first old new i place read kind len adds before = record {
  len = len ∙ before.len;
  marks = λ n within.
      let was = before.marks n within in
      let here = adds n (let same = before.len in omega (arith, within, same)) in (
        λ on. ⊎_elim (λ o. ⊎_elim (λ f. inl f) (λ e. inr (e.0, (let low : e.0 < i = e.1 in omega (arith, low)), e.2, e.3)) (was.0 o))
            (λ e. inr (i, omega arith, subst (λ p. IsKind is_sp p) read kind, subst (λ p. DataEdge g p from n) read e))
            (here.0 on),
        λ either.
            ⊎_elim (λ f. here.1 (inl (was.1 (inl f))))
            (λ e.
            let low : e.0 < i + 1 = e.1 in
            ⊎_elim (λ last. here.1 (inr (subst (λ p. DataEdge g p from n) (ap (λ j. get_or places j 0) last ∙ sym read) e.3)))
            (λ other. let off : e.0 ≢ i = other in here.1 (inl (was.1 (inr (e.0, omega (arith, low, off), e.2, e.3)))))
            (cases_eq e.0 i))
            either,
      );
}

pub walked-skip : (g : List FlowNode) (is_sp : Bool) (places : List ℕ) (from : ℕ) (first row : List Bool) (i place : ℕ) → place ≡ get_or places i 0 → ¬ IsKind is_sp place → Walked g is_sp places from first row i → Walked g is_sp places from first row (i + 1)
walked-skip g is_sp places from first row i place read other before = record {
  len = before.len;
  marks = λ n within.
      let was = before.marks n within in (
        λ on. ⊎_elim (λ f. inl f) (λ e. inr (e.0, (let low : e.0 < i = e.1 in omega (arith, low)), e.2, e.3)) (was.0 on),
        λ either. was.1 (⊎_elim (λ f. inl f)
            (λ e.
            let low : e.0 < i + 1 = e.1 in
            ⊎_elim (λ last. absurd (other (subst (λ p. IsKind is_sp p) (ap (λ j. get_or places j 0) last ∙ sym read) e.2)))
            (λ o. let off : e.0 ≢ i = o in inr (e.0, omega (arith, low, off), e.2, e.3))
            (cases_eq e.0 i))
            either),
      );
}

pub walked-all : (g : List FlowNode) (is_sp : Bool) (places : List ℕ) (from : ℕ) (first row : List Bool) (i : ℕ) (node : FlowNode) → from < length g → node ≡ get_or g from node → places ≡ node.may_def → length places ≤ i → Walked g is_sp places from first row i → (n : ℕ) → n < length first → IsOn row n ↔ (IsOn first n ⊎ KindEdge g is_sp from n)
walked-all g is_sp places from first row i node inside read same all walked n within =
    let at = slice_get-at g from node inside read in
    let by = walked.marks n within in (
      λ on. ⊎_elim (λ f. inl f) (λ e. inr (get_or places e.0 0, e.2, e.3)) (by.0 on),
      λ either. by.1 (⊎_elim (λ f. inl f)
          (λ e.
          let among : Contains places e.0 = subst (λ (xs : List ℕ). Contains xs e.0) (sym same) (Has-at g from node (λ o. Contains o.may_def e.0) at e.2.defines) in
          let low : among.0 < length places = among.1 in
          let here : get_or places among.0 0 ≡ e.0 = get_or_default places among.0 0 e.0 low ∙ among.2 in
          inr (among.0, omega (arith, low, all), subst (λ p. IsKind is_sp p) (sym here) e.1, subst (λ p. DataEdge g p from n) (sym here) e.2))
          either),
    )

-- ---- all nodes

pub kind-within : (g : List FlowNode) (is_sp : Bool) (m n : ℕ) → KindEdge g is_sp m n → m < length g
kind-within g is_sp m n e = Has-within g m (λ node. Contains node.may_def e.0) e.2.defines

pub kind-inside : (g : List FlowNode) (is_sp : Bool) (m n : ℕ) → KindEdge g is_sp m n → n < length g
kind-inside g is_sp m n e = Has-within g n (λ node. Contains node.may_use e.0) e.2.uses

pub sp-kind : (g : List FlowNode) (edges : List (ℕ × ℕ)) → ListsPairs (KindEdge g true) edges → ListsPairs (DataEdge g esp_place) edges
sp-kind g edges lists =
    lists-like (KindEdge g true) (DataEdge g esp_place) edges
    (λ m n. (λ e. subst (λ p. DataEdge g p m n) e.1 e.2, λ e. (esp_place, refl, e))) lists
