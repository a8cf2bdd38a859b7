-- Rows of bits that follow the users of a place back.
use Rattle.std.proofs.Common.{◌≡◌, ◌≢◌, ◌⊎◌, inl, inr, ⊎_elim, ℕ, ◌+◌, ◌<◌, ◌≤◌, Bool, List, [], ◌∷◌, ◌++◌, length, get_or, set, take, drop, Some, refl, sym, ◌∙◌, ap, subst, arith, IsTrue, get_or-set_same, get_or-set_other}
use Rattle.std.specs.Prelude.{◌↔◌, All, Contains, slice_get, slice_index}
use Rattle.std.specs.List.{AllByRecursion}
use Rattle.std.proofs.lemmas.Bool.{cases_eq}
use Rattle.std.proofs.lemmas.List.{get_or_default, take-append-drop}
use Rattle.std.proofs.lemmas.List.Elements.{All-drop, Contains-get_or, Contains-append_left, Contains-append_right, Contains-append_cases}
use Rattle.std.proofs.lemmas.Nat.Bits.{bit_at_ones}
use Rattle.flow_graph.specs.declared.graph.FlowNode.{FlowNode}
use Rattle.flow_graph.specs.FlowGraph.{IsStep, MayUse, MustDefine, Walk}
use Rattle.flow_graph.specs.Rows.{IsBit, HasBit, BeginsAt, Comes}
use Rattle.flow_graph.specs.Walks.{IsOn}
use Rattle.flow_graph.proofs.GraphLaws.{Has-from, Has-at, Has-within, slice_get-at}
use Rattle.flow_graph.proofs.RowLaws.{comes-by}
use Rattle.flow_graph.proofs.WalkLaws.{inner-within, all_both, walk-within}
use Rattle.dep_graph.specs.DepGraph.{Arrives, DataEdge}
use Rattle.dep_graph.specs.Edges.{ArrivesAt, Adds, KeepsUnless, IsRowHit, RowHit, EdgeBy}
use Rattle.dep_graph.proofs.PairLemmas.{adds-then}

-- ---- what is kept

pub ones-bit : (word k : ℕ) → word ≡ 18446744073709551615 → k < 64 → IsBit word k
unfolding IsBit
ones-bit word k is small = subst (λ w. IsBit w k) (sym is) (bit_at_ones 64 k small)

pub record Keeping (g : List FlowNode) (place : ℕ) (kept : List ℕ) (i : ℕ) : Type 0 where
  pub keeps : (m k : ℕ) → m < i → k < 64 → HasBit kept m k ↔ (¬ MustDefine g place m)

pub keeping-none : (g : List FlowNode) (place : ℕ) (kept : List ℕ) → Keeping g place kept 0
keeping-none g place kept = record { keeps = λ m k low small. absurd (omega (arith, low)) }

pub keeping-more : (g : List FlowNode) (place : ℕ) (kept : List ℕ) (i : ℕ) (node : FlowNode) (word : ℕ) (must : Bool) → i < length g → i < length kept → node ≡ get_or g i node → IsTrue must ↔ Contains node.must_def place → ((k : ℕ) → k < 64 → IsBit word k ↔ (¬ IsTrue must)) → Keeping g place kept i → Keeping g place (set kept i word) (i + 1)
keeping-more g place kept i node word must within room read says bits keeping = record {
  keeps = λ m k low small.
      ⊎_elim
      (λ same.
      let is = slice_get-at g i node within read in
      subst (λ n. HasBit (set kept i word) n k ↔ (¬ MustDefine g place n)) (sym same)
      (subst (λ w. IsBit w k ↔ (¬ MustDefine g place i)) (sym (get_or-set_same kept i word 0 room)) (
        λ bit defines. (bits k small).0 bit (says.1 (Has-at g i node (λ n. Contains n.must_def place) is defines)),
        λ free. (bits k small).1 (λ on. free (Has-from g i node (λ n. Contains n.must_def place) is (says.0 on))),
      )))
      (λ other. subst (λ w. IsBit w k ↔ (¬ MustDefine g place m)) (sym (get_or-set_other kept i m word 0 other)) (keeping.keeps m k (let off : m ≢ i = other in omega (arith, low, off)) small))
      (cases_eq m i);
}

pub keeping-all : (g : List FlowNode) (place : ℕ) (kept : List ℕ) (i : ℕ) → length g ≤ i → Keeping g place kept i → KeepsUnless g place kept
keeping-all g place kept i all keeping m k within small = keeping.keeps m k (omega (arith, all, within)) small

-- ---- what arrives

from-walk : (g : List FlowNode) (place : ℕ) (kept begun rows : List ℕ) (m k n : ℕ) (inner : List ℕ) → KeepsUnless g place kept → k < 64 → HasBit begun n k → ((o j : ℕ) → HasBit rows o j ↔ Comes g kept begun j o) → Walk g m inner n → AllByRecursion (λ i. ¬ MustDefine g place i) inner → (next : ℕ) × IsStep g m next × HasBit rows next k
from-walk g place kept begun rows m k n [] keeps small start grown walk all =
    (n, walk, (grown n k).1 ((comes-by g kept begun k n).1 (record { last = n; begins = start; by = inl refl })))
from-walk g place kept begun rows m k n (i ∷ inner) keeps small start grown walk all = (
  i,
  walk.0,
  (grown i k).1 ((comes-by g kept begun k i).1 (record {
    last = n;
    begins = start;
    by = inr (
      (keeps i k (walk-within g i inner n walk.1) small).1 all.0,
      inner,
      walk.1,
      all_both (λ j. j < length g) (λ j. ¬ MustDefine g place j) (λ j. HasBit kept j k) (λ j w free. (keeps j k w small).1 free) inner (inner-within g i inner n walk.1) all.1,
    );
  })),
)

-- a node at which bit k has come leads to the k-th of these nodes, and a step to such a node is a walk to it
pub arrives-by : (g : List FlowNode) (place : ℕ) (kept begun rows targets : List ℕ) (size m k : ℕ) → KeepsUnless g place kept → length targets ≤ 64 → length g ≤ size → All (λ n. n < length g) targets → ((n j : ℕ) → HasBit begun n j ↔ BeginsAt targets size (length targets) n j) → ((n j : ℕ) → HasBit rows n j ↔ Comes g kept begun j n) → ((next : ℕ) × IsStep g m next × HasBit rows next k) ↔ ((k < length targets) × Arrives g place m (slice_index targets k))
arrives-by g place kept begun rows targets size m k keeps few room inside begins grown = (
  λ from.
      let led = (comes-by g kept begun k from.0).0 ((grown from.0 k).0 from.2) in
      let start = (begins led.last k).0 led.begins in
      let last : led.last ≡ get_or targets k 0 = sym start.at in
      let among = start.among in
      let small : k < 64 = omega (arith, among, few) in (
        start.among,
        ⊎_elim (λ same. ([], subst (λ n. IsStep g m n) (same ∙ last) from.1, tt))
            (λ walk. (
              from.0 ∷ walk.1,
              (from.1, subst (λ n. Walk g from.0 walk.1 n) last walk.2),
              (
                (keeps from.0 k (walk-within g from.0 walk.1 led.last walk.2) small).0 walk.0,
                all_both (λ i. i < length g) (λ i. HasBit kept i k) (λ i. ¬ MustDefine g place i) (λ i w has. (keeps i k w small).0 has) walk.1 (inner-within g from.0 walk.1 led.last walk.2) walk.3,
              ),
            ))
            led.by,
      ),
  λ to.
      let among : k < length targets = to.0 in
      let small : k < 64 = omega (arith, among, few) in
      let here : get_or targets k 0 < length g = inside k 0 among in
      let start : HasBit begun (get_or targets k 0) k = (begins (get_or targets k 0) k).1 (record { among = among; at = refl; within = omega (arith, here, room) }) in
      from-walk g place kept begun rows m k (get_or targets k 0) to.1.0 keeps small start grown to.1.1 to.1.2,
)

-- ---- the rows of pairs

pub row_hit-at : (g : List FlowNode) (rows : List ℕ) (place : ℕ) (targets : List ℕ) (m n : ℕ) (node : FlowNode) → slice_get g m ≡ Some node → IsRowHit node rows place targets n ↔ RowHit g rows place targets m n
row_hit-at g rows place targets m n node is = (
  λ hit. (Has-from g m node (λ o. Contains o.may_def place) is hit.0, (hit.1.0, hit.1.1, hit.1.2, (hit.1.3.0, Has-from g m node (λ o. Contains o.next hit.1.3.0) is hit.1.3.1, hit.1.3.2))),
  λ hit. (Has-at g m node (λ o. Contains o.may_def place) is hit.0, (hit.1.0, hit.1.1, hit.1.2, (hit.1.3.0, Has-at g m node (λ o. Contains o.next hit.1.3.0) is hit.1.3.1, hit.1.3.2))),
)

pub row_hit-arrives : (g : List FlowNode) (place : ℕ) (rows targets : List ℕ) → ((m k : ℕ) → ((next : ℕ) × IsStep g m next × HasBit rows next k) ↔ ((k < length targets) × Arrives g place m (slice_index targets k))) → (m n : ℕ) → RowHit g rows place targets m n ↔ ArrivesAt g place targets m n
row_hit-arrives g place rows targets by m n = (
  λ hit.
      let k = hit.1.0 in
      let arrives = ((by m hit.1.0).0 hit.1.3).1 in
      record {
        defines = hit.0;
        target = subst (λ o. Contains targets o) hit.1.2 (Contains-get_or targets hit.1.0 0 hit.1.1);
        arrives = subst (λ o. Arrives g place m o) hit.1.2 arrives;
      },
  λ a.
      let place_of = a.target in
      let is : get_or targets a.target.0 0 ≡ n = get_or_default targets a.target.0 0 n a.target.1 ∙ a.target.2 in
      (a.defines, (a.target.0, a.target.1, is, (by m a.target.0).1 (a.target.1, subst (λ o. Arrives g place m o) (sym is) a.arrives))),
)

pub row_hit-inside : (g : List FlowNode) (rows : List ℕ) (place : ℕ) (targets : List ℕ) (m n : ℕ) → All (λ o. o < length g) targets → RowHit g rows place targets m n → n < length g
row_hit-inside g rows place targets m n inside hit = subst (λ o. o < length g) hit.1.2 (inside hit.1.0 0 hit.1.1)

pub row_hit-within : (g : List FlowNode) (rows : List ℕ) (place : ℕ) (targets : List ℕ) (m n : ℕ) → RowHit g rows place targets m n → m < length g
row_hit-within g rows place targets m n hit = Has-within g m (λ o. Contains o.may_def place) hit.0

-- ---- targets by parts

pub arrives-parts : (g : List FlowNode) (place : ℕ) (first after : List ℕ) (m n : ℕ) → ArrivesAt g place (first ++ after) m n ↔ (ArrivesAt g place first m n ⊎ ArrivesAt g place after m n)
arrives-parts g place first after m n = (
  λ a. ⊎_elim (λ in_first. inl (record { defines = a.defines; target = in_first; arrives = a.arrives })) (λ in_after. inr (record { defines = a.defines; target = in_after; arrives = a.arrives })) (Contains-append_cases first after n a.target),
  λ either. ⊎_elim (λ a. record { defines = a.defines; target = Contains-append_left first after n a.target; arrives = a.arrives }) (λ a. record { defines = a.defines; target = Contains-append_right first after n a.target; arrives = a.arrives }) either,
)

pub arrives-none : (g : List FlowNode) (place m n : ℕ) → ¬ ArrivesAt g place [] m n
arrives-none g place m n a = let never : a.target.0 < 0 = a.target.1 in absurd (omega (arith, never))

-- what arrives at the users of a place is an edge
pub arrives-edge : (g : List FlowNode) (place : ℕ) (users : List ℕ) → ((n : ℕ) → Contains users n ↔ MayUse g place n) → (m n : ℕ) → ArrivesAt g place users m n ↔ DataEdge g place m n
arrives-edge g place users uses m n = (
  λ a. record { defines = a.defines; uses = (uses n).0 a.target; inner = a.arrives.0; walk = a.arrives.1; kept = a.arrives.2 },
  λ e. record { defines = e.defines; target = (uses n).1 e.uses; arrives = (e.inner, e.walk, e.kept) },
)

-- ---- place by place

-- an edge goes by one of the first i places
abbrev pub EdgeBelow : List FlowNode → List ℕ → ℕ → ℕ → ℕ → Type 0
EdgeBelow g places i m n = (j : ℕ) × (j < i) × DataEdge g (get_or places j 0) m n

pub edge-more : (g : List FlowNode) (places : List ℕ) (i place m n : ℕ) → place ≡ get_or places i 0 → EdgeBelow g places (i + 1) m n ↔ (EdgeBelow g places i m n ⊎ DataEdge g place m n)
edge-more g places i place m n read = (
  λ e.
      let below : e.0 < i + 1 = e.1 in
      ⊎_elim (λ last. inr (subst (λ p. DataEdge g p m n) (ap (λ j. get_or places j 0) last ∙ sym read) e.2)) (λ other. inl (e.0, (let off : e.0 ≢ i = other in omega (arith, below, off)), e.2)) (cases_eq e.0 i),
  λ either. ⊎_elim (λ e. (e.0, (let below : e.0 < i = e.1 in omega (arith, below)), e.2)) (λ e. (i, omega arith, subst (λ p. DataEdge g p m n) read e)) either,
)

pub edge-by : (g : List FlowNode) (places : List ℕ) (i m n : ℕ) → i ≡ length places → EdgeBelow g places i m n ↔ EdgeBy g places m n
edge-by g places i m n all = (
  λ e. let within : e.0 < length places = (let b : e.0 < i = e.1 in omega (arith, b, all)) in (get_or places e.0 0, Contains-get_or places e.0 0 within, e.2),
  λ e. let within : e.1.0 < length places = e.1.1 in (e.1.0, omega (arith, within, all), subst (λ p. DataEdge g p m n) (sym (get_or_default places e.1.0 0 e.0 within ∙ e.1.2)) e.2),
)

-- ---- the loop over parts

pub inside-part : (g : List FlowNode) (rest after : List ℕ) (count : ℕ) → after ≡ drop count rest → All (λ n. n < length g) rest → All (λ n. n < length g) after
inside-part g rest after count is inside = subst (λ xs. All (λ n. n < length g) xs) (sym is) (All-drop (λ n. n < length g) count rest inside)

pub later-part : (g : List FlowNode) (place : ℕ) (rest chunk after : List ℕ) (count : ℕ) (old mid new : List (List Bool)) → chunk ≡ take count rest → after ≡ drop count rest → Adds (ArrivesAt g place chunk) old mid → Adds (ArrivesAt g place after) mid new → Adds (ArrivesAt g place rest) old new
later-part g place rest chunk after count old mid new chunk_is after_is first second =
    let whole : chunk ++ after ≡ rest = ap (λ xs. xs ++ after) chunk_is ∙ ap (λ xs. take count rest ++ xs) after_is ∙ take-append-drop count rest in
    subst (λ xs. Adds (ArrivesAt g place xs) old new) whole
    (adds-then (ArrivesAt g place chunk) (ArrivesAt g place after) (ArrivesAt g place (chunk ++ after)) old mid new (λ m n. arrives-parts g place chunk after m n) first second)

-- what a row gets, by the number of its node
pub row_marks : (g : List FlowNode) (rows : List ℕ) (place : ℕ) (targets : List ℕ) (m : ℕ) (node : FlowNode) (row new : List Bool) → slice_get g m ≡ Some node → ((n : ℕ) → n < length row → IsOn new n ↔ (IsOn row n ⊎ IsRowHit node rows place targets n)) → (n : ℕ) → n < length row → IsOn new n ↔ (IsOn row n ⊎ RowHit g rows place targets m n)
row_marks g rows place targets m node row new is marks n within =
    let at = row_hit-at g rows place targets m n node is in (
      λ on. ⊎_elim (λ was. inl was) (λ hit. inr (at.0 hit)) ((marks n within).0 on),
      λ either. (marks n within).1 (⊎_elim (λ was. inl was) (λ hit. inr (at.1 hit)) either),
    )

-- ---- users

pub uses-at : (g : List FlowNode) (place n : ℕ) (node : FlowNode) (uses : Bool) → n < length g → node ≡ get_or g n node → IsTrue uses ↔ Contains node.may_use place → IsTrue uses ↔ MayUse g place n
uses-at g place n node uses within read says =
    let is = slice_get-at g n node within read in
    (λ on. Has-from g n node (λ o. Contains o.may_use place) is (says.0 on), λ used. says.1 (Has-at g n node (λ o. Contains o.may_use place) is used))

pub users-inside : (g : List FlowNode) (place : ℕ) (users : List ℕ) → ((n : ℕ) → Contains users n ↔ MayUse g place n) → All (λ n. n < length g) users
users-inside g place users uses k d within =
    Has-within g (get_or users k d) (λ o. Contains o.may_use place) ((uses (get_or users k d)).0 (Contains-get_or users k d within))

pub uses-like : (g : List FlowNode) (place : ℕ) (users items : List ℕ) → users ≡ items → ((n : ℕ) → Contains items n ↔ MayUse g place n) → (n : ℕ) → Contains users n ↔ MayUse g place n
uses-like g place users items same uses n = subst (λ xs. Contains xs n ↔ MayUse g place n) (sym same) (uses n)
